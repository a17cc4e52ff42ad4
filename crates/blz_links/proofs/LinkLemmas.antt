-- What the checks of a link say, one after the other.
use Rattle.std.proofs.Common.{◌≡◌, ◌≤◌, ℕ, true, false, nat_le, List, length, subst, Some, None, Result, Ok, Err, IfErr, refl, sym, ap, codes}
use Rattle.std.specs.Int.{next_multiple_of}
use Rattle.std.proofs.lemmas.Bool.{le-leb}
use Rattle.std.specs.Str.{is_utf8}
use Rattle.blz_error.specs.Texts.{Bytes}
use Rattle.blz_error.specs.Fault.{Fault}
use Rattle.blz_error.specs.Reports.{fault_of}
use Rattle.blz_error.specs.declared.kind.ErrorKind.TheVariants.{InvalidData}
use Rattle.blz_model.specs.declared.byte_order.ByteOrder.{ByteOrder}
use Rattle.blz_model.specs.Part.{Exactly}
use Rattle.blz_model.specs.Reads.{Read, number}
use Rattle.blz_bytes.specs.Pieces.{zero_ended}
use Rattle.blz_links.specs.LinkChecks.{Checked, ◌>>=◌, as_part, debug_link_checks, is_empty, or_text, seen_by, target}
use Rattle.blz_links.specs.LinkValues.{DebugLinkValue}

pub target-text : (bytes : List ℕ) (at : ℕ) (unended text : Bytes) (next : ℕ) → zero_ended bytes at ≡ Some (text, next) → is_utf8 text ≡ true → target bytes at unended ≡ Ok (text, next)
unfolding target
target-text bytes at unended text next read utf8 = rw (read, utf8) refl

pub target-no_text : (bytes : List ℕ) (at : ℕ) (unended text : Bytes) (next : ℕ) → zero_ended bytes at ≡ Some (text, next) → is_utf8 text ≡ false → target bytes at unended ≡ Err (fault_of InvalidData (codes "link target is not text"))
unfolding target
target-no_text bytes at unended text next read utf8 = rw (read, utf8) refl

-- An answer that is what the checks give is what they give as a part.
pub exactly_seen : {X Y : Type 0} (view : X → Y) (result : Result X Fault) (checks : Checked Y) → seen_by view result ≡ checks → IfErr result (λ e. e.kind ≡ InvalidData) → Exactly view result (as_part checks)
exactly_seen view (Ok x) checks e kind = ap as_part (sym e)
exactly_seen view (Err fault) checks e kind = (ap as_part (sym e), λ memory. cc)

-- the checksum behind a name
abbrev pub read_checksum : Read ℕ → List ℕ → Checked DebugLinkValue
read_checksum None file = Err (fault_of InvalidData (codes "failed to read debug link checksum"))
read_checksum (Some checksum) file = Ok (record { file = file; checksum = checksum.0 })

-- `.gnu_debuglink` with a name and its padding
pub debug_link_checks-padded : (order : ByteOrder) (bytes file : List ℕ) (next at : ℕ) → Ok (file, next) ≡ target bytes 0 (codes "failed to read debug link file name") → false ≡ is_empty file → at ≡ next_multiple_of next 4 → at ≤ length bytes
    → debug_link_checks order bytes ≡ read_checksum (number order 4 bytes at) file
unfolding debug_link_checks
debug_link_checks-padded order bytes file next at named some padded inside =
    let fits : nat_le (next_multiple_of next 4) (length bytes) ≡ true = le-leb _ _ (subst (λ k. k ≤ length bytes) padded inside) in
    rw (sym named, sym some, fits, sym padded) (by (number order 4 bytes at))
  where
    by : (read : Read ℕ) → (or_text read (codes "failed to read debug link checksum") >>= λ checksum. Ok (record { file = file; checksum = checksum.0 })) ≡ read_checksum read file
    by None = refl
    by (Some x) = refl
