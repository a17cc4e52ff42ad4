-- The sections that lead to another file: `.gnu_debuglink` and `.gnu_debugaltlink` (GNU debug links) and `.debug_sup`
-- (DWARF 5 section 7.3.6). Their checks go from left to right.
use Rattle.std.specs.Prelude.{ℕ, ◌==◌, Bool, true, false, not, List, length, drop, Option, Some, None, Result, Ok, Err, codes, if◌then◌else◌}
use Rattle.std.specs.Str.{is_utf8}
use Rattle.blz_error.specs.Texts.{Bytes}
use Rattle.blz_error.specs.Fault.{Fault}
use Rattle.blz_error.specs.Reports.{fault_of}
use Rattle.blz_error.specs.declared.kind.ErrorKind.TheVariants.{InvalidData}
use Rattle.blz_model.specs.declared.byte_order.ByteOrder.{ByteOrder}
use Rattle.blz_model.specs.Part.{Part, Good, Broken}
use Rattle.blz_model.specs.LebNumbers.{uleb}
use Rattle.blz_model.specs.Reads.{number}
use Rattle.blz_bytes.specs.Pieces.{aligned, byte, piece, zero_ended}
use Rattle.blz_links.specs.LinkValues.{DebugLinkValue, DebugAltlinkValue, DebugSupValue}

-- what is read, or the error of the first check that fails
abbrev pub Checked : Type 0 → Type 0
Checked A = Result A Fault

-- a check, then another over what was read; the first that fails decides
infixl 10 ◌>>=◌
abbrev pub ◌>>=◌ : {A B : Type 0} → Checked A → (A → Checked B) → Checked B
(Ok x) >>= f = f x
(Err e) >>= f = Err e

-- a value that has to be there, else the data are invalid
abbrev pub or_text : {A : Type 0} → Option A → Bytes → Checked A
or_text None text = Err (fault_of InvalidData text)
or_text (Some x) text = Ok x

-- a test that has to pass
abbrev pub must : Bool → Bytes → Checked (Unit {0})
must true text = Ok tt
must false text = Err (fault_of InvalidData text)

-- a value that is there
abbrev pub then_some : {A : Type 0} → Checked A → Checked (Option A)
then_some (Ok x) = Ok (Some x)
then_some (Err e) = Err e

-- a call's answer, seen in this way
abbrev pub seen_by : {X Y : Type 0} → (X → Y) → Result X Fault → Checked Y
seen_by view (Ok x) = Ok (view x)
seen_by view (Err e) = Err e

-- as a part of the file
abbrev pub as_part : {A : Type 0} → Checked A → Part A
as_part (Ok x) = Good x
as_part (Err e) = Broken e.kind

-- the name or path of another file, which ends at a zero byte and is UTF-8, and the place behind the zero
unfoldable pub target : List ℕ → ℕ → Bytes → Checked (List ℕ × ℕ)
target bytes at unended = do
  text ← or_text (zero_ended bytes at) unended
  utf8 ← must (is_utf8 text.0) (codes "link target is not text")
  Ok text

-- whether there are no bytes
abbrev pub is_empty : List ℕ → Bool
is_empty bytes = length bytes == 0

-- ---- `.gnu_debuglink`: a name, a zero byte, padding to a multiple of four, a checksum of four bytes

-- the file name and the checksum of a debug file (GNU debug links)
unfoldable pub debug_link_checks : ByteOrder → List ℕ → Checked DebugLinkValue
debug_link_checks order bytes = do
  file ← target bytes 0 (codes "failed to read debug link file name")
  named ← must (not (is_empty file.0)) (codes "debug link target is empty")
  padded ← or_text (aligned 4 bytes file.1) (codes "debug link section contains insufficient data: checksum not found")
  checksum ← or_text (number order 4 bytes padded.1) (codes "failed to read debug link checksum")
  Ok (record { file = file.0; checksum = checksum.0 })

-- the same as a part of the file
abbrev pub debug_link_of : ByteOrder → List ℕ → Part DebugLinkValue
debug_link_of order bytes = as_part (debug_link_checks order bytes)

-- ---- `.gnu_debugaltlink`: a path, a zero byte, and a build id up to the end

-- the path and the build id of the file that several debug files share (GNU debug links)
unfoldable pub debug_altlink_checks : List ℕ → Checked DebugAltlinkValue
debug_altlink_checks bytes = do
  path ← target bytes 0 (codes "failed to read debug altlink path")
  named ← must (not (is_empty path.0)) (codes "debug altlink target is empty")
  identified ← must (not (is_empty (drop path.1 bytes))) (codes "failed to read debug altlink build ID")
  Ok (record { path = path.0; build_id = drop path.1 bytes })

-- the same as a part of the file
abbrev pub debug_altlink_of : List ℕ → Part DebugAltlinkValue
debug_altlink_of bytes = as_part (debug_altlink_checks bytes)

-- ---- `.debug_sup`: a version, whether the file is a supplementary one, the path of the supplementary file, and the
-- size and the bytes of a checksum. A supplementary file has no path.

-- is_supplementary, which is 0 or 1 (DWARF 5 section 7.3.6)
abbrev pub flag_of : ℕ → Checked Bool
flag_of flag = if flag == 0 then Ok false else (if flag == 1 then Ok true else Err (fault_of InvalidData (codes "invalid is_supplementary field value")))

-- the path by the flag
abbrev pub sup_path : Bool → List ℕ → Checked (Option (List ℕ))
sup_path false path = must (not (is_empty path)) (codes "debug sup target is empty") >>= λ named. Ok (Some path)
sup_path true path = must (is_empty path) (codes "debug sup target is not empty in a supplementary file") >>= λ unnamed. Ok None

-- the size of the checksum, and its bytes
unfoldable pub sup_checksum : List ℕ → ℕ → Checked (List ℕ)
sup_checksum bytes at = do
  size ← or_text (uleb bytes at) (codes "failed to read .debug_sup sup_checksum_len")
  checksum ← or_text (piece size.0 bytes size.1) (codes "failed to read .debug_sup checksum")
  Ok checksum.0

-- what is behind the flag
unfoldable pub sup_rest : List ℕ → ℕ → ℕ → Bool → Checked DebugSupValue
sup_rest bytes at version is_supplementary = do
  text ← target bytes at (codes "failed to read .debug_sup file field")
  path ← sup_path is_supplementary text.0
  checksum ← sup_checksum bytes text.1
  Ok (record { version = version; is_supplementary = is_supplementary; path = path; checksum = checksum })

-- the version, the flag, the path and the checksum (DWARF 5 section 7.3.6)
unfoldable pub debug_sup_checks : ByteOrder → List ℕ → Checked DebugSupValue
debug_sup_checks order bytes = do
  version ← or_text (number order 2 bytes 0) (codes "failed to read .debug_sup version")
  flag ← or_text (byte bytes version.1) (codes "failed to read .debug_sup is_supplementary")
  is_supplementary ← flag_of flag.0
  sup_rest bytes flag.1 version.0 is_supplementary

-- the same as a part of the file
abbrev pub debug_sup_of : ByteOrder → List ℕ → Part DebugSupValue
debug_sup_of order bytes = as_part (debug_sup_checks order bytes)
