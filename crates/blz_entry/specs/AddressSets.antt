-- Sets of address ranges (DWARF 5 section 6.1.2).
use Rattle.std.specs.Prelude.{◌≡◌, refl, Result, Ok, Err, ℕ, zero, suc, ◌+◌, ◌-◌, ◌*◌, ◌/◌, ◌&&◌, List, [], ◌++◌, length, Option, Some, None, nat_lt, nat_le, ◌==◌, if◌then◌else◌}
use Rattle.std.specs.Option.{option_to_list}
use Rattle.std.specs.Coded.{Coded, code_by, coded×, coded_ℕ}
use Rattle.blz_error.specs.Fault.{Fault}
use Rattle.blz_error.specs.declared.kind.ErrorKind.TheVariants.{InvalidDwarf}
use Rattle.blz_model.specs.Reads.{Read, ◌>>=◌}
use Rattle.blz_bytes.specs.Pieces.{byte}
use Rattle.blz_info.specs.Contents.{Contents, cut, number_at, address_at, offset_at}
use Rattle.blz_info.specs.Codes.{contents_code}
use Rattle.blz_info.specs.Headers.{extent_at, is_address_size}
use Rattle.blz_entry.specs.RangeLists.{greatest}
use Rattle.blz_entry.specs.declared.aranges.ArangeSet.{ArangeSet}
use Rattle.blz_info.specs.declared.extent.Extent.{Extent}
use Rattle.blz_ranges.specs.declared.span.Span.{Span}

-- the least multiple of k from n up
abbrev pub rounded_up : ℕ → ℕ → ℕ
rounded_up n k = (n + k - 1) / k * k

-- The pairs begin at a multiple of their size from the set's start, which is not past the set.
abbrev pub set_of : ℕ → Extent → ℕ → ℕ → ℕ → Option ArangeSet
set_of start extent unit size next =
    let first = start + rounded_up (next - start) (2 * size) in
    if nat_le first extent.end then Some (record { unit = unit; at = first; end = extent.end; address_size = size }) else None

-- behind the length of a set; the section ends where the set does
unfoldable pub set_in : ℕ → Extent → Contents → ℕ → Option ArangeSet
set_in start extent s at = do
  version ← number_at 2 s at
  unit ← offset_at extent.wide s version.1
  size ← byte s.bytes unit.1
  segment ← byte s.bytes size.1
  if (version.0 == 2) && is_address_size size.0 && (segment.0 == 0) then set_of start extent unit.0 size.0 segment.1 else None

-- the set that begins at a place
unfoldable pub set_at : Contents → ℕ → Option ArangeSet
set_at s at = do
  extent ← extent_at s at
  set_in at extent.0 (cut extent.0.end s) extent.1

-- the sets of a section from a place on
pub record SetList : Type 0 where
  pub section : Contents
  pub place : ℕ

-- the next set, and the list behind it; none at the section's end
unfoldable pub next_set : SetList → Option (Option ArangeSet × SetList)
next_set l = if nat_lt l.place (length l.section.bytes) then (set_at l.section l.place >>= λ set. Some (Some set, record { section = l.section; place = set.end })) else Some (None, l)

-- the length of a range, which has as many bytes as an address and is not relocated
unfoldable pub length_at : ℕ → Contents → ℕ → Read ℕ
length_at size s at = if size == 4 then number_at 4 s at else (if size == 8 then number_at 8 s at else None)

-- a range that is not empty and does not pass the greatest address
abbrev pub kept : ℕ → ℕ → ℕ → Option Span
kept size begin len = if nat_lt 0 len && nat_le (begin + len) (greatest size) then Some (record { begin = begin; end = begin + len }) else None

-- an address and a length, as a range where it is kept
unfoldable pub range_pair : ℕ → Contents → ℕ → Read (Option Span)
range_pair size s at = do
  begin ← address_at size s at
  len ← length_at size s begin.1
  Some (kept size begin.0 len.0, len.1)

-- the range of a pair, where it is kept, before those behind it; none where no pair could be read
abbrev pub then_pairs : Read (Option Span) → (ℕ → List Span) → List Span
then_pairs None rest = []
then_pairs (Some x) rest = option_to_list x.0 ++ rest x.1

-- the next pair of a set, where a whole one is left
unfoldable pub next_pair : ℕ → ℕ → Contents → ℕ → Read (Option Span)
next_pair end size s at = if nat_le (at + 2 * size) end then range_pair size s at else None

-- the ranges of a set from a place on
unfoldable pub pairs_in : ℕ → ℕ → ℕ → Contents → ℕ → List Span
pairs_in zero end size s at = []
pairs_in (suc n) end size s at = then_pairs (next_pair end size s at) (λ next. pairs_in n end size s next)

-- Each pair takes bytes, so there are no more of them than bytes.
abbrev pub pairs_from : ℕ → ℕ → Contents → ℕ → List Span
pairs_from end size s at = pairs_in (suc (end - at)) end size s at

-- the ranges of a set
abbrev pub pairs_of : Contents → ArangeSet → List Span
pairs_of s set = pairs_from set.end set.address_size s set.at

-- A call gives the next set and leaves the list behind it; or there is none, and the list is as before.
abbrev pub GivesSet : Option (Option ArangeSet × SetList) → SetList → Result (Option ArangeSet) Fault → SetList → Type 0
GivesSet step old (Ok x) new = step ≡ Some (x, new)
GivesSet step old (Err e) new = (step ≡ None) × (e.kind ≡ InvalidDwarf) × (new ≡ old)

-- such sets are stored as the section and the place
abbrev pub set_list_code : Coded SetList
set_list_code = code_by (Contents × ℕ) (coded× contents_code coded_ℕ) (λ l. (l.section, l.place)) (λ p. record { section = p.0; place = p.1 }) (λ _. refl)
