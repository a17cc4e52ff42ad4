-- Ranges of addresses: the attributes that tell them, and their lists (DWARF 5 sections 2.17 and 7.25, DWARF 4
-- section 2.17.3).
use Rattle.std.specs.Prelude.{◌≡◌, ℕ, zero, suc, ◌+◌, ◌-◌, ◌*◌, ◌^◌, Bool, true, false, ◌&&◌, ◌||◌, not, List, [], ◌++◌, length, Option, Some, None, Result, Ok, Err, nat_lt, nat_le, ◌==◌, if◌then◌else◌, option_map}
use Rattle.std.specs.Option.{option_to_list}
use Rattle.blz_constants.specs.declared.dwarf.TheConstants as dwarf
use Rattle.blz_error.specs.Fault.{Fault}
use Rattle.blz_model.specs.Part.{Fails}
use Rattle.blz_model.specs.Reads.{Read, ◌>>=◌}
use Rattle.blz_model.specs.LebNumbers.{uleb}
use Rattle.blz_bytes.specs.Pieces.{byte}
use Rattle.blz_info.specs.Contents.{Contents, section_view, address_at, offset_at, offset_len}
use Rattle.blz_info.specs.Forms.{udata}
use Rattle.blz_info.specs.Marks.{or_invalid}
use Rattle.blz_entry.specs.AddressIndexes.{address_of, value_address}
use Rattle.blz_entry.specs.declared.range_list.RangeEntry.{RangeEntry}
use Rattle.blz_entry.specs.declared.range_list.RangeEntry.TheVariants.{End, Base, Offsets, Addresses, Length}
use Rattle.blz_entry.specs.declared.ranges.RangeAttributes.{RangeAttributes}
use Rattle.blz_entry.specs.declared.root.UnitRoot.{UnitRoot}
use Rattle.blz_info.specs.declared.section.Sections.{Sections}
use Rattle.blz_ranges.specs.declared.span.Span.{Span}
use Rattle.blz_info.specs.declared.units.UnitHeader.{UnitHeader}
use Rattle.blz_info.specs.declared.forms.value.AttrValue.{AttrValue}
use Rattle.blz_info.specs.declared.forms.value.AttrValue.TheVariants.{SecOffset, RangeIndex}

-- Where the list of a value begins, if it is one: an offset, or an index into the unit's offsets, which count from
-- their own base. It is a whole number, and there is none where the index lies outside.
unfoldable pub range_offset : Sections → UnitHeader → UnitRoot → AttrValue → Option (Option ℕ)
range_offset s h root (SecOffset offset) = Some (Some offset)
range_offset s h root (RangeIndex index) = do
  offset ← offset_at h.wide (section_view s.rnglists) (root.rnglists_base + index * offset_len h.wide)
  Some (Some (offset.0 + root.rnglists_base))
range_offset s h root _ = Some None

-- An offset as a number of 64 bits. No list has a value at an offset past the greatest one, and none has a value at the
-- greatest one, which stands for it: no section reaches so far.
abbrev pub held_offset : ℕ → ℕ
held_offset offset = if nat_lt offset (2 ^ 64) then offset else 2 ^ 64 - 1

-- the offset that is answered; a list past the greatest offset has no value
abbrev pub answered_offset : Option ℕ → Option (Option ℕ)
answered_offset None = Some None
answered_offset (Some offset) = if nat_lt offset (2 ^ 64) then Some (Some offset) else None

-- DW_AT_low_pc: the first address, where the value is one (DWARF 5 section 2.17.2)
abbrev pub with_low : RangeAttributes → Option ℕ → RangeAttributes
with_low r None = r
with_low r (Some a) = record r { low_pc = Some a }

-- DW_AT_high_pc as a constant: the number of bytes from DW_AT_low_pc on (DWARF 5 section 2.17.2)
abbrev pub with_size : RangeAttributes → Option ℕ → RangeAttributes
with_size r None = r
with_size r (Some n) = record r { size = Some n }

-- DW_AT_high_pc: the first address past the range, or else a number of bytes (DWARF 5 section 2.17.2)
abbrev pub with_high : RangeAttributes → Option ℕ → Option ℕ → RangeAttributes
with_high r None number = with_size r number
with_high r (Some a) number = record r { high_pc = Some a }

-- one attribute more: DW_AT_low_pc, DW_AT_high_pc, DW_AT_ranges
unfoldable pub range_step : Sections → UnitHeader → UnitRoot → RangeAttributes → ℕ × AttrValue → Option RangeAttributes
range_step s h root r a =
    if a.0 == dwarf.DW_AT_low_pc then (value_address s h root a.1 >>= λ low. Some (with_low r low)) else (
    if a.0 == dwarf.DW_AT_high_pc then (value_address s h root a.1 >>= λ high. Some (with_high r high (udata a.1))) else (
    if a.0 == dwarf.DW_AT_ranges then (range_offset s h root a.1 >>= λ offset. Some (record r { ranges_offset = option_map held_offset offset })) else Some r))

-- ---- lists of ranges

-- the greatest address
abbrev pub greatest : ℕ → ℕ
greatest address_size = if address_size == 4 then 2 ^ 32 - 1 else 2 ^ 64 - 1

-- An address that a linker writes where it has dropped what stood there: the greatest, and in lists of versions 2 to 4,
-- where the greatest begins an entry that tells a base, also the one below it.
abbrev pub is_dead : ℕ → ℕ → ℕ → Bool
is_dead version address_size a = (a == greatest address_size) || (nat_lt version 5 && (a == greatest address_size - 1))

-- a range that is not empty, does not pass the greatest address, and begins at no dead one
abbrev pub live : ℕ → ℕ → ℕ → ℕ → Option Span
live version address_size begin end = if nat_lt begin end && nat_le end (greatest address_size) && not (is_dead version address_size begin) then Some (record { begin = begin; end = end }) else None

-- the range of an entry, if it has one
abbrev pub spelled : ℕ → ℕ → ℕ → RangeEntry → Option Span
spelled version address_size base End = None
spelled version address_size base (Base a) = None
spelled version address_size base (Offsets begin end) = if is_dead version address_size base then None else live version address_size (base + begin) (base + end)
spelled version address_size base (Addresses begin end) = live version address_size begin end
spelled version address_size base (Length begin len) = live version address_size begin (begin + len)

-- what offsets are added to behind an entry
abbrev pub base_behind : ℕ → RangeEntry → ℕ
base_behind base End = base
base_behind base (Base a) = a
base_behind base (Offsets begin end) = base
base_behind base (Addresses begin end) = base
base_behind base (Length begin len) = base

-- whether an entry is the one that ends its list
abbrev pub is_end : RangeEntry → Bool
is_end End = true
is_end (Base a) = false
is_end (Offsets begin end) = false
is_end (Addresses begin end) = false
is_end (Length begin len) = false

-- versions 2 to 4: a pair of addresses
abbrev pub pair_meaning : ℕ → ℕ → ℕ → RangeEntry
pair_meaning address_size first second = if (first == 0) && (second == 0) then End else (if first == greatest address_size then Base second else Offsets first second)

-- an entry of versions 2 to 4: two numbers of the size of an address (DWARF 4 section 2.17.3)
unfoldable pub pair_at : ℕ → Contents → ℕ → Read RangeEntry
pair_at address_size s at = do
  first ← address_at address_size s at
  second ← address_at address_size s first.1
  Some (pair_meaning address_size first.0 second.0, second.1)

-- DW_RLE_base_addressx: the base, by its index among the addresses of the unit (DWARF 5 section 2.17.3)
unfoldable pub base_of_index : Sections → UnitHeader → UnitRoot → ℕ → Read RangeEntry
base_of_index s h root at = do
  index ← uleb s.rnglists.bytes.now at
  a ← address_of s h root index.0
  Some (Base a, index.1)

-- DW_RLE_startx_endx: the first address and the one past the last, each by its index
unfoldable pub both_by_index : Sections → UnitHeader → UnitRoot → ℕ → Read RangeEntry
both_by_index s h root at = do
  first ← uleb s.rnglists.bytes.now at
  second ← uleb s.rnglists.bytes.now first.1
  begin ← address_of s h root first.0
  end ← address_of s h root second.0
  Some (Addresses begin end, second.1)

-- DW_RLE_startx_length: the first address by its index, and the number of bytes
unfoldable pub begin_by_index : Sections → UnitHeader → UnitRoot → ℕ → Read RangeEntry
begin_by_index s h root at = do
  index ← uleb s.rnglists.bytes.now at
  len ← uleb s.rnglists.bytes.now index.1
  begin ← address_of s h root index.0
  Some (Length begin len.0, len.1)

-- DW_RLE_offset_pair: begin and end as offsets from the base
unfoldable pub offset_pair : List ℕ → ℕ → Read RangeEntry
offset_pair bytes at = do
  begin ← uleb bytes at
  end ← uleb bytes begin.1
  Some (Offsets begin.0 end.0, end.1)

-- DW_RLE_base_address: the base, as an address
unfoldable pub base_address : ℕ → Contents → ℕ → Read RangeEntry
base_address address_size s at = do
  a ← address_at address_size s at
  Some (Base a.0, a.1)

-- DW_RLE_start_end: the first address and the one past the last
unfoldable pub begin_and_end : ℕ → Contents → ℕ → Read RangeEntry
begin_and_end address_size s at = do
  begin ← address_at address_size s at
  end ← address_at address_size s begin.1
  Some (Addresses begin.0 end.0, end.1)

-- DW_RLE_start_length: the first address and the number of bytes
unfoldable pub begin_and_length : ℕ → Contents → ℕ → Read RangeEntry
begin_and_length address_size s at = do
  begin ← address_at address_size s at
  len ← uleb s.bytes begin.1
  Some (Length begin.0 len.0, len.1)

-- the codes of range list entries, DW_RLE_end_of_list up to DW_RLE_start_length
unfoldable pub coded_entry : Sections → UnitHeader → UnitRoot → ℕ → ℕ → Read RangeEntry
coded_entry s h root code at =
    if code == dwarf.DW_RLE_end_of_list then Some (End, at) else (
    if code == dwarf.DW_RLE_base_addressx then base_of_index s h root at else (
    if code == dwarf.DW_RLE_startx_endx then both_by_index s h root at else (
    if code == dwarf.DW_RLE_startx_length then begin_by_index s h root at else (
    if code == dwarf.DW_RLE_offset_pair then offset_pair s.rnglists.bytes.now at else (
    if code == dwarf.DW_RLE_base_address then base_address h.address_size (section_view s.rnglists) at else (
    if code == dwarf.DW_RLE_start_end then begin_and_end h.address_size (section_view s.rnglists) at else (
    if code == dwarf.DW_RLE_start_length then begin_and_length h.address_size (section_view s.rnglists) at else None)))))))

-- an entry of version 5: its code in one byte, then its operands (DWARF 5 section 2.17.3)
unfoldable pub coded_entry_at : Sections → UnitHeader → UnitRoot → ℕ → Read RangeEntry
coded_entry_at s h root at = do
  code ← byte s.rnglists.bytes.now at
  coded_entry s h root code.0 code.1

-- an entry of the version's list
unfoldable pub range_entry_at : Sections → UnitHeader → UnitRoot → ℕ → Read RangeEntry
range_entry_at s h root at = if nat_lt h.version 5 then pair_at h.address_size (section_view s.ranges) at else coded_entry_at s h root at

-- the size of the section that has the lists: `.debug_ranges` before version 5, then `.debug_rnglists`
abbrev pub list_length : Sections → UnitHeader → ℕ
list_length s h = if nat_lt h.version 5 then length s.ranges.bytes.now else length s.rnglists.bytes.now

-- the ranges of the entries from a place on, behind those so far; the list ends at its end entry, or where the section
-- ends in place of an entry
unfoldable pub spans_in : Sections → UnitHeader → UnitRoot → ℕ → ℕ → List Span → ℕ → Option (List Span)
spans_in s h root zero base so_far at = None
spans_in s h root (suc n) base so_far at = if at == list_length s h then Some so_far else (do
  entry ← range_entry_at s h root at
  if is_end entry.0 then Some so_far else spans_in s h root n (base_behind base entry.0) (so_far ++ option_to_list (spelled h.version h.address_size base entry.0)) entry.1)

-- The list at an offset, behind some ranges. Each of its entries takes bytes, so there are no more of them than bytes.
unfoldable pub spans_from : List Span → Sections → UnitHeader → UnitRoot → ℕ → Option (List Span)
spans_from front s h root offset = spans_in s h root (list_length s h + 1) root.low_pc front offset

-- the ranges of the list at an offset of its section
abbrev pub spans_at : Sections → UnitHeader → UnitRoot → ℕ → Option (List Span)
spans_at s h root offset = spans_from [] s h root offset

-- ---- the ranges of an entry

-- the size counts from the first address, and passes no address
abbrev pub sized : ℕ → Option ℕ → Option Span
sized low None = None
sized low (Some n) = if nat_lt (low + n) (2 ^ 64) then Some (record { begin = low; end = low + n }) else None

-- the bounds from DW_AT_low_pc on, by DW_AT_high_pc as an address, else as a number of bytes
abbrev pub bounds_from : ℕ → RangeAttributes → Option ℕ → Option Span
bounds_from low r None = sized low r.size
bounds_from low r (Some high) = Some (record { begin = low; end = high })

-- the bounds by DW_AT_low_pc; without it there are none
abbrev pub bounds_by : RangeAttributes → Option ℕ → Option Span
bounds_by r None = None
bounds_by r (Some low) = bounds_from low r r.high_pc

-- the first address and the one past the last; they may be empty or reversed
abbrev pub bounds_of : RangeAttributes → Option Span
bounds_of r = bounds_by r r.low_pc

-- a range that has an address
abbrev pub not_empty : Option Span → Option Span
not_empty None = None
not_empty (Some b) = if nat_lt b.begin b.end then Some b else None

-- the ranges by the offset of a list; without one the bounds, where they hold an address
abbrev pub ranges_by : Option ℕ → RangeAttributes → Sections → UnitHeader → UnitRoot → Option (List Span)
ranges_by None r s h root = Some (option_to_list (not_empty (bounds_of r)))
ranges_by (Some offset) r s h root = spans_at s h root offset

-- the ranges of an entry: its list where it has one, and else its bounds
unfoldable pub ranges_of : RangeAttributes → Sections → UnitHeader → UnitRoot → Option (List Span)
ranges_of r s h root = ranges_by r.ranges_offset r s h root

-- some ranges behind others
abbrev pub joined : List Span → Option (List Span) → Option (List Span)
joined front spans = spans >>= λ xs. Some (front ++ xs)

abbrev pub appended : List Span → List Span → Option (List Span × Bool)
appended old spans = Some (old ++ spans, nat_lt 0 (length spans))

-- A call appends the ranges and tells whether there was one; or there are none, and what it appends to is as before.
abbrev pub Appends : Option (List Span) → List Span → Result Bool Fault → List Span → Type 0
Appends spans old (Ok some) new = (spans >>= appended old) ≡ Some (new, some)
Appends spans old (Err e) new = Fails e.kind (or_invalid spans) × (new ≡ old)
