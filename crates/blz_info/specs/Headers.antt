-- Headers of units (DWARF 5 sections 7.4 and 7.5.1).
use Rattle.std.specs.Prelude.{ℕ, zero, suc, ◌+◌, ◌-◌, Bool, true, false, ◌&&◌, ◌||◌, List, [], ◌∷◌, length, Option, Some, None, nat_lt, nat_le, ◌==◌, if◌then◌else◌}
use Rattle.blz_constants.specs.declared.dwarf.TheConstants as dwarf
use Rattle.blz_model.specs.Reads.{Read, ◌>>=◌}
use Rattle.blz_bytes.specs.Pieces.{byte}
use Rattle.blz_info.specs.Contents.{Contents, cut, number_at, offset_at, offset_len}
use Rattle.blz_info.specs.declared.encoding.Encoding.{Encoding}
use Rattle.blz_info.specs.declared.extent.Extent.{Extent}
use Rattle.blz_info.specs.declared.units.UnitHeader.{UnitHeader}
use Rattle.blz_info.specs.declared.units.UnitKind.{UnitKind}
use Rattle.blz_info.specs.declared.units.UnitKind.TheVariants.{Compile, TypeUnit, Partial, Skeleton, SplitCompile, SplitType}

-- what the sizes of the fields of a unit depend on
abbrev pub encoding_of : UnitHeader → Encoding
encoding_of h = record { version = h.version; wide = h.wide; address_size = h.address_size }

-- whether offsets have eight bytes, and the length of a unit or a table, which does not count the length itself; the
-- values from 0xfffffff0 up to 0xfffffffe are reserved (section 7.2.2)
unfoldable pub initial_length : Contents → ℕ → Read (Bool × ℕ)
initial_length s at = do
  short ← number_at 4 s at
  if nat_lt short.0 0xfffffff0 then Some ((false, short.0), short.1) else (if short.0 == 0xffffffff then (do
    long ← number_at 8 s short.1
    Some ((true, long.0), long.1)) else None)

-- where a unit or a table ends that begins at a place, which is not past the section
unfoldable pub extent_at : Contents → ℕ → Read Extent
extent_at s at = do
  len ← initial_length s at
  if nat_le (len.1 + len.0.1) (length s.bytes) then Some (record { wide = len.0.0; end = len.1 + len.0.1 }, len.1) else None

-- the kinds of version 5
abbrev pub kind_of : ℕ → Option UnitKind
kind_of n =
    if n == dwarf.DW_UT_compile then Some Compile else (if n == dwarf.DW_UT_type then Some TypeUnit else (if n == dwarf.DW_UT_partial then Some Partial else (
    if n == dwarf.DW_UT_skeleton then Some Skeleton else (if n == dwarf.DW_UT_split_compile then Some SplitCompile else (if n == dwarf.DW_UT_split_type then Some SplitType else None)))))

-- the sizes of addresses that are read: four and eight bytes
abbrev pub is_address_size : ℕ → Bool
is_address_size n = (n == 4) || (n == 8)

-- the signature of a type unit, and the offset of its type, which are passed over
unfoldable pub type_fields : Bool → Contents → ℕ → Read ℕ
type_fields wide s at = do
  signature ← number_at 8 s at
  offset ← number_at (offset_len wide) s signature.1
  Some (0, offset.1)

-- the id of a unit of version 5, 0 where it has none, and the place of its entries
unfoldable pub id_at : UnitKind → Bool → Contents → ℕ → Read ℕ
id_at Compile wide s at = Some (0, at)
id_at Partial wide s at = Some (0, at)
id_at Skeleton wide s at = number_at 8 s at
id_at SplitCompile wide s at = number_at 8 s at
id_at TypeUnit wide s at = type_fields wide s at
id_at SplitType wide s at = type_fields wide s at

-- behind the version of a unit of versions 2 to 4
unfoldable pub header_of_4 : ℕ → ℕ → Extent → Contents → ℕ → Option UnitHeader
header_of_4 version start extent s at = do
  table ← offset_at extent.wide s at
  size ← byte s.bytes table.1
  if is_address_size size.0 then Some (record { start = start; entries = size.1; end = extent.end; version = version; wide = extent.wide; address_size = size.0; kind = Compile; «abbrev» = table.0; id = 0 }) else None

-- behind the version of a unit of version 5
unfoldable pub header_of_5 : ℕ → Extent → Contents → ℕ → Option UnitHeader
header_of_5 start extent s at = do
  code ← byte s.bytes at
  kind ← kind_of code.0
  size ← byte s.bytes code.1
  table ← offset_at extent.wide s size.1
  id ← id_at kind extent.wide s table.1
  if is_address_size size.0 then Some (record { start = start; entries = id.1; end = extent.end; version = 5; wide = extent.wide; address_size = size.0; kind = kind; «abbrev» = table.0; id = id.0 }) else None

-- behind the length of a unit; the section ends where the unit does
unfoldable pub header_in : ℕ → Extent → Contents → ℕ → Option UnitHeader
header_in start extent s at = do
  version ← number_at 2 s at
  if version.0 == 5 then header_of_5 start extent s version.1 else (if nat_le 2 version.0 && nat_le version.0 4 then header_of_4 version.0 start extent s version.1 else None)

-- the header of the unit that begins at a place
unfoldable pub header_at : Contents → ℕ → Option UnitHeader
header_at s at = do
  extent ← extent_at s at
  header_in at extent.0 (cut extent.0.end s) extent.1

-- the units of a section from a place on
pub record UnitList : Type 0 where
  pub section : Contents
  pub place : ℕ

-- the header of the next unit, and none at the section's end
unfoldable pub next_unit : UnitList → Option (Option UnitHeader)
next_unit u = if nat_lt u.place (length u.section.bytes) then (header_at u.section u.place >>= λ h. Some (Some h)) else Some None

-- Behind a unit stands the next one; behind a broken header none is looked for.
abbrev pub behind : UnitList → Option (Option UnitHeader) → UnitList
behind u None = record { section = u.section; place = length u.section.bytes }
behind u (Some None) = u
behind u (Some (Some h)) = record { section = u.section; place = h.end }

-- the headers from a place up to the section's end, in at most n steps
unfoldable pub headers_in : ℕ → Contents → ℕ → Option (List UnitHeader)
headers_in zero s at = None
headers_in (suc n) s at = if nat_lt at (length s.bytes) then (do
  h ← header_at s at
  rest ← headers_in n s h.end
  Some (h ∷ rest)) else Some []

-- The headers from a place up to the section's end. Each unit takes bytes, so there are no more of them than bytes.
abbrev pub headers_from : Contents → ℕ → Option (List UnitHeader)
headers_from s at = headers_in (suc (length s.bytes - at)) s at

-- a header, and those behind its unit
abbrev pub headers_behind : Contents → Option UnitHeader → Option (List UnitHeader)
headers_behind s header = do
  h ← header
  rest ← headers_from s h.end
  Some (h ∷ rest)
