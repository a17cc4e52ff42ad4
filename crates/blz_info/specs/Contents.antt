-- Fields of a section: numbers in its byte order, addresses, offsets and blocks.
use Rattle.std.specs.Prelude.{ℕ, ◌+◌, ◌≤◌, Bool, List, length, Some, None, nat_le, ◌==◌, if◌then◌else◌, take}
use Rattle.blz_model.specs.declared.byte_order.ByteOrder.{ByteOrder}
use Rattle.blz_model.specs.Reads.{Read, ◌>>=◌, number}
use Rattle.blz_model.specs.LebNumbers.{uleb}
use Rattle.std.specs.FinMap as map
use Rattle.blz_relocations.specs.Relocations.{OffsetMap, relocated}
use Rattle.blz_info.specs.declared.section.Section.{Section}
use Rattle.blz_info.specs.declared.encoding.Encoding.{Encoding}
use Rattle.blz_info.specs.declared.forms.form.Width.{Width}
use Rattle.blz_info.specs.declared.forms.form.Width.TheVariants.{One, Two, Three, Four, Eight}
use Rattle.blz_info.specs.declared.forms.form.Field.{Field}
use Rattle.blz_info.specs.declared.forms.form.Field.TheVariants.{Nothing, Fixed, Address, Offset, RefAddress, Uleb, Sixteen, Block, UlebBlock}

-- a section without where its bytes and relocations lie in memory
pub record Contents : Type 0 where
  pub bytes : List ℕ
  pub relocations : OffsetMap
  pub order : ByteOrder

-- a section by its bytes, its relocations and its byte order
abbrev pub section_view : Section → Contents
section_view s = record { bytes = s.bytes.now; relocations = s.relocations.now; order = s.order }

-- a section up to a place, or whole where it ends before
abbrev pub cut : ℕ → Contents → Contents
cut end s = record { bytes = take end s.bytes; relocations = s.relocations; order = s.order }

-- A place is not before another one, and lies in the bytes, or at their end, if that one does.
abbrev pub StaysIn : List ℕ → ℕ → ℕ → Type 0
StaysIn bytes at next = (at ≤ next) × (at ≤ length bytes → next ≤ length bytes)

-- the number of n bytes at a place
abbrev pub number_at : ℕ → Contents → ℕ → Read ℕ
number_at n s at = number s.order n s.bytes at

-- the same, relocated; the whole number is replaced, not cut to its bytes
unfoldable pub moved_number : ℕ → Contents → ℕ → Read ℕ
moved_number n s at = do
  x ← number_at n s at
  Some (relocated (map.get s.relocations at) x.0, x.1)

-- An address has four or eight bytes.
unfoldable pub address_at : ℕ → Contents → ℕ → Read ℕ
address_at size s at = if size == 4 then moved_number 4 s at else (if size == 8 then moved_number 8 s at else None)

-- the bytes of an offset (DWARF 5 section 7.4)
abbrev pub offset_len : Bool → ℕ
offset_len wide = if wide then 8 else 4

-- an offset, relocated: eight bytes in 64-bit DWARF, else four (DWARF 5 section 7.4)
unfoldable pub offset_at : Bool → Contents → ℕ → Read ℕ
offset_at wide s at = moved_number (offset_len wide) s at

-- how many bytes a number of a width has
abbrev pub bytes_in : Width → ℕ
bytes_in One = 1
bytes_in Two = 2
bytes_in Three = 3
bytes_in Four = 4
bytes_in Eight = 8

-- n bytes that are passed over; as a number they count as 0
unfoldable pub skipped : ℕ → List ℕ → ℕ → Read ℕ
skipped n bytes at = if nat_le (at + n) (length bytes) then Some (0, at + n) else None

-- a length, and as many bytes
unfoldable pub block : Read ℕ → List ℕ → Read ℕ
block len bytes = do
  n ← len
  skipped n.0 bytes n.1

-- what a field reads
unfoldable pub field_at : Field → Encoding → Contents → ℕ → Read ℕ
field_at Nothing e s at = Some (0, at)
field_at (Fixed w) e s at = number_at (bytes_in w) s at
field_at Address e s at = address_at e.address_size s at
field_at Offset e s at = offset_at e.wide s at
field_at RefAddress e s at = if e.version == 2 then address_at e.address_size s at else offset_at e.wide s at
field_at Uleb e s at = uleb s.bytes at
field_at Sixteen e s at = skipped 16 s.bytes at
field_at (Block w) e s at = block (number_at (bytes_in w) s at) s.bytes
field_at UlebBlock e s at = block (uleb s.bytes at) s.bytes
