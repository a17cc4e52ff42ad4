-- The unit index of a package, and the contributions of a unit (DWARF 5 section 7.3.5.3).
use Rattle.std.specs.Prelude.{ℕ, zero, suc, ◌+◌, ◌-◌, ◌*◌, Bool, false, ◌&&◌, List, length, Option, Some, None, option_map, nat_lt, nat_le, ◌==◌, if◌then◌else◌}
use Rattle.blz_model.specs.declared.byte_order.ByteOrder.{ByteOrder}
use Rattle.blz_model.specs.Numbers.{field}
use Rattle.blz_model.specs.Reads.{◌>>=◌, number}
use Rattle.blz_split.specs.declared.tables.Tables.{Tables}
use Rattle.blz_split.specs.declared.split_unit.Piece.{Piece}

-- behind the header stand the ids of the slots, their row numbers, the ids of the columns, the offsets of each row and
-- the sizes of each row
abbrev pub tables_of : ℕ → ℕ → ℕ → Tables
tables_of columns units slots = record {
  columns = columns;
  units = units;
  slots = slots;
  rows = 16 + 8 * slots;
  names = 16 + 12 * slots;
  offsets = 16 + 12 * slots + 4 * columns;
  sizes = 16 + 12 * slots + 4 * columns + 4 * (columns * units);
}

-- the size of an index in bytes: its header of 16, and its tables
abbrev pub end_of : ℕ → ℕ → ℕ → ℕ
end_of columns units slots = 16 + 12 * slots + 4 * columns + 8 * (columns * units)

-- the tables of an index that has no slots
abbrev pub no_tables : Tables
no_tables = tables_of 0 0 0

-- all tables lie inside the section
unfoldable pub tables_in : ℕ → ℕ → ℕ → ℕ → Option Tables
tables_in len columns units slots = if nat_le (end_of columns units slots) len then Some (tables_of columns units slots) else None

-- the tables of an index of version 5
unfoldable pub tables_of_5 : ByteOrder → List ℕ → Option Tables
tables_of_5 order index = do
  columns ← number order 4 index 4
  units ← number order 4 index 8
  slots ← number order 4 index 12
  tables_in (length index) columns.0 units.0 slots.0

-- In version 2 the version is a number of four bytes; such an index counts as one without slots.
abbrev pub is_version_2 : Option (ℕ × ℕ) → Bool
is_version_2 None = false
is_version_2 (Some n) = n.0 == 2

-- the tables of an index: none of an empty one, and no value where the version is neither 2 nor 5
unfoldable pub index_tables : ByteOrder → List ℕ → Option Tables
index_tables order index =
    if length index == 0 then Some no_tables else (
    if is_version_2 (number order 4 index 0) then Some no_tables else (do
      version ← number order 2 index 0
      if version.0 == 5 then tables_of_5 order index else None))

-- the first number that passes a test, of n numbers from one on
unfoldable pub first_in : (ℕ → Bool) → ℕ → ℕ → Option ℕ
first_in test zero at = None
first_in test (suc n) at = if test at then Some at else first_in test n (at + 1)

-- the id in a slot, a number of eight bytes
abbrev pub id_of : ByteOrder → List ℕ → ℕ → ℕ
id_of order index slot = field order index (16 + 8 * slot) 8

-- the number in a slot of the row that it leads to: rows count from 1, and an empty slot has 0
abbrev pub row_of : ByteOrder → List ℕ → Tables → ℕ → ℕ
row_of order index t slot = field order index (t.rows + 4 * slot) 4

-- a slot that has an id together with a row, whose number is not 0
abbrev pub is_slot_of : ByteOrder → List ℕ → Tables → ℕ → ℕ → Bool
is_slot_of order index t id slot = (id_of order index slot == id) && nat_lt 0 (row_of order index t slot)

-- the row of the first such slot
abbrev pub found_row : ByteOrder → List ℕ → Tables → ℕ → Option ℕ
found_row order index t id = option_map (row_of order index t) (first_in (is_slot_of order index t id) t.slots 0)

-- a column of a kind of section
abbrev pub is_column_of : ByteOrder → List ℕ → Tables → ℕ → ℕ → Bool
is_column_of order index t kind column = field order index (t.names + 4 * column) 4 == kind

-- where a row has its number in a column, in bytes from the start of the offsets or of the sizes
abbrev pub cell : Tables → ℕ → ℕ → ℕ
cell t row column = 4 * ((row - 1) * t.columns + column)

-- a piece of a section that has `len` bytes, inside which it has to lie
abbrev pub inside : ℕ → ℕ → ℕ → Option Piece
inside len start size = if nat_le (start + size) len then Some (record { start = start; len = size }) else None

-- the contribution of a row in a column, its offset and its size; without a column it is empty
abbrev pub contribution_in : ByteOrder → List ℕ → Tables → ℕ → ℕ → Option ℕ → Option Piece
contribution_in order index t row len None = Some (record { start = 0; len = 0 })
contribution_in order index t row len (Some column) = inside len (field order index (t.offsets + cell t row column) 4) (field order index (t.sizes + cell t row column) 4)

-- The contribution of a row to a kind of section: that of the first column of the kind, and nothing without one. It has
-- to lie inside the section.
unfoldable pub contribution : ByteOrder → List ℕ → Tables → ℕ → ℕ → ℕ → Option Piece
contribution order index t row kind len = contribution_in order index t row len (first_in (is_column_of order index t kind) t.columns 0)
