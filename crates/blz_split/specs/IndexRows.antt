-- The rows of the ids of an index, for many searches.
use Rattle.std.specs.Prelude.{◌≡◌, ℕ, List, Option, Some, option_map}
use Rattle.std.specs.BTreeMap.{BTreeMap, get}
use Rattle.std.specs.Ordering.{nat_cmp}
use Rattle.blz_model.specs.declared.byte_order.ByteOrder.{ByteOrder}
use Rattle.blz_split.specs.declared.id_rows.IdRows.{IdRows}
use Rattle.blz_split.specs.declared.tables.Tables.{Tables}
use Rattle.blz_split.specs.Contributions.{first_in, index_tables, is_slot_of, row_of}
use Rattle.blz_split.specs.PackageParts.{PackageParts}

-- the row of the first slot of an id, of n slots from one on
abbrev pub row_among : ByteOrder → List ℕ → Tables → ℕ → ℕ → ℕ → Option ℕ
row_among order index t n at id = option_map (row_of order index t) (first_in (is_slot_of order index t id) n at)

-- a map has the rows of all ids of these slots
abbrev pub HasRows : ByteOrder → List ℕ → Tables → ℕ → ℕ → BTreeMap ℕ ℕ → Type 0
HasRows order index t n at rows = (id : ℕ) → get nat_cmp rows id ≡ row_among order index t n at id

-- the rows of the index of a package
abbrev pub AreRowsOf : PackageParts → IdRows → Type 0
AreRowsOf p r = (t : Tables) → index_tables p.order p.index ≡ Some t → HasRows p.order p.index t t.slots 0 r.rows
