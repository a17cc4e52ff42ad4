-- Rows of the line number matrix and the sequences that they form (DWARF 5 section 6.2).
use Rattle.std.specs.Prelude.{ℕ, List, [], ◌∷◌}
use Rattle.blz_line.specs.declared.row.LineRow.{LineRow}

-- the rows of the addresses from `start` up to `end`
pub record Sequence : Type 0 where
  pub start : ℕ
  pub end : ℕ
  pub rows : List LineRow

-- where the first row begins
abbrev pub start_of : List LineRow → ℕ
start_of [] = 0
start_of (row ∷ rest) = row.address
