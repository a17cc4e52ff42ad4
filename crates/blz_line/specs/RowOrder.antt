-- The order of rows.
use Rattle.std.specs.Prelude.{List}
use Rattle.std.specs.List.{All}
use Rattle.std.specs.List.Sorted.{IsNonDecreasingBy}
use Rattle.blz_line.specs.declared.row.LineRow.{LineRow}
use Rattle.blz_line.specs.Sequences.{Sequence}

-- the addresses of rows do not fall
abbrev pub IsRising : List LineRow → Type 0
IsRising rows = IsNonDecreasingBy (λ (row : LineRow). row.address) rows

-- nor do they in any of some sequences
abbrev pub AreRising : List Sequence → Type 0
AreRising sequences = All (λ (s : Sequence). IsRising s.rows) sequences
