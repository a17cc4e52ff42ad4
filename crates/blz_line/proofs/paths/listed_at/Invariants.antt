use Rattle.std.proofs.Common.{◌≡◌, ◌-◌, length}
use Rattle.blz_line.specs.PathTables.{listed_in, listed_at}
use Rattle.blz_line.proofs.paths.listed_at.Given as goal

abbrev pub invariant-loop : goal.invariant-loop
invariant-loop l = listed_in l.kind (length l.bytes - l.counter) l.table l.bytes l.offset ≡ listed_at l.kind l.bytes l.at
