use Rattle.std.proofs.Common.{◌≡◌, drop}
use Rattle.blz_rows.specs.Asking.{least_line}
use Rattle.blz_rows.proofs.LeastSteps.{either}
use Rattle.blz_rows.proofs.least.least_line.Given as goal

abbrev pub invariant-loop-row : goal.invariant-loop-row
invariant-loop-row l = either l.least (least_line (drop l.row-index l.rows)) ≡ least_line l.rows
