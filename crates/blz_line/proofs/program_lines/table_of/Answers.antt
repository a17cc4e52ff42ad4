use Rattle.std.proofs.Common.{refl}
use Rattle.blz_line.proofs.RisingRows.{run_rising}
use Rattle.blz_line.proofs.program_lines.table_of.Goals as goal

pub returns-clause-rising : goal.returns-clause-rising
returns-clause-rising c = rw c.into_parts-sequences.ensures.sequences (run_rising _ _ _ _ _ _ c.in_ok-given.ensures.is refl refl)
