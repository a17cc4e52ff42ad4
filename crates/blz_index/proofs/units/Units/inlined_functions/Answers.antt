use Rattle.blz_index.proofs.LentUnits.{calls_looked}
use Rattle.blz_index.proofs.units.Units.inlined_functions.Goals as goal

pub returns-clause-value : goal.returns-clause-value
returns-clause-value c = calls_looked (λ x. x.now) c.args.self.now c.args.unit c.args.function c.calls_there.result (rw c.as_slice.ensures.value at c.calls_there.ensures)
