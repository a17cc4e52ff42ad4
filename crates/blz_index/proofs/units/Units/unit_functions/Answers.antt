use Rattle.blz_index.proofs.LentUnits.{functions_looked}
use Rattle.blz_index.proofs.units.Units.unit_functions.Goals as goal

pub returns-clause-value : goal.returns-clause-value
returns-clause-value c = functions_looked (λ x. x.now) c.args.self.now c.args.unit c.functions_there.result (rw c.as_slice.ensures.value at c.functions_there.ensures)
