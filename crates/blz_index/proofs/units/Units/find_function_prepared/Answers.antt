use Rattle.std.proofs.Common.{ap, ◌∙◌, sym}
use Rattle.blz_info.specs.Marks.{or_invalid}
use Rattle.blz_units.specs.UnitAnswers.{function_at}
use Rattle.blz_units.specs.UnitTables.{announcing}
use Rattle.blz_reader.proofs.LeftOut.{function_again}
use Rattle.blz_index.specs.UnitsWarm.{units_table}
use Rattle.blz_reader.proofs.KeptTold.{first_is, repeats_exactly}
use Rattle.blz_index.proofs.units.Units.find_function_prepared.Goals as goal

pub function_of-requires-clause-without : goal.function_of-requires-clause-without
function_of-requires-clause-without g c = let once = c.once-announcing.ensures in rw (once.announced, once.address) once.without

pub returns-clause-cost : goal.returns-clause-cost
returns-clause-cost g c = rw (c.as_slice.ensures.value, c.once-announcing.ensures.announced) at c.function_of.ensures.cost

pub returns-clause-value : goal.returns-clause-value
unfolding function_at
returns-clause-value g c = λ f fits.
    let u = c.args.self.now in
    let left = c.once-announcing.result.left in
    let all = announcing (units_table u) c.args.addr in
    let is = first_is f (units_table u) u.caches.units.items c.args.addr left fits.caches.units (fits.full c.requires) ∙ ap or_invalid (sym (function_again f (units_table u) c.args.addr all left c.once-announcing.ensures.without)) in
    repeats_exactly (λ r. r) c.function_of.result (function_at f (units_table u) c.args.addr) (rw (c.as_slice.ensures.value, is) at c.function_of.ensures.value)
