use Rattle.std.proofs.Common.{sym, Some, None, subst, arith, ℕ, Option}
use Rattle.blz_model.specs.Part.{Part}
use Rattle.blz_units.specs.KeptAnswers.{Repeats}
use Rattle.blz_ranges.proofs.OneCovers.{looks_few}
use Rattle.blz_index.proofs.FewSteps.{few_after}
use Rattle.blz_reader.proofs.UnitSteps.{kept_over, kept_on, kept_fails}
use Rattle.blz_index.proofs.prepared.function_of.Goals as goal

pub returns-in-None-clause-value : goal.returns-in-None-clause-value
returns-in-None-clause-value g c = kept_over c.args.units.now c.args.addr c.args.announcing.now.left (sym c.in-None.ensures.unit)

pub returns-in-Ok-Some-clause-value : goal.returns-in-Ok-Some-clause-value
returns-in-Ok-Some-clause-value g c = kept_on c.args.units.now c.args.addr c.in-Some.number c.args.announcing.now.left (Some c.in-Ok-Some.function) (sym c.in-Some.ensures.unit) (rw c.in-Ok-Some.field-0-is at c.in-Ok-Some.ensures.value)

pub returns-in-Ok-Some-clause-cost : goal.returns-in-Ok-Some-clause-cost
returns-in-Ok-Some-clause-cost g c = λ ordered apart f_ordered f_apart d e m n.
    let x = looks_few _ d _ (c.in-Some.ensures.cost c.requires.fresh ordered apart) m in
    let y = looks_few _ e _ (c.in-Ok-Some.ensures.cost f_ordered f_apart) n in
    omega (arith, x, y)

pub returns-in-Ok-None-clause-value : goal.returns-in-Ok-None-clause-value
returns-in-Ok-None-clause-value g c =
    let left = kept_on c.args.units.now c.args.addr c.in-Some.number c.args.announcing.now.left None (sym c.in-Some.ensures.unit) (rw c.in-Ok-None.field-0-is at c.in-Ok-None.ensures.value) in
    subst (λ (p : Part (Option (ℕ × ℕ))). Repeats (λ r. r) c.first_function.result p) (sym left) (rw c.in-Some.ensures.left at c.first_function.ensures.value)

pub returns-in-Ok-None-clause-cost : goal.returns-in-Ok-None-clause-cost
returns-in-Ok-None-clause-cost g c = few_after c.args.announcing.now.announced c.args.units.now c.args.addr c.args.announcing.now.address c.args.announcing.now.left c.requires.without c.first_function.result _ (rw c.in-Some.ensures.left at c.first_function.ensures.value)

pub returns-in-Err-clause-value : goal.returns-in-Err-clause-value
returns-in-Err-clause-value g c = kept_fails c.args.units.now c.args.addr c.in-Some.number c.args.announcing.now.left _ (sym c.in-Some.ensures.unit) c.in-Err.ensures.value
