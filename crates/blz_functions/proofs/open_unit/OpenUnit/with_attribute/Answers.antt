use Rattle.std.proofs.Common.{Option, subst}
use Rattle.blz_model.specs.Part.{Exactly}
use Rattle.blz_info.specs.Marks.{or_invalid}
use Rattle.blz_entry.specs.declared.ranges.RangeAttributes.{RangeAttributes}
use Rattle.blz_functions.specs.Leaves.{range_step_in}
use Rattle.blz_functions.proofs.Lying.{range_step_lying}
use Rattle.blz_functions.proofs.open_unit.OpenUnit.with_attribute.Goals as goal

pub returns : goal.returns
unfolding range_step_in
returns c =
    let unit = c.args.self.now in
    subst (λ (o : Option RangeAttributes). Exactly (λ r. r) c.with.result (or_invalid o)) (range_step_lying unit.sections unit.header unit.root c.args.ranges c.args.name c.args.value) c.with.ensures
