use Rattle.std.proofs.Common.{List, Option, subst}
use Rattle.blz_entry.specs.RangeLists.{Appends}
use Rattle.blz_ranges.specs.declared.span.Span.{Span}
use Rattle.blz_functions.specs.Leaves.{ranges_in}
use Rattle.blz_functions.proofs.Lying.{ranges_lying}
use Rattle.blz_functions.proofs.open_unit.OpenUnit.append_ranges.Goals as goal

pub returns : goal.returns
unfolding ranges_in
returns c =
    let unit = c.args.self.now in
    subst (λ (o : Option (List Span)). Appends o c.args.out.now.items c.append_ranges.result c.append_ranges.new.out.items) (ranges_lying unit.sections unit.header unit.root c.args.ranges.now) c.append_ranges.ensures
