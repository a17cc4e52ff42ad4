use Rattle.std.proofs.Common.{◌∙◌}
use Rattle.blz_functions.specs.Leaves.{string_in}
use Rattle.blz_functions.proofs.Lying.{string_lying}
use Rattle.blz_functions.proofs.open_unit.OpenUnit.string.Goals as goal

pub returns : goal.returns
unfolding string_in
returns c = let unit = c.args.self.now in c.attr_string-found.ensures ∙ string_lying unit.sections unit.header unit.root c.args.value
