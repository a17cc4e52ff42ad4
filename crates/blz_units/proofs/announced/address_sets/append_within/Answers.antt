use Rattle.blz_info.specs.Contents.{section_view}
use Rattle.blz_units.proofs.Named.{named_within}
use Rattle.blz_units.proofs.announced.address_sets.append_within.Goals as goal

pub returns : goal.returns
returns c = rw (named_within (section_view c.args.aranges.now) c.args.start c.args.sets.now c.args.extent.0 c.args.extent.1 c.requires) at c.append_named.ensures
