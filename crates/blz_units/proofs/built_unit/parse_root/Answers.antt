use Rattle.std.proofs.Common.{Option, subst}
use Rattle.blz_model.specs.Part.{Exactly}
use Rattle.blz_info.specs.Marks.{or_invalid}
use Rattle.blz_entry.specs.declared.root.UnitRoot.{UnitRoot}
use Rattle.blz_units.proofs.Rooted.{root_lying}
use Rattle.blz_units.proofs.built_unit.parse_root.Goals as goal

pub returns : goal.returns
returns c = subst (λ (o : Option UnitRoot). Exactly (λ r. r) c.parse.result (or_invalid o)) (root_lying c.args.sections.now c.args.header.now c.args.abbreviations.now) c.parse.ensures
