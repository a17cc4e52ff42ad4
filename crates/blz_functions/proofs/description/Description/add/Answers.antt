use Rattle.std.proofs.Common.{sym, ◌∙◌, refl}
use Rattle.blz_info.proofs.Marked.{good_some}
use Rattle.blz_functions.specs.Opened.{open_view}
use Rattle.blz_functions.proofs.DescriptionSteps.{range_alone, name_alone}
use Rattle.blz_functions.proofs.description.Description.add.Goals.{then-tells_range+in_ok-self, else-tells_range+in_ok-self-2}
use Rattle.blz_functions.proofs.description.Description.add.Goals as goal

pub returns-clause-value : goal.returns-clause-value
returns-clause-value g c =
    let refer = g.F.Links.refer (g.F.Links.linkage c.args.links.now) in
    let u = open_view c.args.unit.now in
    let d = c.args.self.now in
    elim c.if-tells_range.branch [
      | then-tells_range+in_ok-self w ↦ range_alone refer u d c.args.name c.args.value (sym c.tells_range.ensures ∙ w.if-tells_range.true) ∙ rw (good_some _ _ w.in_ok-self.ensures, w.self-is) refl
      | else-tells_range+in_ok-self-2 w ↦ name_alone refer u d c.args.name c.args.value (sym c.tells_range.ensures ∙ w.if-tells_range.false) c.requires ∙ rw (good_some _ _ w.in_ok-self-2.ensures.value, w.self-is) refl
    ]
