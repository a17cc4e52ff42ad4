use Rattle.std.proofs.Common.{◌∙◌, ap, sym, length}
use Rattle.std.proofs.lemmas.List.{length-map}
use Rattle.blz_cover.specs.Coverage.{covered_by}
use Rattle.blz_cover.specs.Covers.{covered}
use Rattle.blz_cover.proofs.cover.Cover.lines.Goals as goal

pub returns : goal.returns
unfolding covered_by
returns c = c.len.ensures ∙ c.self.invariant.stands.lines.count ∙ sym (length-map _ _) ∙ ap (λ v. length (covered v.images v.changes)) c.self.view_is
