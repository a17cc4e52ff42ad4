use Rattle.std.proofs.Common.{◌+◌, ap, sym, sum_by, ◌∙◌}
use Rattle.blz_cover.specs.Covers.{Cover, covered, rest_of}
use Rattle.blz_cover.proofs.CountLaw.{counts_and_rest}
use Rattle.blz_cover.proofs.cover.Cover.total.Goals as goal

pub returns-clause-law : goal.returns-clause-law
returns-clause-law c =
    let law = counts_and_rest _ c.self.inside.changes.items c.self.invariant.stands.none_missing in
    sym (ap (λ (v : Cover). sum_by (λ l. l.count) (covered v.images v.changes) + rest_of v.images v.changes) c.self.view_is) ∙ law ∙ sym c.self.invariant.stands.total_is
