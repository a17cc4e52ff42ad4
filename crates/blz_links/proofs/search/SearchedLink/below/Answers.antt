use Rattle.std.proofs.Common.{sym, ap, ◌∙◌, ◌∷◌, string_bytes}
use Rattle.blz_bytes.specs.Joined.{joined}
use Rattle.blz_links.specs.Stages.{after_path}
use Rattle.blz_links.proofs.StageLemmas.{IsDir, below_from-step}
use Rattle.blz_links.proofs.search.SearchedLink.below.Goals as goal

pub returns : goal.returns
returns c =
    let a = c.args.self.now in
    let path = c.args.path.now in
    let linkee = a.linkee.now in
    let dir = c.in-Some.dir.now in
    let is_dir : IsDir a c.args.index dir = record { within = c.in-Some.ensures.lookup.3.0; here = c.in-Some.ensures.lookup.1 } in
    let place = c.as_str-2.ensures.value ∙ c.in_ok-place.ensures ∙ ap (λ d. joined d path) c.as_str.ensures.value in
    let made = c.in_ok-join.ensures ∙ ap (λ p. joined p linkee) place in
    λ stage e.
    e ∙ below_from-step a c.args.index dir path is_dir ∙ ap (λ p. p ∷ after_path a c.args.index path) (sym made)
    ∙ ap (λ rest. string_bytes c.in_ok-join.field-0 ∷ rest) (sym c.in_ok-above.ensures)
