use Rattle.std.proofs.Common.{sym, ap, ◌∙◌, ◌∷◌, ◌++◌, string_bytes}
use Rattle.blz_links.specs.PathViews.{piece_view}
use Rattle.blz_links.proofs.StageLemmas.{joined_inner-start}
use Rattle.blz_links.proofs.candidate_paths.join_but_last.Goals as goal

pub loop-piece-init : goal.loop-piece-init
loop-piece-init c =
    let first = piece_view c.in-Some.first in
    let last = piece_view c.in-Some-next.last in
    let rest = c.into_iter-piece-iterator.result in
    let all = c.in-Some.ensures.steps ∙ ap (λ ps. first ∷ ps) (c.in-Some-next.ensures.steps ∙ ap (λ ps. last ∷ ps) (sym c.into_iter-piece-iterator.ensures.into_iter_gives)) in
    let path = c.in_ok-push_str.ensures.bytes ∙ ap (λ t. t ++ first.text) c.new-path.ensures.bytes in
    joined_inner-start (string_bytes c.push_str.new.self) first last c.args.pieces rest all path
