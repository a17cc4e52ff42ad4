use Rattle.std.proofs.Common.{ℕ, List, drop, sym, ap, ◌∙◌}
use Rattle.blz_links.specs.Stages.{below_from, dirs_of, inner_of, linker_of, paths_at}
use Rattle.blz_links.proofs.StageLemmas.{if_ok-finds_at, paths_at-below}
use Rattle.blz_links.proofs.search.SearchedLink.next_path.Goals as goal

pub returns-in-Below : goal.returns-in-Below
returns-in-Below c =
    let a = c.args.self.now in
    let left : List ℕ → List (List ℕ) = λ path. below_from (drop c.in-Below.index (dirs_of a)) path (inner_of a (linker_of a)) a.linkee.now in
    if_ok-finds_at a c.args.stage (left c.as_str.result.now) c.below.result
    (ap (paths_at a) c.in-Below.is ∙ paths_at-below a c.in-Below.index c.in-Below.path ∙ ap left (sym c.as_str.ensures.value)) c.below.ensures

pub returns-in-Ended : goal.returns-in-Ended
unfolding paths_at
returns-in-Ended c = ap (paths_at c.args.self.now) c.in-Ended.is
