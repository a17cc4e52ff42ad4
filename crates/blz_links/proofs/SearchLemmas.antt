-- A search that has ended, and one that has not.
use Rattle.std.proofs.Common.{◌≡◌, ◌<◌, true, false, [], length, ap, refl, arith}
use Rattle.blz_links.specs.Searches.{Search, answers_left}
use Rattle.blz_links.specs.Stages.{is_end, others_at, paths_at}
use Rattle.blz_links.specs.declared.search.SearchedLink.{SearchedLink}
use Rattle.blz_links.specs.declared.search.Stage.{Stage}
use Rattle.blz_links.specs.declared.search.Stage.TheVariants.{BuildId, Directory, Beside, Below, Ended}

pub paths_at-ended : (a : SearchedLink) (stage : Stage) → stage ≡ Ended → paths_at a stage ≡ []
unfolding paths_at
paths_at-ended a stage e = ap (paths_at a) e

pub others_at-ended : (a : SearchedLink) (stage : Stage) → stage ≡ Ended → others_at a stage ≡ []
unfolding paths_at
others_at-ended a stage e = ap (others_at a) e

pub is_end-other : (stage : Stage) → (stage ≡ Ended → ⊥) → is_end stage ≡ false
is_end-other (BuildId i) other = refl
is_end-other (Directory i) other = refl
is_end-other Beside other = refl
is_end-other (Below i path) other = refl
is_end-other Ended other = absurd (other refl)

-- want of memory counts as one answer
pub answers_left-ended : (old new : Search) → old.has_ended ≡ false → new.paths ≡ [] → new.has_ended ≡ true → answers_left new < answers_left old
answers_left-ended old new goes_on none ended =
    let left : length new.paths ≡ 0 = ap length none in
    rw (ended, goes_on) (omega arith)
