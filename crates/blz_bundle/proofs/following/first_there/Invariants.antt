use Rattle.blz_links.specs.Searches.{left_of}
use Rattle.blz_bundle.specs.Outcomes.{FilesStay}
use Rattle.blz_bundle.proofs.FollowSteps.{Passed}
use Rattle.blz_bundle.proofs.following.first_there.Given as goal

abbrev pub invariant-loop-candidate : goal.invariant-loop-candidate
invariant-loop-candidate g l =
    Passed (g.F.Files.contents l.fn.files) (left_of l.fn.candidates) (left_of l.candidate-iterator)
    × FilesStay g.F.Files.contents g.F.Files.stamps g.F.Files.faults l.fn.files l.files
