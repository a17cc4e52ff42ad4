use Rattle.std.proofs.Common.{ap}
use Rattle.blz_links.specs.Searches.{left_of}
use Rattle.blz_bundle.proofs.Findings.{refused_by, refusal_on, rose_from, stays, stays_then}
use Rattle.blz_bundle.proofs.FollowSteps.{first_found, first_none, found_there, never_refused, next_path, passed_more, passed_same}
use Rattle.blz_bundle.proofs.following.first_there.Goals as goal

pub loop-candidate-init : goal.loop-candidate-init
loop-candidate-init g c = (passed_same _ _ _ (ap left_of c.into_iter-candidate-iterator.ensures.into_iter_gives), stays _ _ _ _)

pub returns-in_err-path-clause-stay : goal.returns-in_err-path-clause-stay
returns-in_err-path-clause-stay g c = c.loop-candidate.invariant.1

pub returns-in_err-is_there-clause-value : goal.returns-in_err-is_there-clause-value
returns-in_err-is_there-clause-value g c =
    refused_by _ c.from_residual-in_err-is_there.result _ _ _ c.from_residual-in_err-is_there.ensures.1
    (refusal_on _ _ _ _ c.in_err-is_there.field-0.0 (rose_from _ _ _ c.loop-candidate.invariant.1.later) (λ k v is. absurd (never_refused _ _ k v is)) c.in_err-is_there.ensures.value)

pub returns-in_err-is_there-clause-stay : goal.returns-in_err-is_there-clause-stay
returns-in_err-is_there-clause-stay g c = stays_then _ _ _ _ _ _ c.loop-candidate.invariant.1 c.in_err-is_there.ensures.stay

pub returns-then-branch-clause-value : goal.returns-then-branch-clause-value
returns-then-branch-clause-value g c =
    let next = next_path c.loop-candidate.candidate-iterator c.next.new.self c.in-Some.candidate c.in_ok-path.path c.in_ok-path.was c.in-Some.ensures.steps in
    let there = found_there _ _ _ _ c.in_ok-is_there.field-0 _ c.loop-candidate.invariant.1.same_contents c.deref.ensures c.if-branch.true c.in_ok-is_there.ensures.value in
    first_found _ _ _ _ _ next c.loop-candidate.invariant.0 there

pub returns-then-branch-clause-stay : goal.returns-then-branch-clause-stay
returns-then-branch-clause-stay g c = stays_then _ _ _ _ _ _ c.loop-candidate.invariant.1 c.in_ok-is_there.ensures.stay

pub loop-candidate-preserved : goal.loop-candidate-preserved
loop-candidate-preserved g c =
    let next = next_path c.loop-candidate.candidate-iterator c.next.new.self c.in-Some.candidate c.in_ok-path.path c.in_ok-path.was c.in-Some.ensures.steps in
    let there = found_there _ _ _ _ c.in_ok-is_there.field-0 _ c.loop-candidate.invariant.1.same_contents c.deref.ensures c.if-branch.false c.in_ok-is_there.ensures.value in
    (passed_more _ _ _ _ _ next c.loop-candidate.invariant.0 there, stays_then _ _ _ _ _ _ c.loop-candidate.invariant.1 c.in_ok-is_there.ensures.stay)

pub returns-clause-value : goal.returns-clause-value
returns-clause-value g c = first_none _ _ _ c.in-None.ensures.steps.0 c.loop-candidate.invariant.0

pub returns-clause-stay : goal.returns-clause-stay
returns-clause-stay g c = c.loop-candidate.invariant.1
