use Rattle.std.proofs.Common.{ap, Err}
use Rattle.blz_bundle.proofs.Findings.{fault_refuses, refused_by}
use Rattle.blz_bundle.proofs.FollowSteps.{exists_finds}
use Rattle.blz_bundle.proofs.following.is_there.Goals as goal

pub returns-in_err-exists-clause-value : goal.returns-in_err-exists-clause-value
returns-in_err-exists-clause-value g c =
    refused_by _ c.from_residual.result _ _ _ c.from_residual.ensures.1
    (fault_refuses _ c.in_err-exists.field-0.0 _ _ (λ same. c.in_err-exists.ensures.never.0 (ap Err same)) c.in_err-exists.ensures.cause)

pub returns-clause-value : goal.returns-clause-value
returns-clause-value g c = exists_finds _ _ c.in_ok-exists.field-0 c.in_ok-exists.ensures.told
