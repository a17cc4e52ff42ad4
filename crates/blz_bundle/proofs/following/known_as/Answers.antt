use Rattle.blz_bundle.proofs.FollowSteps.{canonical_gives, known_there, known_itself}
use Rattle.blz_bundle.proofs.following.known_as.Goals as goal

pub returns-in-Some-clause-value : goal.returns-in-Some-clause-value
returns-in-Some-clause-value g c = known_there _ _ c.in-Some.known (canonical_gives _ _ _ _ c.in-Some.is c.in_ok-known.ensures.told)

pub returns-in_ok-from_str-in-None-clause-value : goal.returns-in_ok-from_str-in-None-clause-value
returns-in_ok-from_str-in-None-clause-value g c = known_itself _ _ _ c.in_ok-from_str-in-None.ensures.ok
