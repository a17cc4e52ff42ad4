use Rattle.std.proofs.Common.{ap, nat_eq}
use Rattle.std.specs.Map.{lookup}
use Rattle.blz_cover.proofs.CoverSteps.{stands_at_first}
use Rattle.blz_cover.proofs.cover.Cover.within.Goals as goal

pub invariant_of-result : goal.invariant_of-result
invariant_of-result c = rw (c.new-changes.ensures, c.new-lines.ensures) (record {
  has_debug = c.requires.has_debug;
  is_prepared = c.requires.is_prepared;
  stands = stands_at_first _ _ _ (λ a. ap (lookup (nat_eq a)) c.new-tallies.ensures.empty);
})
