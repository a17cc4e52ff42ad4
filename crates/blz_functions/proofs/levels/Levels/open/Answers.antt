use Rattle.std.proofs.Common.{sym, ap, ◌∙◌}
use Rattle.blz_functions.specs.CallWalk.{innermost}
use Rattle.blz_functions.proofs.CountedLevels.{counted_push}
use Rattle.blz_functions.proofs.levels.Levels.open.Goals as goal

pub invariant_of-self-in-Some : goal.invariant_of-self-in-Some
invariant_of-self-in-Some c = rw (c.in_ok-push-in-Some.ensures.items, c.below.ensures) (counted_push c.self.inside.above.items c.in-Some.above c.args.tag c.self.invariant (ap innermost c.self.view_is ∙ sym c.in-Some.ensures))
