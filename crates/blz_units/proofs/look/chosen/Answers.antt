use Rattle.std.proofs.Common.{refl, sym, ap}
use Rattle.blz_info.specs.Marks.{or_invalid}
use Rattle.blz_units.proofs.Choosing.{more, none, over}
use Rattle.blz_units.proofs.look.chosen.Goals as goal

pub returns-in-None : goal.returns-in-None
returns-in-None c = λ _. rw (c.invalid.ensures, none c.args.calls.now c.args.numbers.now c.loop-number.number-index _ c.loop-number.some.items _ c.loop-number-test.true (sym c.in-None.ensures) c.loop-number.invariant) refl

pub loop-number-preserved : goal.loop-number-preserved
loop-number-preserved c = rw c.in_ok-push-in-Some.ensures.items (more c.args.calls.now c.args.numbers.now c.loop-number.number-index _ c.loop-number.some.items c.in-Some.call _ c.loop-number-test.true (sym c.in-Some.ensures) c.loop-number.invariant)

pub returns : goal.returns
returns c = ap or_invalid (over c.args.calls.now c.args.numbers.now c.loop-number.number-index c.loop-number.some.items _ c.loop-number-test.false c.loop-number.invariant)
