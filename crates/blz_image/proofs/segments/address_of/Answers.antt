use Rattle.std.proofs.Common.{sym, ◌∙◌, arith}
use Rattle.blz_image.specs.Segments.{address_of}
use Rattle.blz_image.proofs.FirstGiven.{given_here, given_later}
use Rattle.blz_image.proofs.segments.address_of.Goals as goal

pub returns-then-is_some : goal.returns-then-is_some
returns-then-is_some c = given_here (address_of c.args.offset) c.args.segments.now c.loop-i.i _ _ (omega (arith, c.len-i-end.ensures)) c.at.ensures c.address_of-addr.ensures (sym c.is_some.ensures ∙ c.if-is_some.true) c.loop-i.invariant

pub loop-i-preserved : goal.loop-i-preserved
loop-i-preserved c = given_later (address_of c.args.offset) c.args.segments.now c.loop-i.i _ _ (omega (arith, c.len-i-end.ensures)) c.at.ensures c.address_of-addr.ensures (sym c.is_some.ensures ∙ c.if-is_some.false) c.loop-i.invariant
