use Rattle.std.proofs.Common.{sym, ◌∙◌, arith}
use Rattle.blz_image.specs.Segments.{file_place}
use Rattle.blz_image.proofs.FirstGiven.{given_here, given_later}
use Rattle.blz_image.proofs.segments.file_place.Goals as goal

pub returns-then-is_some : goal.returns-then-is_some
returns-then-is_some c = given_here (file_place c.args.addr c.args.size) c.args.segments.now c.loop-i.i _ _ (omega (arith, c.len-i-end.ensures)) c.at.ensures c.file_place-place.ensures (sym c.is_some.ensures ∙ c.if-is_some.true) c.loop-i.invariant

pub loop-i-preserved : goal.loop-i-preserved
loop-i-preserved c = given_later (file_place c.args.addr c.args.size) c.args.segments.now c.loop-i.i _ _ (omega (arith, c.len-i-end.ensures)) c.at.ensures c.file_place-place.ensures (sym c.is_some.ensures ∙ c.if-is_some.false) c.loop-i.invariant
