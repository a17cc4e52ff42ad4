use Rattle.std.proofs.Common.{◌-◌, ◌+◌, sym, ◌∙◌, arith}
use Rattle.blz_line.proofs.ProgramSteps.{fails_none}
use Rattle.blz_line.proofs.TableSteps.{formats_more, formats_none, formats_end, or_mark_some}
use Rattle.blz_line.proofs.formats.formats_from.Goals as goal

pub returns-in_default : goal.returns-in_default
returns-in_default c = fails_none _ _ c.broken.ensures (sym c.loop.invariant ∙ formats_none _ (c.args.count - (c.loop.counter + 1)) _ _ _ (omega arith) (sym c.in_default.ensures))

pub loop-preserved : goal.loop-preserved
loop-preserved c = rw c.in_ok-push.ensures.items (sym (formats_more _ (c.args.count - (c.loop.counter + 1)) _ _ _ _ c.in-Some.format (omega arith) (sym c.in-Some.ensures)) ∙ c.loop.invariant)

pub returns : goal.returns
returns c = or_mark_some _ _ (sym c.loop.invariant ∙ formats_end _ _ _ _ (omega arith))
