use Rattle.std.proofs.Common.{◌-◌, ◌+◌, sym, ◌∙◌, arith}
use Rattle.blz_line.proofs.ProgramSteps.{fails_none}
use Rattle.blz_line.proofs.TableSteps.{entries_more, entries_none, entries_end, or_mark_some}
use Rattle.blz_line.proofs.formats.entries_at.Goals as goal

pub returns-in_default : goal.returns-in_default
returns-in_default c = fails_none _ _ c.broken.ensures (sym c.loop.invariant ∙ entries_none _ _ _ _ (c.args.count - (c.loop.counter + 1)) _ _ (omega arith) (sym c.in_default.ensures))

pub loop-preserved : goal.loop-preserved
loop-preserved c = rw c.in_ok-push.ensures.added (sym (entries_more _ _ _ _ (c.args.count - (c.loop.counter + 1)) _ _ _ c.in-Some.entry (omega arith) (sym c.in-Some.ensures)) ∙ c.loop.invariant)

pub returns : goal.returns
returns c = or_mark_some _ _ (sym c.loop.invariant ∙ entries_end _ _ _ _ _ _ (omega arith))
