use Rattle.std.proofs.Common.{◌-◌, [], sym, ap, ◌∙◌, arith, Some}
use Rattle.blz_line.proofs.ProgramSteps.{fails_none}
use Rattle.blz_line.proofs.TableSteps.{entries_none, entries_equal, or_mark_some}
use Rattle.blz_line.proofs.formats.some_entries_at.Goals as goal

pub returns-in_default : goal.returns-in_default
returns-in_default c = fails_none _ _ c.broken.ensures (entries_none _ _ _ _ (c.args.count - 1) _ _ (omega arith) (sym c.in_default.ensures))

pub returns-then-next-at : goal.returns-then-next-at
returns-then-next-at c =
    let here = ap (λ n. Some (c.in-Some.first, n)) c.if-next-at.true in
    rw c.of_equal.ensures (or_mark_some _ _ (entries_equal _ _ _ c.args.count [] _ c.in-Some.first (sym c.in-Some.ensures ∙ here)))
