use Rattle.std.proofs.Common.{◌-◌, sym, ◌∙◌, arith}
use Rattle.blz_line.proofs.ProgramSteps.{fails_none}
use Rattle.blz_line.proofs.TableSteps.{or_mark_some}
use Rattle.blz_line.proofs.AllFiles.{all_nil, all_equal, none_equal}
use Rattle.blz_line.proofs.naming.Namer.equal_files.Goals as goal

pub returns-in_default : goal.returns-in_default
returns-in_default c = rw (c.in_default.is, c.new.ensures) (or_mark_some _ _ (all_nil _))

pub returns-then-count-eq0 : goal.returns-then-count-eq0
returns-then-count-eq0 c = rw (c.in-Some.is, c.if-count-eq0.true, c.new-then-count-eq0.ensures) (or_mark_some _ _ (all_nil _))

pub returns-in_default-2 : goal.returns-in_default-2
returns-in_default-2 c = rw c.in-Some.is (fails_none _ _ c.broken.ensures (none_equal _ _ (c.in-Some.count - 1) _ (omega arith) (sym c.in_ok-file.ensures ∙ c.in_default-2.is)))

pub returns : goal.returns
returns c = rw (c.in-Some.is, c.of_equal.ensures) (or_mark_some _ _ (all_equal _ _ _ _ (sym c.in_ok-file.ensures ∙ c.in-Some-2.is)))
