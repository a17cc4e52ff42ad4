use Rattle.std.proofs.Common.{false, sym, ◌∙◌}
use Rattle.blz_info.specs.Contents.{section_view}
use Rattle.blz_info.proofs.RunSteps.{runs_passed}
use Rattle.blz_info.proofs.entries.Entries.behind_pending.Goals as goal

pub returns-in-Some-clause-value : goal.returns-in-Some-clause-value
returns-in-Some-clause-value c =
    let e = c.self.inside in
    let passes = rw c.in-Some.is at c.self.invariant.passing in
    rw (← c.self.view_is) (rw c.deref.ensures.value at c.passed_by.ensures.value ∙ sym (runs_passed false e.encoding c.in-Some.runs.now.runs.items c.in-Some.runs.now.tail e.pending.now e.base (section_view e.section) e.place passes))
