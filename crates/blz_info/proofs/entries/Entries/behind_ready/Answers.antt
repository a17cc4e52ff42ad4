use Rattle.std.proofs.Common.{false, length, sym, ◌∙◌}
use Rattle.std.proofs.lemmas.Bool.{eqb-true}
use Rattle.blz_info.specs.Contents.{section_view}
use Rattle.blz_info.proofs.PassingSteps.{no_runs, some_of}
use Rattle.blz_info.proofs.RunSteps.{runs_passed}
use Rattle.blz_info.proofs.entries.Entries.behind_ready.Goals as goal

pub returns-then-is_empty-clause-value : goal.returns-then-is_empty-clause-value
returns-then-is_empty-clause-value c =
    let e = c.self.inside in
    let r = c.in_ok-runs.runs.now in
    some_of _ _ (rw (← c.self.view_is) (c.over_from.ensures.value ∙ (sym (no_runs r.runs.items r.tail e.encoding (section_view e.section) c.args.at (eqb-true (length r.runs.items) 0 (rw (← c.as_slice-list.ensures.value) (sym c.is_empty.ensures ∙ c.if-is_empty.true)))) ∙ sym (runs_passed false e.encoding r.runs.items r.tail c.args.abbreviation.now.specs e.base (section_view e.section) c.args.at c.in_ok-runs.ensures))))

pub returns-clause-value : goal.returns-clause-value
returns-clause-value c =
    let e = c.self.inside in
    let r = c.in_ok-runs.runs.now in
    some_of _ _ (rw (← c.self.view_is) (c.passed_by_runs.ensures.value ∙ sym (runs_passed false e.encoding r.runs.items r.tail c.args.abbreviation.now.specs e.base (section_view e.section) c.args.at c.in_ok-runs.ensures)))
