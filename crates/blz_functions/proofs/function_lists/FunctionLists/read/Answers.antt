use Rattle.std.proofs.Common.{sym, ap, ◌∙◌, Option, ℕ}
use Rattle.blz_model.specs.Reads.{◌>>=◌}
use Rattle.blz_info.specs.Marks.{or_invalid}
use Rattle.blz_info.proofs.Marked.{marks, marks_on, good_some}
use Rattle.blz_functions.specs.FunctionList.{Lists}
use Rattle.blz_functions.specs.Opened.{open_view}
use Rattle.blz_functions.proofs.FunctionSteps.{one_more, no_more, none_next, lists_behind}
use Rattle.blz_functions.proofs.MetEntries.{met_specs}
use Rattle.blz_functions.proofs.PassedEntries.{lists_behind_passed}
use Rattle.blz_functions.proofs.function_lists.FunctionLists.read.Goals as goal

pub returns-in-Ok-None-clause-value : goal.returns-in-Ok-None-clause-value
returns-in-Ok-None-clause-value g c =
    let k = c.loop-entry.invariant in
    let p = c.pass_over.ensures in
    let u = open_view c.args.unit.now in
    let rest = lists_behind_passed _ u c.loop-entry.lists p.passed.0 c.loop-entry.entries c.pass_over.new.self _ k.pending k.source p.passed.1 k.rest in
    ap or_invalid (sym rest ∙ no_more _ u c.loop-entry.lists c.pass_over.new.self c.next_entry.new.self p.pending (p.source ∙ k.source) (rw c.in-Ok-None.field-0-is at c.in-Ok-None.ensures.value))

pub returns-in-Err-clause-value : goal.returns-in-Err-clause-value
returns-in-Err-clause-value g c =
    let k = c.loop-entry.invariant in
    let p = c.pass_over.ensures in
    let u = open_view c.args.unit.now in
    let rest = lists_behind_passed _ u c.loop-entry.lists p.passed.0 c.loop-entry.entries c.pass_over.new.self _ k.pending k.source p.passed.1 k.rest in
    marks _ _ (sym rest ∙ none_next _ u c.loop-entry.lists c.pass_over.new.self p.pending (p.source ∙ k.source) c.in-Err.ensures.value.0) c.in-Err.ensures.value.1

pub with_entry-requires-clause-met : goal.with_entry-requires-clause-met
with_entry-requires-clause-met g c =
    let p = c.pass_over.ensures in
    met_specs (open_view c.args.unit.now) c.pass_over.new.self c.next_entry.new.self _ p.pending (p.source ∙ c.loop-entry.invariant.source) (rw c.in-Ok-Some.field-0-is at c.in-Ok-Some.ensures.value)

pub returns-in-Err-with_entry-clause-value : goal.returns-in-Err-with_entry-clause-value
returns-in-Err-with_entry-clause-value g c =
    let k = c.loop-entry.invariant in
    let p = c.pass_over.ensures in
    let refer = g.F.Links.refer (g.F.Links.linkage c.args.links.now) in
    let u = open_view c.args.unit.now in
    let rest = lists_behind_passed refer u c.loop-entry.lists p.passed.0 c.loop-entry.entries c.pass_over.new.self _ k.pending k.source p.passed.1 k.rest in
    let step = one_more refer u c.loop-entry.lists c.pass_over.new.self c.next_entry.new.self _ p.pending (p.source ∙ k.source) (rw c.in-Ok-Some.field-0-is at c.in-Ok-Some.ensures.value) in
    marks_on _ _ _ c.in-Err-with_entry.ensures.value (λ fails. sym rest ∙ (step ∙ ap (λ (o : Option (Lists × ℕ)). o >>= lists_behind refer u c.next_entry.new.self.depth) (rw k.same at fails)))

pub loop-entry-preserved : goal.loop-entry-preserved
loop-entry-preserved g c =
    let k = c.loop-entry.invariant in
    let p = c.pass_over.ensures in
    let refer = g.F.Links.refer (g.F.Links.linkage c.args.links.now) in
    let u = open_view c.args.unit.now in
    let rest = lists_behind_passed refer u c.loop-entry.lists p.passed.0 c.loop-entry.entries c.pass_over.new.self _ k.pending k.source p.passed.1 k.rest in
    let step = one_more refer u c.loop-entry.lists c.pass_over.new.self c.next_entry.new.self _ p.pending (p.source ∙ k.source) (rw c.in-Ok-Some.field-0-is at c.in-Ok-Some.ensures.value) in
    let met = rw k.same at (good_some {A = Lists × ℕ} _ _ c.in-Ok.ensures.value) in
    record {
      pending = c.in-Ok.ensures.pending;
      source = c.with_entry.ensures.source ∙ (c.next_entry.ensures.source ∙ (p.source ∙ k.source));
      same = c.with_entry.ensures.same ∙ k.same;
      rest = rw c.with_entry.ensures.depth (sym (step ∙ ap (λ (o : Option (Lists × ℕ)). o >>= lists_behind refer u c.next_entry.new.self.depth) met) ∙ rest);
    }
