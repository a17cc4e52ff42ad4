use Rattle.std.proofs.Common.{◌≡◌, ◌<◌, List, Option, Some, None, ℕ, refl, sym, ap, ◌∙◌, length}
use Rattle.std.proofs.lemmas.Bool.{ltb-true}
use Rattle.std.proofs.lemmas.Result.{err_from_is_err_and}
use Rattle.blz_model.specs.Reads.{◌>>=◌}
use Rattle.blz_info.specs.Marks.{or_invalid}
use Rattle.blz_info.proofs.Marked.{marks, marks_on, good_some}
use Rattle.blz_functions.specs.declared.levels.Above.{Above}
use Rattle.blz_functions.specs.CallTree.{CallLists}
use Rattle.blz_functions.specs.CallWalk.{levels_behind, innermost, call_depth}
use Rattle.blz_functions.specs.Opened.{open_view}
use Rattle.blz_functions.proofs.CallSteps.{calls_rest, first, one_more, no_more, none_next, no_call, no_call_broken, rest_start, rest_end}
use Rattle.blz_functions.proofs.CallEntry.{skipped_pending}
use Rattle.blz_functions.proofs.MetEntries.{met_specs}
use Rattle.blz_functions.proofs.PassedEntries.{calls_behind_passed}
use Rattle.blz_functions.proofs.call_lists.CallLists.read_below.Goals as goal

abbrev Behind : Type 0
Behind = Option (CallLists × ℕ)

pub loop-entries-init : goal.loop-entries-init
loop-entries-init g c = record {
  pending = c.requires.pending;
  source = c.requires.source;
  same = refl;
  rest = rw (c.new-lists.ensures, c.in_ok-levels.ensures) (rest_start (g.F.Links.refer (g.F.Links.linkage c.args.links.now)) (open_view c.args.unit.now) c.args.entries.now.place);
}

pub with_entry-requires-clause-met : goal.with_entry-requires-clause-met
with_entry-requires-clause-met g c =
    let p = c.pass_over.ensures in
    met_specs (open_view c.args.unit.now) c.pass_over.new.self c.next_entry.new.self _ p.pending (p.source ∙ c.loop-entries.invariant.source) (rw c.in-Ok-Some.field-0-is at c.in-Ok-Some.ensures.value)

pub returns-in-Ok-None-clause-value : goal.returns-in-Ok-None-clause-value
returns-in-Ok-None-clause-value g c =
    let k = c.loop-entries.invariant in
    let p = c.pass_over.ensures in
    let u = open_view c.args.unit.now in
    let lt : 0 < length c.loop-entries.levels = ltb-true 0 (length c.loop-entries.levels) (sym c.is_open.ensures ∙ c.loop-entries-test.true) in
    let rest = calls_behind_passed _ u c.loop-entries.levels c.loop-entries.lists p.passed.0 c.loop-entries.entries c.pass_over.new.self _ lt k.pending k.source p.passed.1 k.rest in
    marks _ _ (sym rest ∙ ap (λ (o : Behind). o >>= first) (no_more _ u c.loop-entries.levels c.loop-entries.lists c.pass_over.new.self lt p.pending (p.source ∙ k.source) c.next_entry.new.self (rw c.in-Ok-None.field-0-is at c.in-Ok-None.ensures.value))) c.invalid.ensures

pub returns-in-Err-clause-value : goal.returns-in-Err-clause-value
returns-in-Err-clause-value g c =
    let k = c.loop-entries.invariant in
    let p = c.pass_over.ensures in
    let u = open_view c.args.unit.now in
    let lt : 0 < length c.loop-entries.levels = ltb-true 0 (length c.loop-entries.levels) (sym c.is_open.ensures ∙ c.loop-entries-test.true) in
    let rest = calls_behind_passed _ u c.loop-entries.levels c.loop-entries.lists p.passed.0 c.loop-entries.entries c.pass_over.new.self _ lt k.pending k.source p.passed.1 k.rest in
    marks _ _ (sym rest ∙ ap (λ (o : Behind). o >>= first) (none_next _ u c.loop-entries.levels c.loop-entries.lists c.pass_over.new.self lt p.pending (p.source ∙ k.source) c.in-Err.ensures.value.0)) c.in-Err.ensures.value.1

pub returns-in-Err-with_entry-clause-value : goal.returns-in-Err-with_entry-clause-value
returns-in-Err-with_entry-clause-value g c =
    let k = c.loop-entries.invariant in
    let p = c.pass_over.ensures in
    let refer = g.F.Links.refer (g.F.Links.linkage c.args.links.now) in
    let u = open_view c.args.unit.now in
    let levels : List Above = c.loop-entries.levels in
    let lt : 0 < length levels = ltb-true 0 (length levels) (sym c.is_open.ensures ∙ c.loop-entries-test.true) in
    let rest = calls_behind_passed refer u levels c.loop-entries.lists p.passed.0 c.loop-entries.entries c.pass_over.new.self _ lt k.pending k.source p.passed.1 k.rest in
    let step = one_more refer u levels c.loop-entries.lists c.pass_over.new.self lt p.pending (p.source ∙ k.source) c.next_entry.new.self _ (rw c.in-Ok-Some.field-0-is at c.in-Ok-Some.ensures.value) in
    let is : Some c.in-Some.depth ≡ call_depth (innermost levels) c.in-Ok-Some.entry.tag = sym c.in-Some.is ∙ c.call_depth-depth.ensures in
    marks_on _ _ _ c.in-Err-with_entry.ensures.value (λ fails.
    sym rest ∙ ap (λ (o : Behind). o >>= first) (step ∙ ap (λ (o : Behind). o >>= calls_rest refer u (levels_behind levels c.in-Ok-Some.entry)) (rw (k.same, is) at fails)))

pub returns-in_err-skip_attributes-clause-value : goal.returns-in_err-skip_attributes-clause-value
returns-in_err-skip_attributes-clause-value g c =
    let r = err_from_is_err_and c.from_residual-in_err-skip_attributes.result c.from_residual-in_err-skip_attributes.ensures.1 in
    let k = c.loop-entries.invariant in
    let p = c.pass_over.ensures in
    let refer = g.F.Links.refer (g.F.Links.linkage c.args.links.now) in
    let u = open_view c.args.unit.now in
    let levels : List Above = c.loop-entries.levels in
    let lt : 0 < length levels = ltb-true 0 (length levels) (sym c.is_open.ensures ∙ c.loop-entries-test.true) in
    let rest = calls_behind_passed refer u levels c.loop-entries.lists p.passed.0 c.loop-entries.entries c.pass_over.new.self _ lt k.pending k.source p.passed.1 k.rest in
    let step = one_more refer u levels c.loop-entries.lists c.pass_over.new.self lt p.pending (p.source ∙ k.source) c.next_entry.new.self _ (rw c.in-Ok-Some.field-0-is at c.in-Ok-Some.ensures.value) in
    let is : None ≡ call_depth (innermost levels) c.in-Ok-Some.entry.tag = sym c.in_default.is ∙ c.call_depth-depth.ensures in
    let fails = rw is at (no_call_broken refer u c.loop-entries.lists c.in-Ok-Some.entry c.next_entry.new.self c.in_err-skip_attributes.ensures.value.0) in
    rw (r.1, r.2) (marks _ _ (sym rest ∙ ap (λ (o : Behind). o >>= first) (step ∙ ap (λ (o : Behind). o >>= calls_rest refer u (levels_behind levels c.in-Ok-Some.entry)) fails)) c.in_err-skip_attributes.ensures.value.1)

pub loop-entries-preserved-in_default : goal.loop-entries-preserved-in_default
loop-entries-preserved-in_default g c =
    let k = c.loop-entries.invariant in
    let p = c.pass_over.ensures in
    let refer = g.F.Links.refer (g.F.Links.linkage c.args.links.now) in
    let u = open_view c.args.unit.now in
    let levels : List Above = c.loop-entries.levels in
    let lt : 0 < length levels = ltb-true 0 (length levels) (sym c.is_open.ensures ∙ c.loop-entries-test.true) in
    let rest = calls_behind_passed refer u levels c.loop-entries.lists p.passed.0 c.loop-entries.entries c.pass_over.new.self _ lt k.pending k.source p.passed.1 k.rest in
    let step = one_more refer u levels c.loop-entries.lists c.pass_over.new.self lt p.pending (p.source ∙ k.source) c.next_entry.new.self _ (rw c.in-Ok-Some.field-0-is at c.in-Ok-Some.ensures.value) in
    let is : None ≡ call_depth (innermost levels) c.in-Ok-Some.entry.tag = sym c.in_default.is ∙ c.call_depth-depth.ensures in
    let met = rw is at (no_call refer u c.loop-entries.lists c.in-Ok-Some.entry c.next_entry.new.self c.skip_attributes.new.self c.in_ok-skip_attributes.ensures.value) in
    record {
      pending = skipped_pending c.next_entry.new.self c.skip_attributes.new.self c.in_ok-skip_attributes.ensures.value;
      source = c.skip_attributes.ensures.source ∙ (c.next_entry.ensures.source ∙ (p.source ∙ k.source));
      same = k.same;
      rest = ap (λ (ls : List Above). calls_rest refer u ls (c.loop-entries.lists, c.skip_attributes.new.self.place) >>= first) c.in_ok-pass.ensures
          ∙ (ap (λ (o : Behind). o >>= first) (sym (step ∙ ap (λ (o : Behind). o >>= calls_rest refer u (levels_behind levels c.in-Ok-Some.entry)) met)) ∙ rest);
    }

pub loop-entries-preserved : goal.loop-entries-preserved
loop-entries-preserved g c =
    let k = c.loop-entries.invariant in
    let p = c.pass_over.ensures in
    let refer = g.F.Links.refer (g.F.Links.linkage c.args.links.now) in
    let u = open_view c.args.unit.now in
    let levels : List Above = c.loop-entries.levels in
    let lt : 0 < length levels = ltb-true 0 (length levels) (sym c.is_open.ensures ∙ c.loop-entries-test.true) in
    let rest = calls_behind_passed refer u levels c.loop-entries.lists p.passed.0 c.loop-entries.entries c.pass_over.new.self _ lt k.pending k.source p.passed.1 k.rest in
    let step = one_more refer u levels c.loop-entries.lists c.pass_over.new.self lt p.pending (p.source ∙ k.source) c.next_entry.new.self _ (rw c.in-Ok-Some.field-0-is at c.in-Ok-Some.ensures.value) in
    let is : Some c.in-Some.depth ≡ call_depth (innermost levels) c.in-Ok-Some.entry.tag = sym c.in-Some.is ∙ c.call_depth-depth.ensures in
    let met = rw (k.same, is) at (good_some {A = CallLists × ℕ} _ _ c.in-Ok.ensures.value) in
    record {
      pending = c.in-Ok.ensures.pending;
      source = c.with_entry.ensures.source ∙ (c.next_entry.ensures.source ∙ (p.source ∙ k.source));
      same = c.with_entry.ensures.same ∙ k.same;
      rest = ap (λ (ls : List Above). calls_rest refer u ls (c.in-Ok.more, c.with_entry.new.entries.place) >>= first) c.in_ok-pass.ensures
          ∙ (ap (λ (o : Behind). o >>= first) (sym (step ∙ ap (λ (o : Behind). o >>= calls_rest refer u (levels_behind levels c.in-Ok-Some.entry)) met)) ∙ rest);
    }

pub returns-clause-value : goal.returns-clause-value
returns-clause-value g c = ap or_invalid (sym c.loop-entries.invariant.rest ∙ rest_end _ (open_view c.args.unit.now) c.loop-entries.levels c.loop-entries.lists c.loop-entries.entries.place (sym c.is_open.ensures ∙ c.loop-entries-test.false))
