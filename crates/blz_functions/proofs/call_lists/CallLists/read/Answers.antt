use Rattle.std.proofs.Common.{sym, ap, ◌∙◌}
use Rattle.std.proofs.lemmas.Result.{err_from_is_err_and}
use Rattle.blz_info.specs.Marks.{or_invalid}
use Rattle.blz_info.proofs.Marked.{marks}
use Rattle.blz_model.specs.Part.{Good}
use Rattle.blz_functions.specs.CallTree.{CallLists}
use Rattle.blz_functions.specs.Opened.{open_view}
use Rattle.blz_functions.proofs.CallEntry.{begins, refused, calls_outside, calls_over, calls_stuck, calls_zero, calls_unread, calls_leaf, calls_inside, not_true, not_false, skipped_pending}
use Rattle.blz_functions.proofs.call_lists.CallLists.read.Goals as goal

pub returns-in_err-entries-clause-value : goal.returns-in_err-entries-clause-value
returns-in_err-entries-clause-value g c =
    let p = err_from_is_err_and c.from_residual.result c.from_residual.ensures.1 in
    let r = refused (open_view c.args.unit.now) c.args.place _ c.in_err-entries.ensures.0 in
    rw (p.1, p.2) (marks _ _ (calls_outside _ (open_view c.args.unit.now) c.args.place r.outside) r.kind_is)

pub returns-in-Ok-None-clause-value : goal.returns-in-Ok-None-clause-value
returns-in-Ok-None-clause-value g c =
    let u = open_view c.args.unit.now in
    let b = begins u c.args.place c.in_ok-entries.entries c.in_ok-entries.ensures in
    marks _ _ (calls_over _ u c.args.place c.in_ok-entries.entries b c.next_entry.new.self (rw c.in-Ok-None.field-0-is at c.in-Ok-None.ensures.value)) c.invalid.ensures

pub returns-in-Err-clause-value : goal.returns-in-Err-clause-value
returns-in-Err-clause-value g c =
    let u = open_view c.args.unit.now in
    let b = begins u c.args.place c.in_ok-entries.entries c.in_ok-entries.ensures in
    marks _ _ (calls_stuck _ u c.args.place c.in_ok-entries.entries b c.in-Err.ensures.value.0) c.in-Err.ensures.value.1

pub returns-then-entry-eq0-clause-value : goal.returns-then-entry-eq0-clause-value
returns-then-entry-eq0-clause-value g c =
    let u = open_view c.args.unit.now in
    let b = begins u c.args.place c.in_ok-entries.entries c.in_ok-entries.ensures in
    marks _ _ (calls_zero _ u c.args.place c.in_ok-entries.entries b c.next_entry.new.self _ (rw c.in-Ok-Some.field-0-is at c.in-Ok-Some.ensures.value) c.if-entry-eq0.true) c.invalid-then-entry-eq0.ensures

pub returns-in-Err-skip_attributes-clause-value : goal.returns-in-Err-skip_attributes-clause-value
returns-in-Err-skip_attributes-clause-value g c =
    let u = open_view c.args.unit.now in
    let b = begins u c.args.place c.in_ok-entries.entries c.in_ok-entries.ensures in
    marks _ _ (calls_unread _ u c.args.place c.in_ok-entries.entries b c.next_entry.new.self _ (rw c.in-Ok-Some.field-0-is at c.in-Ok-Some.ensures.value) c.in-Err-skip_attributes.ensures.value.0 c.if-entry-eq0.false) c.in-Err-skip_attributes.ensures.value.1

pub returns-then-not-entry-clause-value : goal.returns-then-not-entry-clause-value
returns-then-not-entry-clause-value g c =
    let u = open_view c.args.unit.now in
    let b = begins u c.args.place c.in_ok-entries.entries c.in_ok-entries.ensures in
    ap or_invalid (calls_leaf _ u c.args.place c.in_ok-entries.entries b c.next_entry.new.self c.skip_attributes.new.self _ (rw c.in-Ok-Some.field-0-is at c.in-Ok-Some.ensures.value) c.in-Ok.ensures.value c.if-entry-eq0.false (not_true c.in-Ok-Some.entry.children c.if-not-entry.true))
    ∙ ap (λ (l : CallLists). Good l) (sym c.new.ensures)

pub read_below-requires-clause-pending : goal.read_below-requires-clause-pending
read_below-requires-clause-pending g c = skipped_pending c.next_entry.new.self c.skip_attributes.new.self c.in-Ok.ensures.value

pub returns-clause-value : goal.returns-clause-value
returns-clause-value g c =
    let u = open_view c.args.unit.now in
    let b = begins u c.args.place c.in_ok-entries.entries c.in_ok-entries.ensures in
    rw (calls_inside (g.F.Links.refer (g.F.Links.linkage c.args.links.now)) u c.args.place c.in_ok-entries.entries b c.next_entry.new.self c.skip_attributes.new.self c.in-Ok-Some.entry (rw c.in-Ok-Some.field-0-is at c.in-Ok-Some.ensures.value) c.in-Ok.ensures.value c.if-entry-eq0.false (not_false c.in-Ok-Some.entry.children c.if-not-entry.false)) c.read_below.ensures.value
