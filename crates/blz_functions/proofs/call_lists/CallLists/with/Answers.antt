use Rattle.std.proofs.Common.{◌≡◌, ◌++◌, ◌∷◌, ◌≤◌, [], List, map, refl, ap, ◌∙◌, arith, length, length-append, rules, vec_len}
use Rattle.std.proofs.lemmas.Result.{err_from_is_err_and}
use Rattle.blz_info.specs.Marks.{or_invalid}
use Rattle.blz_ranges.specs.declared.span.Span.{Span}
use Rattle.blz_info.proofs.Marked.{marks_on}
use Rattle.blz_ranges.specs.declared.grouped.Grouped.{Grouped}
use Rattle.blz_functions.specs.declared.inlined_functions.InlinedFunction.{InlinedFunction}
use Rattle.blz_functions.specs.CallTree.{call_added, call_by}
use Rattle.blz_ranges.specs.Groups.{grouped}
use Rattle.blz_functions.specs.Leaves.{ranges_in}
use Rattle.blz_functions.specs.Opened.{open_view}
use Rattle.blz_ranges.specs.Owned.{filled_up}
use Rattle.blz_functions.proofs.ListAdds.{appended_by, call_fails, call_more}
use Rattle.blz_ranges.proofs.OwnedItems.{length_filled}
use Rattle.blz_functions.proofs.call_lists.CallLists.with.Goals as goal

pub returns-in_err-append_ranges : goal.returns-in_err-append_ranges
returns-in_err-append_ranges c =
    let p = err_from_is_err_and c.from_residual.result c.from_residual.ensures.1 in
    let u = open_view c.args.unit.now in
    let d = c.args.description.now in
    rw (p.1, p.2) (marks_on _ (ranges_in u d.ranges) (call_added u c.args.self c.args.depth d) c.in_err-append_ranges.ensures.0 (λ none. call_fails u c.args.self c.args.depth d none))

pub invariant_of-result : goal.invariant_of-result
invariant_of-result c =
    let x = c.self.inside in
    let out = c.group.new.ranges in
    let size : vec_len out ≡ length out.items = search rules in
    let k = ap length c.in_ok-group.ensures in
    let le : length x.owners.items ≤ c.len-2.result = omega (arith, c.self.invariant, c.len-2.ensures, k, length-append {A = Grouped}) in
    let f = length_filled x.owners.items c.len.result c.len-2.result le in
    rw c.in_ok-own.ensures (omega (arith, c.len-2.ensures))

pub returns : goal.returns
returns c =
    let x = c.self.inside in
    let u = open_view c.args.unit.now in
    let d = c.args.description.now in
    let calls : List InlinedFunction = x.calls.items in
    let old : List Grouped = x.ranges.items in
    let out = c.group.new.ranges in
    let first : vec_len x.calls ≡ length calls = search rules in
    let size : vec_len out ≡ length out.items = search rules in
    let a = appended_by _ c.clear.new.self.items c.append_ranges.new.out.items c.in_ok-append_ranges.field-0 c.in_ok-append_ranges.ensures in
    let spans : c.as_slice.result.now ≡ a.spans = c.as_slice.ensures.value ∙ (a.new_is ∙ ap (λ (l : List Span). l ++ a.spans) c.clear.ensures.items) in
    let more : out.items ≡ old ++ map (grouped c.args.depth) a.spans = c.in_ok-group.ensures ∙ ap (λ (l : List Span). old ++ map (grouped c.args.depth) l) spans in
    let pushed : c.push.new.self.items ≡ calls ++ call_by d ∷ [] = c.in_ok-push.ensures.items ∙ ap (λ (z : InlinedFunction). calls ++ z ∷ []) c.call_by.ensures in
    let owned_by : c.own.new.owners.items ≡ filled_up x.owners.items (length calls) (length (old ++ map (grouped c.args.depth) a.spans)) = c.in_ok-own.ensures ∙ rw (c.len.ensures, c.len-2.ensures, first, size, more) refl in
    rw (← c.self.view_is, pushed, more, owned_by) (ap or_invalid (call_more u calls old x.owners.items a.spans c.args.depth d a.is c.self.invariant))
