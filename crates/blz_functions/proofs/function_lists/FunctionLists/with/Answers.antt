use Rattle.std.proofs.Common.{◌≡◌, ◌++◌, ◌∷◌, ◌≤◌, [], List, ap, ◌∙◌, arith, length, length-append, rules, refl, vec_len}
use Rattle.std.proofs.lemmas.Result.{err_from_is_err_and}
use Rattle.blz_info.specs.Marks.{or_invalid}
use Rattle.blz_info.proofs.Marked.{marks_on}
use Rattle.blz_functions.specs.declared.functions.Function.{Function}
use Rattle.blz_functions.specs.FunctionList.{function_by, lists_added}
use Rattle.blz_functions.specs.Leaves.{ranges_in}
use Rattle.blz_functions.specs.Opened.{open_view}
use Rattle.blz_ranges.specs.Owned.{filled_up}
use Rattle.blz_functions.proofs.ListAdds.{appended_by, added_fails, added_none, added_some}
use Rattle.blz_ranges.proofs.OwnedItems.{length_filled}
use Rattle.blz_functions.proofs.function_lists.FunctionLists.with.Goals as goal

pub returns-in_err-some : goal.returns-in_err-some
returns-in_err-some c =
    let p = err_from_is_err_and c.from_residual.result c.from_residual.ensures.1 in
    let u = open_view c.args.unit.now in
    let d = c.args.description.now in
    rw (p.1, p.2) (marks_on _ (ranges_in u d.ranges) (lists_added u c.args.self c.args.place d) c.in_err-some.ensures.0 (λ none. added_fails u c.args.self c.args.place d none))

pub returns-then-not-some : goal.returns-then-not-some
returns-then-not-some c =
    let x = c.self.inside in
    let a = appended_by _ x.spans.items c.append_ranges.new.out.items c.in_ok-some.some c.in_ok-some.ensures in
    rw (← c.self.view_is) (ap or_invalid (added_none (open_view c.args.unit.now) x.functions.items x.spans.items c.append_ranges.new.out.items x.owners.items c.args.place c.args.description.now c.in_ok-some.some a c.if-not-some.true))

pub invariant_of-result-2 : goal.invariant_of-result-2
invariant_of-result-2 c =
    let x = c.self.inside in
    let out = c.append_ranges.new.out in
    let size : vec_len out ≡ length out.items = search rules in
    let a = appended_by _ x.spans.items out.items c.in_ok-some.some c.in_ok-some.ensures in
    let k = ap length a.new_is in
    let l = length-append x.spans.items a.spans in
    let le : length x.owners.items ≤ c.len-2.result = omega (arith, c.self.invariant, c.len-2.ensures) in
    let f = length_filled x.owners.items c.len.result c.len-2.result le in
    rw c.in_ok-own.ensures (omega (arith, c.len-2.ensures))

pub returns : goal.returns
returns c =
    let x = c.self.inside in
    let u = open_view c.args.unit.now in
    let d = c.args.description.now in
    let out = c.append_ranges.new.out in
    let f : List Function = x.functions.items in
    let first : vec_len x.functions ≡ length f = search rules in
    let size : vec_len out ≡ length out.items = search rules in
    let a = appended_by _ x.spans.items out.items c.in_ok-some.some c.in_ok-some.ensures in
    let pushed : c.push.new.self.items ≡ f ++ function_by c.args.place d ∷ [] = c.in_ok-push.ensures.items ∙ ap (λ (z : Function). f ++ z ∷ []) c.function_by.ensures in
    let owned_by : c.own.new.owners.items ≡ filled_up x.owners.items (length f) (length out.items) = c.in_ok-own.ensures ∙ rw (c.len.ensures, c.len-2.ensures, first, size) refl in
    rw (← c.self.view_is, pushed, owned_by) (ap or_invalid (added_some u f x.spans.items out.items x.owners.items c.args.place d c.in_ok-some.some a c.if-not-some.false c.self.invariant))
