use Rattle.std.proofs.Common.{◌-◌, ◌+◌, arith, sym, ap, ◌∙◌}
use Rattle.std.specs.Option.{option_to_list}
use Rattle.std.proofs.lemmas.Bool.{ne_eqb, eq-eqb}
use Rattle.std.proofs.lemmas.List.{length-append, take-append-le, take_all}
use Rattle.blz_entry.specs.RangeLists.{spans_in, spans_from, list_length}
use Rattle.blz_info.proofs.Marked.{marks}
use Rattle.blz_entry.proofs.RangeSteps.{spans_more, spans_last, spans_none, spans_here, spans_over}
use Rattle.blz_entry.proofs.range_list.append_list.Goals as goal

pub loop-init : goal.loop-init
unfolding spans_from
loop-init c = record { rest = ap (λ n. spans_in c.args.sections.now c.args.header.now c.args.root.now n c.args.root.now.low_pc c.args.out.now.items c.args.offset) (omega arith); grown = omega arith; front = take_all _ _ (omega arith) }

pub returns-then-place-end-clause-value : goal.returns-then-place-end-clause-value
returns-then-place-end-clause-value c =
    sym c.loop.invariant.rest ∙ spans_here _ _ _ _ (list_length c.args.sections.now c.args.header.now - c.loop.counter) _ _ _ (omega arith) (eq-eqb _ _ (omega arith))

pub returns-in_default-clause-value : goal.returns-in_default-clause-value
returns-in_default-clause-value c =
    marks _ _ (sym c.loop.invariant.rest ∙ spans_none _ _ _ _ (list_length c.args.sections.now c.args.header.now - c.loop.counter) _ _ _ (omega arith) (ne_eqb _ _ (omega arith)) (sym c.in_default.ensures)) c.invalid.ensures

pub returns-then-is_end-clause-value : goal.returns-then-is_end-clause-value
returns-then-is_end-clause-value c =
    sym c.loop.invariant.rest ∙ spans_last _ _ _ _ (list_length c.args.sections.now c.args.header.now - c.loop.counter) _ _ c.in-Some.next _ c.in-Some.entry (omega arith) (ne_eqb _ _ (omega arith)) (sym c.in-Some.ensures) (sym c.if-is_end.ensures)

pub loop-preserved : goal.loop-preserved
loop-preserved c = record {
  rest = rw (c.in_ok-put.ensures.ok, c.base_behind-base.ensures, c.spelled.ensures) (sym (spans_more _ _ _ _ (list_length c.args.sections.now c.args.header.now + 1 - (c.loop.counter + 1)) _ _ _ _ c.in-Some.entry (omega arith) (ne_eqb _ _ (omega arith)) (sym c.in-Some.ensures) (sym c.if-is_end.ensures)) ∙ c.loop.invariant.rest);
  grown = rw c.in_ok-put.ensures.ok (omega (arith, c.loop.invariant.grown, length-append c.loop.out.items (option_to_list c.spelled.result)));
  front = rw c.in_ok-put.ensures.ok (take-append-le _ _ _ (omega (arith, c.loop.invariant.grown)) ∙ c.loop.invariant.front);
}

pub returns-clause-value : goal.returns-clause-value
returns-clause-value c = marks _ _ (sym c.loop.invariant.rest ∙ spans_over _ _ _ _ _ _ _ (omega arith)) c.invalid-2.ensures
