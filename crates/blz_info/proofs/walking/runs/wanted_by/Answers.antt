use Rattle.std.proofs.Common.{ℕ, ◌+◌, ◌≤◌, ◌<◌, ◌^◌, Fits, w64, sym, ap, ◌∙◌, arith}
use Rattle.std.specs.Prelude.{option_map}
use Rattle.blz_info.specs.Wanted.{met_view}
use Rattle.blz_info.proofs.RunSteps.{room_for, searching_none, searching_more, search_short, search_unread, search_stops, search_finds, search_left, search_over, search_ends}
use Rattle.blz_info.proofs.walking.runs.wanted_by.Goals as goal

fits_within : (n len : ℕ) → n ≤ len → len < 2 ^ 64 → Fits w64 n
fits_within n len le fits = omega arith

fits_before : (a b len : ℕ) → a + b + 1 ≤ len → len < 2 ^ 64 → Fits w64 (a + b)
fits_before a b len le fits = omega arith

pub loop-index-init : goal.loop-index-init
loop-index-init c = record {
  ahead = omega arith;
  within = λ le. le;
  rest = searching_none _ _ _ _ _ _ _ c.requires.runs;
}

pub loop-index-preserved : goal.loop-index-preserved
loop-index-preserved c = record {
  ahead = omega (arith, c.in_ok-start.ensures.within, c.in_ok-next.ensures.within);
  within = λ le. c.in_ok-next.ensures.within.1 (c.in_ok-start.ensures.within.1 (c.loop-index.invariant.within le));
  rest = searching_more _ c.args.runs.now _ _ _ _ _ c.loop-index.index _ _ _ _ _ c.loop-index-test.true c.loop-index.invariant.rest (sym c.in_ok-start.ensures.value) c.if-run.false (sym c.in_ok-next.ensures.value);
}

pub returns-in_err-start-clause-value : goal.returns-in_err-start-clause-value
returns-in_err-start-clause-value c =
    ap (option_map (met_view c.args.pending.now)) c.from_residual.ensures
    ∙ sym (search_short _ c.args.runs.now _ _ _ _ _ c.loop-index.index _ _ _ c.loop-index-test.true c.loop-index.invariant.rest (sym c.in_err-start.ensures.value))

pub returns-in_err-value-clause-value : goal.returns-in_err-value-clause-value
returns-in_err-value-clause-value c =
    ap (option_map (met_view c.args.pending.now)) c.from_residual-in_err-value.ensures
    ∙ sym (search_unread _ c.args.runs.now _ _ _ _ _ c.loop-index.index _ _ _ _ c.loop-index-test.true c.loop-index.invariant.rest (sym c.in_ok-start.ensures.value) c.if-run.true (sym c.in_err-value.ensures.value))

pub returns-in_err-next-clause-value : goal.returns-in_err-next-clause-value
returns-in_err-next-clause-value c =
    ap (option_map (met_view c.args.pending.now)) c.from_residual-in_err-next.ensures
    ∙ sym (search_stops _ c.args.runs.now _ _ _ _ _ c.loop-index.index _ _ _ _ c.loop-index-test.true c.loop-index.invariant.rest (sym c.in_ok-start.ensures.value) c.if-run.false (sym c.in_err-next.ensures.value))

pub returns-then-run-clause-value : goal.returns-then-run-clause-value
returns-then-run-clause-value c =
    search_finds _ c.args.runs.now _ _ _ _ _ c.loop-index.index _ _ _ _ _ _ c.loop-index-test.true c.loop-index.invariant.rest (sym c.in_ok-start.ensures.value) c.if-run.true (sym c.in_ok-value.ensures.value)

pub returns-then-run-clause-left : goal.returns-then-run-clause-left
returns-then-run-clause-left c =
    search_left _ c.args.runs.now _ _ _ _ _ c.loop-index.index _ _ _ c.loop-index-test.true c.loop-index.invariant.rest

pub returns-in_err-place-clause-value : goal.returns-in_err-place-clause-value
returns-in_err-place-clause-value c =
    ap (option_map (met_view c.args.pending.now)) c.from_residual-in_err-place.ensures
    ∙ sym (search_ends _ c.args.runs.now _ _ _ _ _ c.loop-index.index _ _ c.loop-index-test.false c.loop-index.invariant.rest (sym c.in_err-place.ensures.value))

pub returns-clause-value : goal.returns-clause-value
returns-clause-value c =
    search_over _ c.args.runs.now _ _ _ _ _ c.loop-index.index _ _ _ c.loop-index-test.false c.loop-index.invariant.rest (sym c.in_ok-place.ensures.value)

pub overflow_add-counted : goal.overflow_add-counted
overflow_add-counted c =
    fits_before _ _ _ (room_for _ c.args.runs.now _ _ _ _ _ c.loop-index.index _ _ _ c.loop-index-test.true c.loop-index.invariant.rest) (omega arith)

pub overflow_add-counted-in-loop-index : goal.overflow_add-counted-in-loop-index
overflow_add-counted-in-loop-index c =
    fits_within _ _ (room_for _ c.args.runs.now _ _ _ _ _ c.loop-index.index _ _ _ c.loop-index-test.true c.loop-index.invariant.rest) (omega arith)

pub returns-then-run-clause-counted : goal.returns-then-run-clause-counted
returns-then-run-clause-counted c =
    (room_for _ c.args.runs.now _ _ _ _ _ c.loop-index.index _ _ _ c.loop-index-test.true c.loop-index.invariant.rest, omega arith)
