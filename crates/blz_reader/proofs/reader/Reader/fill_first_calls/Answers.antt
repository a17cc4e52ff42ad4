use Rattle.std.proofs.Common.{sym, ◌∙◌, arith, ltb, inl, inr, ◌≡◌}
use Rattle.std.proofs.lemmas.Bool.{cases_Bool, ltb-true, ltb-false}
use Rattle.blz_reader.proofs.CacheSteps.{fills_again}
use Rattle.blz_reader.proofs.UnitsFits.{calls_stay}
use Rattle.blz_reader.proofs.reader.Reader.fill_first_calls.Goals as goal

pub loop-function-preserved : goal.loop-function-preserved
loop-function-preserved g c =
    let told = g.O.Orders.pair_places in
    let old = c.loop-function.caches.units.items in
    let new = c.fill_calls.new.caches.units.items in
    let grows = c.fill_calls.ensures.fills.grows in
    record {
      fills = fills_again _ _ _ _ _ c.loop-function.invariant.fills c.fill_calls.ensures.fills;
      filled = λ n lt. elim (cases_Bool (ltb n c.loop-function.function)) [
        | inl t ↦ calls_stay told old new c.args.number n (c.loop-function.invariant.fills.fillable.fits.units.same ∙ sym c.fill_calls.ensures.fills.fillable.fits.units.same) grows (c.loop-function.invariant.filled n (ltb-true n c.loop-function.function t))
        | inr f ↦ let e : n ≡ c.loop-function.function = let le = ltb-false n c.loop-function.function f in omega (arith, le, lt) in rw e c.in_ok-fill_calls.ensures.filled
      ];
    }

pub returns-clause-filled : goal.returns-clause-filled
returns-clause-filled g c = λ n lt. c.loop-function.invariant.filled n (omega (arith, lt, c.loop-function-test.false))

pub returns-in_err-fill_calls-clause-fills : goal.returns-in_err-fill_calls-clause-fills
returns-in_err-fill_calls-clause-fills g c = fills_again _ _ _ _ _ c.loop-function.invariant.fills c.fill_calls.ensures.fills
