use Rattle.std.proofs.Common.{sym, ◌∙◌, arith, ltb, inl, inr, ◌≡◌}
use Rattle.std.proofs.lemmas.Bool.{cases_Bool, ltb-true, ltb-false}
use Rattle.blz_reader.proofs.CacheSteps.{fills_again}
use Rattle.blz_reader.proofs.UnitsFits.{full_stays, full_past}
use Rattle.blz_reader.proofs.reader.Reader.fill_all.Goals as goal

pub loop-number-preserved : goal.loop-number-preserved
loop-number-preserved g c =
    let told = g.O.Orders.pair_places in
    let old = c.loop-number.caches.units.items in
    let new = c.fill_parts.new.caches.units.items in
    let grows = c.fill_parts.ensures.fills.grows in
    record {
      fills = fills_again _ _ _ _ _ c.loop-number.invariant.fills c.fill_parts.ensures.fills;
      filled = λ n lt. elim (cases_Bool (ltb n c.loop-number.number)) [
        | inl t ↦ full_stays told old new n (c.loop-number.invariant.fills.fillable.fits.units.same ∙ sym c.fill_parts.ensures.fills.fillable.fits.units.same) grows (c.loop-number.invariant.filled n (ltb-true n c.loop-number.number t))
        | inr f ↦ let e : n ≡ c.loop-number.number = let le = ltb-false n c.loop-number.number f in omega (arith, le, lt) in rw e c.in_ok-fill_parts.ensures.filled
      ];
    }

pub returns-clause-filled : goal.returns-clause-filled
returns-clause-filled g c = λ n. elim (cases_Bool (ltb n c.loop-number.number)) [
  | inl t ↦ c.loop-number.invariant.filled n (ltb-true n c.loop-number.number t)
  | inr f ↦ full_past c.loop-number.caches.units.items n (let le = ltb-false n c.loop-number.number f in omega (arith, le, c.loop-number-test.false, c.loop-number.invariant.fills.fillable.fits.units.same, c.len-number-end.ensures))
]
