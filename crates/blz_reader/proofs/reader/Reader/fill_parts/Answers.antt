use Rattle.std.proofs.Common.{sym, ◌∙◌, subst, ◌<◌, ℕ, None}
use Rattle.blz_reader.proofs.CacheSteps.{fills_again}
use Rattle.blz_reader.proofs.UnitsFits.{root_stays, functions_stay, lines_stay, count_stays}
use Rattle.blz_reader.proofs.reader.Reader.fill_parts.Goals as goal

pub returns-clause-filled : goal.returns-clause-filled
returns-clause-filled g c =
    let k = c.args.number in
    let u1 = c.fill_root.new.caches.units.items in
    let u2 = c.fill_lines.new.caches.units.items in
    let u3 = c.fill_functions.new.caches.units.items in
    let u4 = c.fill_first_calls.new.caches.units.items in
    let s12 = (c.fill_root.ensures.fills None).fillable.fits.units.same ∙ sym c.fill_lines.ensures.fills.fillable.fits.units.same in
    let s23 = c.fill_lines.ensures.fills.fillable.fits.units.same ∙ sym c.fill_functions.ensures.fills.fillable.fits.units.same in
    let s34 = c.fill_functions.ensures.fills.fillable.fits.units.same ∙ sym c.fill_first_calls.ensures.fills.fillable.fits.units.same in
    let g12 = c.fill_lines.ensures.fills.grows in
    let g23 = c.fill_functions.ensures.fills.grows in
    let g34 = c.fill_first_calls.ensures.fills.grows in
    record {
      root = root_stays _ u3 u4 k s34 g34 (root_stays _ u2 u3 k s23 g23 (root_stays _ u1 u2 k s12 g12 c.in_ok-fill_root.ensures.filled));
      functions = functions_stay _ u3 u4 k s34 g34 c.in_ok-fill_functions.ensures.filled;
      lines = lines_stay _ u3 u4 k s34 g34 (lines_stay _ u2 u3 k s23 g23 c.in_ok-fill_lines.ensures.filled);
      calls = λ n lt. c.in_ok-fill_first_calls.ensures.filled n (let e = count_stays _ u3 u4 k s34 g34 c.in_ok-fill_functions.ensures.filled in let h = rw c.as_slice.ensures.value at c.functions_count-count.ensures in rw h (subst (λ (m : ℕ). n < m) e lt));
    }

pub fill_lines-requires : goal.fill_lines-requires
fill_lines-requires g c = record { fillable = (c.fill_root.ensures.fills None).fillable }

pub returns-in_err-fill_root-clause-fills : goal.returns-in_err-fill_root-clause-fills
returns-in_err-fill_root-clause-fills g c = c.fill_root.ensures.fills g.O.Orders.pair_places

pub returns-in_err-fill_lines-clause-fills : goal.returns-in_err-fill_lines-clause-fills
returns-in_err-fill_lines-clause-fills g c = fills_again _ _ _ _ _ (c.fill_root.ensures.fills g.O.Orders.pair_places) c.fill_lines.ensures.fills

pub returns-in_err-fill_functions-clause-fills : goal.returns-in_err-fill_functions-clause-fills
returns-in_err-fill_functions-clause-fills g c = fills_again _ _ _ _ _ (fills_again _ _ _ _ _ (c.fill_root.ensures.fills g.O.Orders.pair_places) c.fill_lines.ensures.fills) c.fill_functions.ensures.fills

pub returns-clause-fills : goal.returns-clause-fills
returns-clause-fills g c = fills_again _ _ _ _ _ (fills_again _ _ _ _ _ (fills_again _ _ _ _ _ (c.fill_root.ensures.fills g.O.Orders.pair_places) c.fill_lines.ensures.fills) c.fill_functions.ensures.fills) c.fill_first_calls.ensures.fills

pub returns-in_err-fill_first_calls-clause-fills : goal.returns-in_err-fill_first_calls-clause-fills
returns-in_err-fill_first_calls-clause-fills g c = fills_again _ _ _ _ _ (fills_again _ _ _ _ _ (fills_again _ _ _ _ _ (c.fill_root.ensures.fills g.O.Orders.pair_places) c.fill_lines.ensures.fills) c.fill_functions.ensures.fills) c.fill_first_calls.ensures.fills
