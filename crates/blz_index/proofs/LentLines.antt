-- Lines of a unit that were read are there to be lent.
use Rattle.std.proofs.Common.{◌≡◌, ℕ, zero, suc, ◌<◌, true, false, List, [], ◌∷◌, length, Option, Some, None, Result, Ok, Err, refl, sym, subst, arith}
use Rattle.std.specs.List.{slice_get}
use Rattle.std.specs.Prelude.{IfOk}
use Rattle.blz_model.specs.Kept.{is_kept}
use Rattle.blz_model.specs.declared.cache.Cache.{Cache}
use Rattle.blz_model.specs.declared.cache.Cache.TheVariants.{Empty, Value, Mark}
use Rattle.blz_units.specs.declared.caches.UnitCaches.{UnitCaches}
use Rattle.blz_units.specs.BuiltUnits.{Files}
use Rattle.blz_units.specs.KeptParts.{is_empty, kept_lines, lines_at, lacks_lines, PartsFit}
use Rattle.blz_units.specs.UnitTables.{UnitTable}

kept_by : {X : Type 0} (c : Cache X) → is_empty c ≡ false → is_kept c ≡ true
kept_by Empty e = absurd cc
kept_by (Value x) e = refl
kept_by (Mark k) e = refl

absent : {X : Type 0} (xs : List X) (k : ℕ) → slice_get xs k ≡ None → k < length xs → ⊥
absent [] k e lt = omega (arith, lt)
absent (x ∷ xs) zero e lt = absurd cc
absent (x ∷ xs) (suc k) e lt = absent xs k e (omega (arith, lt))

there_by : (units : List UnitCaches) (k : ℕ) (o : Option UnitCaches) → slice_get units k ≡ o → k < length units → lacks_lines o ≡ false → is_kept (kept_lines o) ≡ true
there_by units k None is lt e = let past = absent units k is lt in absurd past
there_by units k (Some c) is lt e = kept_by c.lines e

lines_there : (f : Files) (t : UnitTable) (units : List UnitCaches) (k : ℕ) → PartsFit f t units → k < length t.kept → lacks_lines (slice_get units k) ≡ false → is_kept (lines_at units k) ≡ true
lines_there f t units k fits lt e = there_by units k (slice_get units k) refl (subst (λ (n : ℕ). k < n) (sym fits.same) lt) e

pub lines_filled : {A E : Type 0} (f : Files) (t : UnitTable) (units : List UnitCaches) (k : ℕ) (r : Result A E) → PartsFit f t units → k < length t.kept → IfOk r (λ _. lacks_lines (slice_get units k) ≡ false) → IfOk r (λ _. is_kept (lines_at units k) ≡ true)
lines_filled f t units k (Ok x) fits lt e = lines_there f t units k fits lt e
lines_filled f t units k (Err x) fits lt e = tt
