-- What is kept of units, and what a call leaves of it.
use Rattle.std.proofs.Common.{◌≡◌, ℕ, zero, suc, ◌<◌, true, false, List, [], ◌∷◌, length, Option, Some, None, refl, sym, ap, ◌∙◌, subst, arith}
use Rattle.std.specs.List.{slice_get}
use Rattle.std.proofs.lemmas.Option.{slice_get_within}
use Rattle.blz_model.specs.Kept.{Kept, is_kept}
use Rattle.blz_model.specs.Part.{Part, ◌>>=◌}
use Rattle.blz_model.specs.declared.cache.Cache.{Cache}
use Rattle.blz_model.specs.declared.cache.Cache.TheVariants.{Empty, Value, Mark}
use Rattle.blz_info.specs.Marks.{or_invalid}
use Rattle.blz_units.specs.BuiltUnits.{Files}
use Rattle.blz_functions.specs.FunctionList.{Lists}
use Rattle.blz_reader.specs.Growing.{Told, Made, AreOrdered}
use Rattle.blz_units.specs.KeptParts.{lists_view, lines_at, kept_functions, kept_lines, is_empty, lacks_lines}
use Rattle.blz_functions.specs.FunctionRanges.{FunctionRanges}
use Rattle.blz_units.specs.UnitAnswers.{unit_functions}
use Rattle.blz_index.specs.UnitsWarm.{units_table, units_prepared, functions_cache, functions_kept, kept_function, lines_kept, UnitsFit, UnitsGrow}
use Rattle.blz_units.specs.KeptAnswers.{function_in, is_value, has_order}
use Rattle.blz_units.specs.declared.caches.UnitCaches.{UnitCaches}
use Rattle.blz_index.specs.declared.units.Units.{Units}
use Rattle.blz_resolver.specs.Reading.{FunctionsStay, UnitsStay}

-- ---- the functions of a unit

-- where the functions of a unit are kept, they are those of its number
numbered_in : (c : Cache FunctionRanges) (p : Part Lists) (n : ℕ) → Kept (λ _. Unit {0}) lists_view c p → is_value c ≡ true → (p >>= λ lists. or_invalid (slice_get lists.functions n)) ≡ or_invalid (function_in c n)
numbered_in Empty p n kept is = absurd cc
numbered_in (Value x) p n kept is = ap (λ (q : Part Lists). q >>= λ lists. or_invalid (slice_get lists.functions n)) kept.1
numbered_in (Mark k) p n kept is = absurd cc

pub numbered_kept : (f : Files) (u : Units) (k n : ℕ) → UnitsFit f u → functions_kept u k ≡ true → (or_invalid (unit_functions f (units_table u) k) >>= λ lists. or_invalid (slice_get lists.functions n)) ≡ or_invalid (kept_function u k n)
numbered_kept f u k n fits is = numbered_in (functions_cache u k) _ n (fits.caches.units.each k).functions is

there_in : (units : List UnitCaches) (k : ℕ) (o : Option UnitCaches) → slice_get units k ≡ o → is_value (kept_functions o) ≡ true → k < length units
there_in units k None e is = absurd cc
there_in units k (Some c) e is = slice_get_within units k c e

-- a unit whose functions are kept is one of the table
pub unit_there : (f : Files) (u : Units) (k : ℕ) → UnitsFit f u → functions_kept u k ≡ true → k < length (units_table u).kept
unit_there f u k fits is =
    let P : ℕ → Type 0 = λ n. k < n in
    subst P fits.caches.units.same (there_in u.caches.units.items k (slice_get u.caches.units.items k) refl is)

-- ---- over a call

stays_in : (told : Told) (old new : Cache FunctionRanges) → Made (AreOrdered told) old new → is_value old ≡ true → new ≡ old
stays_in told Empty new made is = absurd cc
stays_in told (Value x) new made is = made
stays_in told (Mark k) new made is = absurd cc

functions_stay : (told : Told) (old new : Units) → UnitsGrow told old new → (k : ℕ) → functions_kept old k ≡ true → FunctionsStay k old new
functions_stay told old new grows k is =
    let same : functions_cache new k ≡ functions_cache old k = stays_in told (functions_cache old k) (functions_cache new k) (grows.units k).functions is in
    record { kept = ap is_value same ∙ is; ordered = ap has_order same }

kept_on : {X : Type 0} (right : X → Type 0) (old new : Cache X) → Made right old new → is_kept old ≡ true → is_kept new ≡ true
kept_on right Empty new made is = absurd cc
kept_on right (Value x) new made is = rw made refl
kept_on right (Mark k) new made is = rw made refl

-- lines that were read stay
pub lines_grow : (told : Told) (old new : Units) → UnitsGrow told old new → (k : ℕ) → lines_kept old k ≡ true → lines_kept new k ≡ true
lines_grow told old new grows k is = kept_on _ (lines_at old.caches.units.items k) (lines_at new.caches.units.items k) (grows.units k).lines is

pub grows_stay : (told : Told) (old new : Units) → UnitsGrow told old new → units_prepared new ≡ units_prepared old → UnitsStay old new
grows_stay told old new grows same = record { table = grows.table; announced = grows.announced; is_prepared = same; functions = functions_stay told old new grows; lines = lines_grow told old new grows }

pub stay_same : (u : Units) → UnitsStay u u
stay_same u = record { table = refl; announced = refl; is_prepared = refl; functions = λ k is. record { kept = is; ordered = refl }; lines = λ k is. is }

-- one call after another
pub stay_on : (a b c : Units) → UnitsStay a b → UnitsStay b c → UnitsStay a c
stay_on a b c first next = record {
  table = next.table ∙ first.table;
  announced = next.announced ∙ first.announced;
  is_prepared = next.is_prepared ∙ first.is_prepared;
  functions = λ k is.
      let one = first.functions k is in
      let two = next.functions k one.kept in
      record { kept = two.kept; ordered = two.ordered ∙ one.ordered };
  lines = λ k is. next.lines k (first.lines k is);
}

-- ---- what prepared units keep

filled_in : (o : Option UnitCaches) (c : UnitCaches) → o ≡ Some c → lacks_lines o ≡ false → is_kept (kept_lines o) ≡ true
filled_in None c e full = absurd cc
filled_in (Some c) d e full = kept_where c.lines full
  where
    kept_where : {X : Type 0} (c : Cache X) → is_empty c ≡ false → is_kept c ≡ true
    kept_where Empty e = absurd cc
    kept_where (Value x) e = refl
    kept_where (Mark k) e = refl

there_at : {X : Type 0} (xs : List X) (k : ℕ) → k < length xs → (x : X) × (slice_get xs k ≡ Some x)
there_at [] k lt = absurd (omega arith)
there_at (x ∷ xs) zero lt = (x, refl)
there_at (x ∷ xs) (suc k) lt = there_at xs k (omega arith)

pub lines_prepared : (f : Files) (u : Units) (k : ℕ) → UnitsFit f u → units_prepared u ≡ true → k < length (units_table u).kept → lines_kept u k ≡ true
lines_prepared f u k fits all there =
    let P : ℕ → Type 0 = λ n. k < n in
    let inside : k < length u.caches.units.items = subst P (sym fits.caches.units.same) there in
    let it = there_at u.caches.units.items k inside in
    filled_in (slice_get u.caches.units.items k) it.0 it.1 (fits.full all k).lines
