-- What is filled stays filled.
use Rattle.std.proofs.Common.{◌≡◌, ℕ, ◌<◌, ◌≤◌, Bool, false, List, length, Option, Some, None, refl, sym, ap, ◌∙◌, subst}
use Rattle.std.specs.List.{slice_get}
use Rattle.std.specs.Prelude.{⊤}
use Rattle.std.proofs.lemmas.Option.{slice_get_past}
use Rattle.blz_model.specs.declared.cache.Cache.{Cache}
use Rattle.blz_model.specs.declared.cache.Cache.TheVariants.{Empty, Value, Mark}
use Rattle.blz_units.specs.declared.caches.UnitCaches.{UnitCaches}
use Rattle.blz_reader.specs.Growing.{Told, Made, AreOrdered, LinesOrdered, CallsOrdered, CachesGrow, UnitsGrowTo}
use Rattle.blz_units.specs.KeptParts.{is_empty, call_cache, kept_functions, functions_at, functions_count, lacks_root, lacks_functions, lacks_lines, lacks_calls, AreFull}
use Rattle.blz_functions.specs.FunctionRanges.{FunctionRanges}
use Rattle.blz_units.proofs.PutItems.{none_both}

-- what is filled stays as it is
stays : {X : Type 0} (right : X → Type 0) (a b : Cache X) → Made right a b → is_empty a ≡ false → b ≡ a
stays right Empty b made e = absurd cc
stays right (Value x) b made e = made
stays right (Mark k) b made e = made

filled_stays : {X : Type 0} (right : X → Type 0) (a b : Cache X) → Made right a b → is_empty a ≡ false → is_empty b ≡ false
filled_stays right a b made e = rw (stays right a b made e) e

unit_stays : (told : Told) (a b : UnitCaches) → CachesGrow told (Some a) (Some b) → AreFull (Some a) → AreFull (Some b)
unit_stays told a b grows full =
    let same : b.functions ≡ a.functions = stays (AreOrdered told) a.functions b.functions grows.functions full.functions in
    record {
      root = filled_stays (λ _. ⊤) a.root b.root grows.root full.root;
      functions = filled_stays (AreOrdered told) a.functions b.functions grows.functions full.functions;
      lines = filled_stays (LinesOrdered told) a.lines b.lines grows.lines full.lines;
      calls = λ n lt. filled_stays (CallsOrdered told) (call_cache a n) (call_cache b n) (grows.calls n) (full.calls n (subst (λ (c : Cache FunctionRanges). n < functions_count c) same lt));
    }

none_full : AreFull None
none_full = record { root = refl; functions = refl; lines = refl; calls = λ n lt. refl }

full_by : (told : Told) (a b : List UnitCaches) (k : ℕ) (o p : Option UnitCaches) → length a ≡ length b → slice_get a k ≡ o → slice_get b k ≡ p → CachesGrow told o p → AreFull o → AreFull p
full_by told a b k o None same is_a is_b grows full = none_full
full_by told a b k None (Some y) same is_a is_b grows full = let past = none_both a b k same is_a in absurd cc
full_by told a b k (Some x) (Some y) same is_a is_b grows full = unit_stays told x y grows full

pub full_past : (units : List UnitCaches) (k : ℕ) → length units ≤ k → AreFull (slice_get units k)
full_past units k le = rw (slice_get_past units k le) none_full

-- a unit whose parts are all kept keeps them
pub full_stays : (told : Told) (a b : List UnitCaches) (k : ℕ) → length a ≡ length b → UnitsGrowTo told a b → AreFull (slice_get a k) → AreFull (slice_get b k)
full_stays told a b k same grows full = full_by told a b k (slice_get a k) (slice_get b k) same refl refl (grows k) full

-- ---- nothing that is filled becomes unfilled

grown : (told : Told) (a b : List UnitCaches) (k : ℕ) → UnitsGrowTo told a b → (x y : UnitCaches) → slice_get a k ≡ Some x → slice_get b k ≡ Some y → CachesGrow told (Some x) (Some y)
grown told a b k grows x y is_a is_b =
    let here : CachesGrow told (slice_get a k) (slice_get b k) = grows k in
    (rw (is_a, is_b) at here)

part_by : {X : Type 0} (right : X → Type 0) (part : UnitCaches → Cache X) (lacks : Option UnitCaches → Bool) (a b : List UnitCaches) (k : ℕ) (o p : Option UnitCaches) → slice_get a k ≡ o → slice_get b k ≡ p → length a ≡ length b
    → lacks None ≡ false → ((c : UnitCaches) → lacks (Some c) ≡ is_empty (part c)) → ((x y : UnitCaches) → o ≡ Some x → p ≡ Some y → Made right (part x) (part y)) → lacks o ≡ false → lacks p ≡ false
part_by right part lacks a b k o None is_a is_b same none test made e = none
part_by right part lacks a b k None (Some y) is_a is_b same none test made e = let past = none_both a b k same is_a in absurd cc
part_by right part lacks a b k (Some x) (Some y) is_a is_b same none test made e = test y ∙ filled_stays right (part x) (part y) (made x y refl refl) (sym (test x) ∙ e)

part_stays : {X : Type 0} (right : X → Type 0) (part : UnitCaches → Cache X) (lacks : Option UnitCaches → Bool) (a b : List UnitCaches) (k : ℕ) → length a ≡ length b
    → lacks None ≡ false → ((c : UnitCaches) → lacks (Some c) ≡ is_empty (part c)) → ((x y : UnitCaches) → slice_get a k ≡ Some x → slice_get b k ≡ Some y → Made right (part x) (part y)) → lacks (slice_get a k) ≡ false → lacks (slice_get b k) ≡ false
part_stays right part lacks a b k same none test made e = part_by right part lacks a b k (slice_get a k) (slice_get b k) refl refl same none test made e

pub functions_stay : (told : Told) (a b : List UnitCaches) (k : ℕ) → length a ≡ length b → UnitsGrowTo told a b → lacks_functions (slice_get a k) ≡ false → lacks_functions (slice_get b k) ≡ false
functions_stay told a b k same grows e = part_stays (AreOrdered told) (λ (c : UnitCaches). c.functions) lacks_functions a b k same refl (λ c. refl) (λ x y is_a is_b. (grown told a b k grows x y is_a is_b).functions) e

pub root_stays : (told : Told) (a b : List UnitCaches) (k : ℕ) → length a ≡ length b → UnitsGrowTo told a b → lacks_root (slice_get a k) ≡ false → lacks_root (slice_get b k) ≡ false
root_stays told a b k same grows e = part_stays (λ _. ⊤) (λ (c : UnitCaches). c.root) lacks_root a b k same refl (λ c. refl) (λ x y is_a is_b. (grown told a b k grows x y is_a is_b).root) e

pub lines_stay : (told : Told) (a b : List UnitCaches) (k : ℕ) → length a ≡ length b → UnitsGrowTo told a b → lacks_lines (slice_get a k) ≡ false → lacks_lines (slice_get b k) ≡ false
lines_stay told a b k same grows e = part_stays (LinesOrdered told) (λ (c : UnitCaches). c.lines) lacks_lines a b k same refl (λ c. refl) (λ x y is_a is_b. (grown told a b k grows x y is_a is_b).lines) e

pub calls_stay : (told : Told) (a b : List UnitCaches) (k n : ℕ) → length a ≡ length b → UnitsGrowTo told a b → lacks_calls (slice_get a k) n ≡ false → lacks_calls (slice_get b k) n ≡ false
calls_stay told a b k n same grows e = part_stays (CallsOrdered told) (λ (c : UnitCaches). call_cache c n) (λ (o : Option UnitCaches). lacks_calls o n) a b k same refl (λ c. refl) (λ x y is_a is_b. (grown told a b k grows x y is_a is_b).calls n) e

-- as many functions are kept as before
pub count_stays : (told : Told) (a b : List UnitCaches) (k : ℕ) → length a ≡ length b → UnitsGrowTo told a b → lacks_functions (slice_get a k) ≡ false → functions_count (functions_at b k) ≡ functions_count (functions_at a k)
count_stays told a b k same grows e = by (slice_get a k) (slice_get b k) refl refl (grows k) e
  where
    by : (o p : Option UnitCaches) → slice_get a k ≡ o → slice_get b k ≡ p → CachesGrow told o p → lacks_functions o ≡ false → functions_count (kept_functions p) ≡ functions_count (kept_functions o)
    by None None is_a is_b g h = refl
    by (Some x) None is_a is_b g h = let past = none_both b a k (sym same) is_b in absurd cc
    by None (Some y) is_a is_b g h = let past = none_both a b k same is_a in absurd cc
    by (Some x) (Some y) is_a is_b g h = ap functions_count (stays (AreOrdered told) x.functions y.functions g.functions h)
