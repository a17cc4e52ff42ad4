-- Functions and calls that are kept, as `Units` lends them.
use Rattle.std.proofs.Common.{◌≡◌, ℕ, Option, Some, None, option_map, sym}
use Rattle.std.specs.Prelude.{IfSome}
use Rattle.blz_model.specs.Kept.{Kept}
use Rattle.blz_model.specs.declared.cache.Cache.{Cache}
use Rattle.blz_model.specs.declared.cache.Cache.TheVariants.{Empty, Value, Mark}
use Rattle.blz_info.specs.Marks.{or_invalid}
use Rattle.blz_info.proofs.Marked.{good_some}
use Rattle.blz_index.specs.declared.units.Units.{Units}
use Rattle.blz_units.specs.BuiltUnits.{Files}
use Rattle.blz_units.specs.KeptAnswers.{value_in}
use Rattle.blz_units.specs.KeptParts.{lists_view, calls_view}
use Rattle.blz_functions.specs.FunctionRanges.{FunctionRanges, CallRanges}
use Rattle.blz_units.specs.UnitAnswers.{unit_functions, function_calls}
use Rattle.blz_index.specs.UnitsWarm.{units_table, functions_cache, calls_cache, UnitsFit}

value_told : {X A : Type 0} (v : X → A) (c : Cache X) (o : Option A) (x : X) → Kept (λ _. Unit {0}) v c (or_invalid o) → value_in c ≡ Some x → o ≡ Some (v x)
value_told v Empty o x kept e = absurd cc
value_told v (Value y) o x kept e = let same : y ≡ x = cc in good_some o (v x) (rw (← same) kept.1)
value_told v (Mark k) o x kept e = absurd cc

pub functions_looked : {Y : Type 0} (view : Y → FunctionRanges) (u : Units) (k : ℕ) (r : Option Y) → option_map view r ≡ value_in (functions_cache u k) → IfSome r (λ y. (f : Files) → UnitsFit f u → unit_functions f (units_table u) k ≡ Some (lists_view (view y)))
functions_looked view u k None e = tt
functions_looked view u k (Some y) e = λ f fits. value_told lists_view (functions_cache u k) (unit_functions f (units_table u) k) (view y) ((fits.caches.units.each k).functions) (sym e)

pub calls_looked : {Y : Type 0} (view : Y → CallRanges) (u : Units) (k n : ℕ) (r : Option Y) → option_map view r ≡ value_in (calls_cache u k n) → IfSome r (λ y. (f : Files) → UnitsFit f u → function_calls f (units_table u) k n ≡ Some (calls_view (view y)))
calls_looked view u k n None e = tt
calls_looked view u k n (Some y) e = λ f fits. value_told calls_view (calls_cache u k n) (function_calls f (units_table u) k n) (view y) ((fits.caches.units.each k).calls n) (sym e)
