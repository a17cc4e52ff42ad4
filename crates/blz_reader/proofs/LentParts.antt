-- Functions and calls that are kept, as they are lent.
use Rattle.std.proofs.Common.{◌≡◌, ℕ, true, false, List, Option, Some, None, Result, Ok, Err, refl}
use Rattle.std.specs.List.{slice_get}
use Rattle.blz_error.specs.Fault.{Fault}
use Rattle.blz_error.specs.declared.kind.ErrorKind.{ErrorKind}
use Rattle.blz_model.specs.Part.{Good, Broken, Fails, Gives}
use Rattle.blz_model.specs.declared.cache.Cache.{Cache}
use Rattle.blz_model.specs.declared.cache.Cache.TheVariants.{Empty, Value, Mark}
use Rattle.blz_info.specs.Marks.{or_invalid}
use Rattle.blz_info.proofs.Marked.{good_some, marks_on}
use Rattle.blz_units.specs.declared.caches.UnitCaches.{UnitCaches}
use Rattle.blz_units.specs.BuiltUnits.{Files}
use Rattle.blz_functions.specs.CallTree.{CallLists}
use Rattle.blz_functions.specs.FunctionList.{Lists}
use Rattle.blz_units.specs.KeptAnswers.{Repeats, kept_part, calls_told, calls_listed, is_value, value_in}
use Rattle.blz_units.specs.KeptParts.{calls_at, calls_view, lacks_calls, PartsFit}
use Rattle.blz_functions.specs.FunctionRanges.{CallRanges}
use Rattle.blz_units.specs.UnitAnswers.{function_calls}
use Rattle.blz_reader.specs.UnitNames.{listed}
use Rattle.blz_units.specs.UnitTables.{UnitTable}
use Rattle.blz_reader.proofs.KeptTold.{no_calls, told_gives}

-- ---- a value that is kept

pub good_value : {X : Type 0} (c : Cache X) (x : X) → kept_part c ≡ Good x → is_value c ≡ true
good_value Empty x e = absurd cc
good_value (Value y) x e = refl
good_value (Mark k) x e = absurd cc

-- where a value is kept, one is lent
pub not_none : {X : Type 0} (c : Cache X) → is_value c ≡ true → value_in c ≡ None → ⊥
not_none Empty e h = absurd cc
not_none (Value x) e h = absurd cc
not_none (Mark k) e h = absurd cc

-- ---- what a fill refuses, the lending call refuses

lists_lost : (o : Option Lists) → listed o ≡ None → o ≡ None
lists_lost None e = refl
lists_lost (Some l) e = absurd cc

pub lists_refused : (kind : ErrorKind) (o : Option Lists) → Fails kind (or_invalid (listed o)) → Fails kind (or_invalid o)
lists_refused kind o fails = marks_on kind (listed o) o fails (lists_lost o)

calls_lost : (o : Option CallLists) → calls_listed o ≡ None → o ≡ None
calls_lost None e = refl
calls_lost (Some l) e = absurd cc

pub calls_refused : (kind : ErrorKind) (o : Option CallLists) → Fails kind (or_invalid (calls_listed o)) → Fails kind (or_invalid o)
calls_refused kind o fails = marks_on kind (calls_listed o) o fails (calls_lost o)

-- ---- the calls of a function, by what is kept

calls_good : (c : Cache CallRanges) (x : CallRanges) → kept_part c ≡ Good x → calls_told c ≡ Some (calls_view x)
calls_good Empty x e = absurd cc
calls_good (Value y) x e = let same : y ≡ x = cc in rw same refl
calls_good (Mark k) x e = absurd cc

module _ (f : Files) (t : UnitTable) (units : List UnitCaches) (k n : ℕ) (fits : PartsFit f t units) (filled : lacks_calls (slice_get units k) n ≡ false) where
  told_as : (r : Result CallRanges Fault) → Repeats (λ (x : CallRanges). x) r (kept_part (calls_at units k n)) → Gives calls_view r (or_invalid (function_calls f t k n))
  told_as r told = told_gives (λ (x : CallRanges). x) calls_view (calls_at units k n) (or_invalid (function_calls f t k n)) r ((fits.each k).calls n) (no_calls f t units k n fits filled) told

  pub calls_are_told : (x : CallRanges) → kept_part (calls_at units k n) ≡ Good x → or_invalid (calls_listed (function_calls f t k n)) ≡ Good (calls_told (calls_at units k n))
  calls_are_told x e = rw (good_some (function_calls f t k n) (calls_view x) (told_as (Ok x) e), calls_good (calls_at units k n) x e) refl

  pub calls_are_marked : (fault : Fault) → kept_part (calls_at units k n) ≡ Broken fault.kind → Fails fault.kind (or_invalid (calls_listed (function_calls f t k n)))
  calls_are_marked fault e = marks_on fault.kind (function_calls f t k n) (calls_listed (function_calls f t k n)) (told_as (Err fault) e) (λ none. rw none refl)
