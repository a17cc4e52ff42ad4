-- What is kept of units, with one part more.
use Rattle.std.proofs.Common.{◌≡◌, ℕ, Bool, true, false, List, Option, Some, None, Result, Ok, Err, refl, ◌∙◌, subst, ◌⊎◌, inl, inr, eqb}
use Rattle.std.specs.List.{slice_get, slice_set}
use Rattle.std.specs.Prelude.{⊤, IfOk}
use Rattle.std.proofs.lemmas.Bool.{cases_Bool, eqb-true, eqb-false}
use Rattle.std.proofs.lemmas.List.{length-set}
use Rattle.blz_model.specs.Kept.{Kept, is_kept}
use Rattle.blz_model.specs.declared.cache.Cache.{Cache}
use Rattle.blz_model.specs.declared.cache.Cache.TheVariants.{Empty, Value, Mark}
use Rattle.blz_info.specs.Marks.{or_invalid}
use Rattle.blz_entry.specs.declared.root.UnitRoot.{UnitRoot}
use Rattle.blz_line.specs.UnitLines.{OrderedLines}
use Rattle.blz_units.specs.declared.caches.UnitCaches.{UnitCaches}
use Rattle.blz_units.specs.BuiltUnits.{Files}
use Rattle.blz_units.specs.declared.caches.Caches.{Caches}
use Rattle.blz_reader.specs.Filling.{AreCallsOf, AreFunctionsOf, AreLinesOf, CanBeFilled, Fills, IsRootOf}
use Rattle.blz_reader.specs.Growing.{Told, Made, AreOrdered, LinesOrdered, CallsOrdered, CachesGrow, UnitsGrowTo}
use Rattle.blz_reader.specs.Readers.{reader_files, reader_table}
use Rattle.blz_reader.specs.declared.reader.Reader.{Reader}
use Rattle.blz_units.specs.KeptParts.{call_cache, calls_view, kept_root, kept_functions, kept_lines, kept_calls, is_empty, lacks_root, lacks_functions, lacks_lines, lacks_calls, BuiltFit, CachesFit, PartsFit}
use Rattle.blz_reader.specs.Putting.{with_functions, with_lines, with_root, HasCalls, Puts, PutsCalls, PutsOrKeeps}
use Rattle.blz_functions.specs.FunctionRanges.{FunctionRanges, CallRanges}
use Rattle.blz_units.specs.UnitAnswers.{function_calls}
use Rattle.blz_units.specs.UnitTables.{UnitTable}
use Rattle.blz_units.proofs.PutItems.{at_each, put_is}

-- ---- lists are made once

pub made_same : {X : Type 0} (right : X → Type 0) (c : Cache X) → Made right c c
made_same right Empty = tt
made_same right (Value x) = refl
made_same right (Mark k) = refl

pub made_new : {X : Type 0} (right : X → Type 0) (c new : Cache X) → is_empty c ≡ true → Made right Empty new → Made right c new
made_new right Empty new e made = made
made_new right (Value x) new e made = absurd cc
made_new right (Mark k) new e made = absurd cc

pub made_again : {X : Type 0} (right : X → Type 0) (a b c : Cache X) → Made right a b → Made right b c → Made right a c
made_again right Empty Empty c p q = q
made_again right Empty (Value x) c p q = rw q p
made_again right Empty (Mark k) c p q = rw q tt
made_again right (Value x) b c p q = (rw p at q)
made_again right (Mark k) b c p q = (rw p at q)

pub grows_same : (told : Told) (o : Option UnitCaches) → CachesGrow told o o
grows_same told o = record {
  root = made_same (λ _. ⊤) (kept_root o);
  functions = made_same (AreOrdered told) (kept_functions o);
  lines = made_same (LinesOrdered told) (kept_lines o);
  calls = λ n. made_same (CallsOrdered told) (kept_calls o n);
}

pub units_same : (told : Told) (units : List UnitCaches) → UnitsGrowTo told units units
units_same told units k = grows_same told (slice_get units k)

pub grows_again : (told : Told) (a b c : Option UnitCaches) → CachesGrow told a b → CachesGrow told b c → CachesGrow told a c
grows_again told a b c p q = record {
  root = made_again (λ _. ⊤) (kept_root a) (kept_root b) (kept_root c) p.root q.root;
  functions = made_again (AreOrdered told) (kept_functions a) (kept_functions b) (kept_functions c) p.functions q.functions;
  lines = made_again (LinesOrdered told) (kept_lines a) (kept_lines b) (kept_lines c) p.lines q.lines;
  calls = λ n. made_again (CallsOrdered told) (kept_calls a n) (kept_calls b n) (kept_calls c n) (p.calls n) (q.calls n);
}

pub units_again : (told : Told) (a b c : List UnitCaches) → UnitsGrowTo told a b → UnitsGrowTo told b c → UnitsGrowTo told a c
units_again told a b c p q k = grows_again told (slice_get a k) (slice_get b k) (slice_get c k) (p k) (q k)

-- ---- fills, one after the other

pub fills_same : (told : Told) (r : Reader) (c : Caches) → CanBeFilled r c → Fills told r c c
fills_same told r c fillable = record { fillable = fillable; grows = units_same told c.units.items }

pub fills_again : (told : Told) (r : Reader) (a b c : Caches) → Fills told r a b → Fills told r b c → Fills told r a c
fills_again told r a b c p q = record {
  fillable = q.fillable;
  grows = units_again told a.units.items b.units.items c.units.items p.grows q.grows;
}

-- ---- one unit has a part more

fits_put : (f : Files) (t : UnitTable) (units : List UnitCaches) (k : ℕ) (new : UnitCaches) → CachesFit f t k (Some new) → PartsFit f t units → PartsFit f t (slice_set units k new)
fits_put f t units k new here fits = record {
  same = length-set units k new ∙ fits.same;
  each = at_each (λ j o. CachesFit f t j o) units k new here fits.each;
}

grows_put : (told : Told) (units : List UnitCaches) (k : ℕ) (old new : UnitCaches) → slice_get units k ≡ Some old → CachesGrow told (Some old) (Some new) → UnitsGrowTo told units (slice_set units k new)
grows_put told units k old new is here = at_each (λ j o. CachesGrow told (slice_get units j) o) units k new (rw is here) (λ j. grows_same told (slice_get units j))

-- the unit that lacks a part is there
record Lacking (units : List UnitCaches) (k : ℕ) (test : Option UnitCaches → Bool) : Type 0 where
  pub unit : UnitCaches
  pub is : slice_get units k ≡ Some unit
  pub lacks : test (Some unit) ≡ true

lacking_by : (units : List UnitCaches) (k : ℕ) (test : Option UnitCaches → Bool) (o : Option UnitCaches) → test None ≡ false → slice_get units k ≡ o → test o ≡ true → Lacking units k test
lacking_by units k test None none e lacks = absurd cc
lacking_by units k test (Some c) none e lacks = record { unit = c; is = e; lacks = lacks }

lacking : (units : List UnitCaches) (k : ℕ) (test : Option UnitCaches → Bool) → test None ≡ false → test (slice_get units k) ≡ true → Lacking units k test
lacking units k test none lacks = lacking_by units k test (slice_get units k) none refl lacks

pub filled : {X : Type 0} (c : Cache X) → is_kept c ≡ true → is_empty c ≡ false
filled Empty e = absurd cc
filled (Value x) e = refl
filled (Mark k) e = refl

-- the part that was put is there
pub put_there : (test : Option UnitCaches → Bool) (change : UnitCaches → UnitCaches) (units new : List UnitCaches) (k : ℕ) → test None ≡ false → test (slice_get units k) ≡ true → Puts change units new k → ((c : UnitCaches) → test (Some (change c)) ≡ false) → test (slice_get new k) ≡ false
put_there test change units new k none lacks puts there =
    let l = lacking units k test none lacks in
    rw (puts l.unit l.is, put_is units k (change l.unit) l.unit l.is) (there l.unit)

-- What the units have with one part more: it fits, and grew from what it was.
pub record IsPut (r : Reader) (told : Told) (units new : List UnitCaches) : Type 0 where
  pub fits : PartsFit (reader_files r) (reader_table r) new
  pub grows : UnitsGrowTo told units new

put_one : (r : Reader) (told : Told) (units new : List UnitCaches) (k : ℕ) (old unit : UnitCaches) → slice_get units k ≡ Some old → new ≡ slice_set units k unit → CachesFit (reader_files r) (reader_table r) k (Some unit) → CachesGrow told (Some old) (Some unit) → PartsFit (reader_files r) (reader_table r) units → IsPut r told units new
put_one r told units new k old unit is e here grows fits = rw e (record { fits = fits_put (reader_files r) (reader_table r) units k unit here fits; grows = grows_put told units k old unit is grows })

-- So is what is kept, where the units that were built besides still fit.
pub put_fills : (told : Told) (r : Reader) (old new : Caches) → CanBeFilled r old → BuiltFit (reader_files r) (reader_table r) new.built → IsPut r told old.units.items new.units.items → Fills told r old new
put_fills told r old new fillable built put = record {
  fillable = record { readable = fillable.readable; fits = record { built = built; units = put.fits } };
  grows = put.grows;
}

old_fits : (r : Reader) (units : List UnitCaches) (k : ℕ) (old : UnitCaches) → slice_get units k ≡ Some old → PartsFit (reader_files r) (reader_table r) units → CachesFit (reader_files r) (reader_table r) k (Some old)
old_fits r units k old is fits = subst (CachesFit (reader_files r) (reader_table r) k) is (fits.each k)

pub root_put : (r : Reader) (told : Told) (units new : List UnitCaches) (k : ℕ) (root : Cache UnitRoot) → PartsFit (reader_files r) (reader_table r) units → lacks_root (slice_get units k) ≡ true → Puts (with_root root) units new k → IsRootOf r k root → IsPut r told units new
root_put r told units new k root fits lacks puts read =
    let l = lacking units k lacks_root refl lacks in
    let c = l.unit in
    let old = old_fits r units k c l.is fits in
    put_one r told units new k c (with_root root c) l.is (puts c l.is)
    (record { root = read.kept; functions = old.functions; lines = old.lines; calls = old.calls })
    (record { root = made_new (λ _. ⊤) c.root root l.lacks read.made; functions = made_same (AreOrdered told) c.functions; lines = made_same (LinesOrdered told) c.lines; calls = λ n. made_same (CallsOrdered told) (call_cache c n) }) fits

pub functions_put : (r : Reader) (told : Told) (units new : List UnitCaches) (k : ℕ) (functions : Cache FunctionRanges) → PartsFit (reader_files r) (reader_table r) units → lacks_functions (slice_get units k) ≡ true → Puts (with_functions functions) units new k → AreFunctionsOf told r k functions → IsPut r told units new
functions_put r told units new k functions fits lacks puts read =
    let l = lacking units k lacks_functions refl lacks in
    let c = l.unit in
    let old = old_fits r units k c l.is fits in
    put_one r told units new k c (with_functions functions c) l.is (puts c l.is)
    (record { root = old.root; functions = read.kept; lines = old.lines; calls = old.calls })
    (record { root = made_same (λ _. ⊤) c.root; functions = made_new (AreOrdered told) c.functions functions l.lacks read.made; lines = made_same (LinesOrdered told) c.lines; calls = λ n. made_same (CallsOrdered told) (call_cache c n) }) fits

pub lines_put : (r : Reader) (told : Told) (units new : List UnitCaches) (k : ℕ) (lines : Cache (Option OrderedLines)) → PartsFit (reader_files r) (reader_table r) units → lacks_lines (slice_get units k) ≡ true → Puts (with_lines lines) units new k → AreLinesOf told r k lines → IsPut r told units new
lines_put r told units new k lines fits lacks puts read =
    let l = lacking units k lacks_lines refl lacks in
    let c = l.unit in
    let old = old_fits r units k c l.is fits in
    put_one r told units new k c (with_lines lines c) l.is (puts c l.is)
    (record { root = old.root; functions = old.functions; lines = read.kept; calls = old.calls })
    (record { root = made_same (λ _. ⊤) c.root; functions = made_same (AreOrdered told) c.functions; lines = made_new (LinesOrdered told) c.lines lines l.lacks read.made; calls = λ n. made_same (CallsOrdered told) (call_cache c n) }) fits

either : (m n : ℕ) → (m ≡ n → ⊥) ⊎ (m ≡ n)
either m n = elim (cases_Bool (eqb m n)) [
  | inl t ↦ inr (eqb-true m n t)
  | inr f ↦ inl (eqb-false m n f)
]

calls_fit : (f : Files) (t : UnitTable) (k n m : ℕ) (old new : UnitCaches) (calls : Cache CallRanges) → (m ≡ n → ⊥) ⊎ (m ≡ n) → HasCalls old new n calls → Kept (λ _. Unit {0}) calls_view calls (or_invalid (function_calls f t k n)) → Kept (λ _. Unit {0}) calls_view (call_cache old m) (or_invalid (function_calls f t k m)) → Kept (λ _. Unit {0}) calls_view (call_cache new m) (or_invalid (function_calls f t k m))
calls_fit f t k n m old new calls (inl other) has kept before = rw (has.others m other) before
calls_fit f t k n m old new calls (inr same) has kept before = rw (same, has.here) kept

calls_grow : (told : Told) (n m : ℕ) (old new : UnitCaches) (calls : Cache CallRanges) → (m ≡ n → ⊥) ⊎ (m ≡ n) → HasCalls old new n calls → Made (CallsOrdered told) (call_cache old n) calls → Made (CallsOrdered told) (call_cache old m) (call_cache new m)
calls_grow told n m old new calls (inl other) has made = rw (has.others m other) (made_same (CallsOrdered told) (call_cache old m))
calls_grow told n m old new calls (inr same) has made = rw (same, has.here) made

calls_put : (r : Reader) (told : Told) (units new : List UnitCaches) (k n : ℕ) (c : UnitCaches) (calls : Cache CallRanges) → slice_get units k ≡ Some c → PutsCalls c units new k n calls → Kept (λ _. Unit {0}) calls_view calls (or_invalid (function_calls (reader_files r) (reader_table r) k n)) → Made (CallsOrdered told) (call_cache c n) calls → PartsFit (reader_files r) (reader_table r) units → IsPut r told units new
calls_put r told units new k n c calls is puts kept made fits =
    let f = reader_files r in
    let t = reader_table r in
    let old = old_fits r units k c is fits in
    let has = puts.has in
    put_one r told units new k c puts.unit is puts.is
    (record { root = rw has.root old.root; functions = rw has.functions old.functions; lines = rw has.lines old.lines; calls = λ m. calls_fit f t k n m c puts.unit calls (either m n) has kept (old.calls m) })
    (record { root = rw has.root (made_same (λ _. ⊤) c.root); functions = rw has.functions (made_same (AreOrdered told) c.functions); lines = rw has.lines (made_same (LinesOrdered told) c.lines); calls = λ m. calls_grow told n m c puts.unit calls (either m n) has made }) fits

-- For want of memory the calls stay as they are.
pub calls_put_or_not : {U E : Type 0} (r : Reader) (told : Told) (units new : List UnitCaches) (k n : ℕ) (calls : Cache CallRanges) (result : Result U E) → PartsFit (reader_files r) (reader_table r) units → lacks_calls (slice_get units k) n ≡ true → PutsOrKeeps result units new k n calls → AreCallsOf told r k n calls → IsPut r told units new
calls_put_or_not r told units new k n calls (Ok x) fits lacks puts read =
    let l = lacking units k (λ o. lacks_calls o n) refl lacks in
    calls_put r told units new k n l.unit calls l.is (puts l.unit l.is) read.kept (made_new (CallsOrdered told) (call_cache l.unit n) calls l.lacks read.made) fits
calls_put_or_not r told units new k n calls (Err e) fits lacks puts read =
    let l = lacking units k (λ o. lacks_calls o n) refl lacks in
    calls_put r told units new k n l.unit (call_cache l.unit n) l.is (puts l.unit l.is) ((old_fits r units k l.unit l.is fits).calls n) (made_same (CallsOrdered told) (call_cache l.unit n)) fits

pub calls_put_there : {U E : Type 0} (units new : List UnitCaches) (k n : ℕ) (calls : Cache CallRanges) (result : Result U E) → lacks_calls (slice_get units k) n ≡ true → PutsOrKeeps result units new k n calls → is_kept calls ≡ true → IfOk result (λ _. lacks_calls (slice_get new k) n ≡ false)
calls_put_there units new k n calls (Ok x) lacks puts full =
    let l = lacking units k (λ o. lacks_calls o n) refl lacks in
    let p = puts l.unit l.is in
    let there : is_empty (call_cache p.unit n) ≡ false = rw p.has.here (filled calls full) in
    rw (p.is, put_is units k p.unit l.unit l.is) there
calls_put_there units new k n calls (Err e) lacks puts full = tt
