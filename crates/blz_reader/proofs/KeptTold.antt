-- What is kept of units tells what they are.
use Rattle.std.proofs.Common.{◌≡◌, ℕ, true, false, List, [], ◌∷◌, Option, Some, None, Result, Ok, Err, refl, sym, ◌∙◌}
use Rattle.std.specs.List.{slice_get}
use Rattle.std.specs.Prelude.{option_and_then, IfOk}
use Rattle.blz_error.specs.Fault.{Fault}
use Rattle.blz_error.specs.declared.kind.ErrorKind.{ErrorKind}
use Rattle.blz_error.specs.declared.kind.ErrorKind.TheVariants.{InvalidDwarf, OutOfMemory}
use Rattle.blz_model.specs.Languages.{language_of}
use Rattle.blz_model.specs.Kept.{Kept}
use Rattle.blz_model.specs.Part.{Part, Good, Broken, ◌>>=◌, Gives, Exactly}
use Rattle.blz_model.specs.declared.cache.Cache.{Cache}
use Rattle.blz_model.specs.declared.cache.Cache.TheVariants.{Empty, Value, Mark}
use Rattle.blz_info.specs.Marks.{or_invalid}
use Rattle.blz_entry.specs.declared.root.UnitRoot.{UnitRoot}
use Rattle.blz_info.specs.declared.text.Texts.{Texts}
use Rattle.blz_functions.specs.declared.inlined_functions.InlinedFunction.{InlinedFunction}
use Rattle.blz_units.specs.declared.caches.UnitCaches.{UnitCaches}
use Rattle.blz_units.specs.BuiltUnits.{Files}
use Rattle.blz_units.specs.KeptAnswers.{Repeats, kept_part, language_by, kept_language, best_by_ranges, kept_best, place_by, kept_place, line_by, kept_line, chain_by, kept_chain, site_by, kept_site, or_later, first_kept, first_kept_line, is_value}
use Rattle.blz_units.specs.KeptParts.{unit_root, lists_view, lines_view, calls_view, is_empty, call_cache, kept_root, kept_functions, kept_lines, kept_calls, root_at, functions_at, lines_at, calls_at, lacks_root, lacks_functions, lacks_lines, lacks_calls, PartsFit, AllFull}
use Rattle.blz_functions.specs.Leaves.{UnitParts}
use Rattle.blz_functions.specs.FunctionRanges.{FunctionRanges}
use Rattle.blz_units.specs.UnitAnswers.{main_unit, read_unit, unit_language, unit_functions, unit_lines, function_place, function_calls, place_calls, place_in, best_of, best_function, found_or, first_function, chain_of, covering_calls}
use Rattle.blz_units.specs.UnitSites.{line_of, line_in, first_line, site_of, call_site}
use Rattle.blz_units.specs.UnitTables.{UnitTable}
use Rattle.blz_units.proofs.PutItems.{none_both}

-- ---- a part that is kept

-- what is read on from a kept part, where nothing kept means that there is no such unit
pub kept_on : {X A B : Type 0} (v : X → A) (c : Cache X) (p : Part A) (h : X → Part B) (g : A → Part B) → ((x : X) → h x ≡ g (v x)) → Kept (λ _. Unit {0}) v c p → (c ≡ Empty → p ≡ Broken InvalidDwarf) → (kept_part c >>= h) ≡ (p >>= g)
kept_on v Empty p h g same kept none = rw (none refl) refl
kept_on v (Value x) p h g same kept none = rw kept.1 (same x)
kept_on v (Mark k) p h g same kept none = rw kept.0 refl

pub invalid_then : {A B : Type 0} (o : Option A) (f : A → Option B) → or_invalid (option_and_then f o) ≡ (or_invalid o >>= λ x. or_invalid (f x))
invalid_then None f = refl
invalid_then (Some x) f = refl

-- ---- nothing is kept past the last unit

emptied : {X : Type 0} (c : Cache X) → is_empty c ≡ false → c ≡ Empty → ⊥
emptied Empty e h = absurd cc
emptied (Value x) e h = absurd cc
emptied (Mark k) e h = absurd cc

root_past : (o : Option UnitCaches) → lacks_root o ≡ false → kept_root o ≡ Empty → o ≡ None
root_past None e h = refl
root_past (Some c) e h = absurd (emptied c.root e h)

functions_past : (o : Option UnitCaches) → lacks_functions o ≡ false → kept_functions o ≡ Empty → o ≡ None
functions_past None e h = refl
functions_past (Some c) e h = absurd (emptied c.functions e h)

lines_past : (o : Option UnitCaches) → lacks_lines o ≡ false → kept_lines o ≡ Empty → o ≡ None
lines_past None e h = refl
lines_past (Some c) e h = absurd (emptied c.lines e h)

calls_past : (o : Option UnitCaches) (n : ℕ) → lacks_calls o n ≡ false → kept_calls o n ≡ Empty → o ≡ None
calls_past None n e h = refl
calls_past (Some c) n e h = absurd (emptied (call_cache c n) e h)

main_past : (f : Files) (t : UnitTable) (k : ℕ) → slice_get t.kept k ≡ None → main_unit f t k ≡ None
unfolding main_unit
main_past f t k e = rw e refl

read_past : (f : Files) (t : UnitTable) (k : ℕ) → slice_get t.kept k ≡ None → read_unit f t k ≡ None
unfolding read_unit
read_past f t k e = rw e refl

list_past : (f : Files) (t : UnitTable) (k : ℕ) → slice_get t.kept k ≡ None → unit_functions f t k ≡ None
unfolding unit_functions
list_past f t k e = rw (read_past f t k e) refl

pub table_past : (f : Files) (t : UnitTable) (k : ℕ) → slice_get t.kept k ≡ None → unit_lines f t k ≡ None
unfolding unit_lines
table_past f t k e = rw (main_past f t k e) refl

place_past : (f : Files) (t : UnitTable) (k n : ℕ) → slice_get t.kept k ≡ None → function_place f t k n ≡ None
unfolding function_place
place_past f t k n e = rw (list_past f t k e) refl

chain_past : (f : Files) (t : UnitTable) (k n : ℕ) → slice_get t.kept k ≡ None → function_calls f t k n ≡ None
unfolding function_calls
chain_past f t k n e = rw (place_past f t k n e) refl

past : (f : Files) (t : UnitTable) (units : List UnitCaches) (k : ℕ) → PartsFit f t units → slice_get units k ≡ None → slice_get t.kept k ≡ None
past f t units k fits e = none_both units t.kept k fits.same e

pub no_root : (f : Files) (t : UnitTable) (units : List UnitCaches) (k : ℕ) → PartsFit f t units → lacks_root (slice_get units k) ≡ false → root_at units k ≡ Empty → or_invalid (unit_root f t k) ≡ Broken InvalidDwarf
no_root f t units k fits e h = rw (main_past f t k (past f t units k fits (root_past (slice_get units k) e h))) refl

pub no_functions : (f : Files) (t : UnitTable) (units : List UnitCaches) (k : ℕ) → PartsFit f t units → lacks_functions (slice_get units k) ≡ false → functions_at units k ≡ Empty → or_invalid (unit_functions f t k) ≡ Broken InvalidDwarf
no_functions f t units k fits e h = rw (list_past f t k (past f t units k fits (functions_past (slice_get units k) e h))) refl

pub no_lines : (f : Files) (t : UnitTable) (units : List UnitCaches) (k : ℕ) → PartsFit f t units → lacks_lines (slice_get units k) ≡ false → lines_at units k ≡ Empty → or_invalid (unit_lines f t k) ≡ Broken InvalidDwarf
no_lines f t units k fits e h = rw (table_past f t k (past f t units k fits (lines_past (slice_get units k) e h))) refl

pub no_calls : (f : Files) (t : UnitTable) (units : List UnitCaches) (k n : ℕ) → PartsFit f t units → lacks_calls (slice_get units k) n ≡ false → calls_at units k n ≡ Empty → or_invalid (function_calls f t k n) ≡ Broken InvalidDwarf
no_calls f t units k n fits e h = rw (chain_past f t k n (past f t units k fits (calls_past (slice_get units k) n e h))) refl

-- ---- what is told

language_as_root : (o : Option UnitParts) → or_invalid (option_and_then (λ (u : UnitParts). Some (language_of u.root.language)) o) ≡ (or_invalid (option_and_then (λ (u : UnitParts). Some u.root) o) >>= language_by)
language_as_root None = refl
language_as_root (Some u) = refl

pub language_is : (f : Files) (t : UnitTable) (units : List UnitCaches) (k : ℕ) → PartsFit f t units → lacks_root (slice_get units k) ≡ false → kept_language units k ≡ or_invalid (unit_language f t k)
unfolding unit_language
language_is f t units k fits e =
    kept_on (λ (r : UnitRoot). r) (root_at units k) (or_invalid (unit_root f t k)) language_by language_by (λ x. refl) ((fits.each k).root) (no_root f t units k fits e) ∙ sym (language_as_root (main_unit f t k))

pub best_is : (f : Files) (t : UnitTable) (units : List UnitCaches) (a k : ℕ) → PartsFit f t units → lacks_functions (slice_get units k) ≡ false → kept_best units a k ≡ or_invalid (best_function f t a k)
unfolding best_function
best_is f t units a k fits e =
    kept_on lists_view (functions_at units k) (or_invalid (unit_functions f t k)) (best_by_ranges a) (λ l. or_invalid (best_of a l)) (λ x. refl) ((fits.each k).functions) (no_functions f t units k fits e) ∙ sym (invalid_then (unit_functions f t k) (best_of a))

pub place_is : (f : Files) (t : UnitTable) (units : List UnitCaches) (k n : ℕ) → PartsFit f t units → lacks_functions (slice_get units k) ≡ false → kept_place units k n ≡ or_invalid (function_place f t k n)
unfolding function_place
place_is f t units k n fits e =
    kept_on lists_view (functions_at units k) (or_invalid (unit_functions f t k)) (place_by n) (λ l. or_invalid (place_in n l)) (λ x. refl) ((fits.each k).functions) (no_functions f t units k fits e) ∙ sym (invalid_then (unit_functions f t k) (place_in n))

pub line_is : (texts : Texts) (f : Files) (t : UnitTable) (units : List UnitCaches) (a k : ℕ) → PartsFit f t units → lacks_lines (slice_get units k) ≡ false → kept_line texts units a k ≡ line_in texts f t a k
unfolding line_in
line_is texts f t units a k fits e =
    kept_on lines_view (lines_at units k) (or_invalid (unit_lines f t k)) (line_by texts a) (line_of texts a) (λ x. refl) ((fits.each k).lines) (no_lines f t units k fits e)

pub chain_is : (f : Files) (t : UnitTable) (units : List UnitCaches) (a k n : ℕ) → PartsFit f t units → lacks_calls (slice_get units k) n ≡ false → kept_chain units a k n ≡ or_invalid (covering_calls f t a k n)
unfolding covering_calls
chain_is f t units a k n fits e =
    kept_on calls_view (calls_at units k n) (or_invalid (function_calls f t k n)) (chain_by a) (λ l. or_invalid (chain_of a l)) (λ x. refl) ((fits.each k).calls n) (no_calls f t units k n fits e) ∙ sym (invalid_then (function_calls f t k n) (chain_of a))

pub site_is : (texts : Texts) (f : Files) (t : UnitTable) (units : List UnitCaches) (k file : ℕ) (call : InlinedFunction) → PartsFit f t units → lacks_lines (slice_get units k) ≡ false → kept_site texts units k call file ≡ call_site texts (unit_lines f t k) call (Some file)
site_is texts f t units k file call fits e =
    kept_on lines_view (lines_at units k) (or_invalid (unit_lines f t k)) (site_by texts call file) (λ table. Good (site_of texts call file table)) (λ x. refl) ((fits.each k).lines) (no_lines f t units k fits e)

-- ---- the results of calls

pub repeats_gives : {X Y : Type 0} (view : X → Y) (r : Result X Fault) (p : Part Y) → Repeats view r p → Gives view r p
repeats_gives view (Ok x) p h = h
repeats_gives view (Err e) p h = λ ne. h

invalid_kind : {A : Type 0} (o : Option A) (k : ErrorKind) → or_invalid o ≡ Broken k → k ≡ OutOfMemory → ⊥
invalid_kind None k h e = cc
invalid_kind (Some x) k h e = absurd cc

pub repeats_exactly : {X Y : Type 0} (view : X → Y) (r : Result X Fault) (o : Option Y) → Repeats view r (or_invalid o) → Exactly view r (or_invalid o)
repeats_exactly view (Ok x) o h = h
repeats_exactly view (Err e) o h = (h, invalid_kind o e.kind h)

-- ---- the first of some units

later_is : (k : ℕ) (o : Option (Option ℕ)) (p : Part (Option (ℕ × ℕ))) (rest : Option (Option (ℕ × ℕ))) → p ≡ or_invalid rest → (or_invalid o >>= λ n. or_later k n p) ≡ or_invalid (option_and_then (λ n. found_or k n rest) o)
later_is k None p rest e = refl
later_is k (Some None) p rest e = e
later_is k (Some (Some n)) p rest e = refl

pub first_is : (f : Files) (t : UnitTable) (units : List UnitCaches) (a : ℕ) (ks : List ℕ) → PartsFit f t units → AllFull units → first_kept units a ks ≡ or_invalid (first_function f t a ks)
unfolding first_kept first_function
first_is f t units a [] fits full = refl
first_is f t units a (k ∷ ks) fits full =
    rw (best_is f t units a k fits (full k).functions) (later_is k (best_function f t a k) (first_kept units a ks) (first_function f t a ks) (first_is f t units a ks fits full))

pub first_line_is : (texts : Texts) (f : Files) (t : UnitTable) (units : List UnitCaches) (a : ℕ) (ks : List ℕ) → PartsFit f t units → AllFull units → first_kept_line texts units a ks ≡ first_line texts f t a ks
unfolding first_kept_line first_line
first_line_is texts f t units a [] fits full = refl
first_line_is texts f t units a (k ∷ ks) fits full =
    rw (line_is texts f t units a k fits (full k).lines, first_line_is texts f t units a ks fits full) refl

-- ---- lines by a root that is kept

pub kept_same : {X : Type 0} (c : Cache X) (p : Part X) → Kept (λ _. Unit {0}) (λ x. x) c p → (c ≡ Empty → p ≡ Broken InvalidDwarf) → kept_part c ≡ p
kept_same Empty p kept none = sym (none refl)
kept_same (Value x) p kept none = sym kept.1
kept_same (Mark k) p kept none = sym kept.0

pub root_told : (f : Files) (t : UnitTable) (units : List UnitCaches) (k : ℕ) → PartsFit f t units → lacks_root (slice_get units k) ≡ false → kept_part (root_at units k) ≡ or_invalid (unit_root f t k)
root_told f t units k fits e = kept_same (root_at units k) (or_invalid (unit_root f t k)) ((fits.each k).root) (no_root f t units k fits e)

main_none : (o : Option UnitParts) (kind : ErrorKind) → or_invalid (option_and_then (λ (u : UnitParts). Some u.root) o) ≡ Broken kind → o ≡ None
main_none None kind e = refl
main_none (Some u) kind e = absurd cc

invalid_mark : {A : Type 0} (o : Option A) (kind : ErrorKind) → or_invalid o ≡ Broken kind → kind ≡ InvalidDwarf
invalid_mark None kind e = cc
invalid_mark (Some x) kind e = absurd cc

lines_none_by : (f : Files) (t : UnitTable) (k : ℕ) → main_unit f t k ≡ None → unit_lines f t k ≡ None
unfolding unit_lines
lines_none_by f t k e = rw e refl

pub root_mark : (f : Files) (t : UnitTable) (units : List UnitCaches) (k : ℕ) (kind : ErrorKind) → PartsFit f t units → lacks_root (slice_get units k) ≡ false → kept_part (root_at units k) ≡ Broken kind → (or_invalid (unit_lines f t k) ≡ Broken kind) × (kind ≡ OutOfMemory → ⊥)
root_mark f t units k kind fits filled e =
    let told : or_invalid (unit_root f t k) ≡ Broken kind = sym (root_told f t units k fits filled) ∙ e in
    let none : main_unit f t k ≡ None = main_none (main_unit f t k) kind told in
    (rw (lines_none_by f t k none, invalid_mark (unit_root f t k) kind told) refl, invalid_kind (unit_root f t k) kind told)

-- ---- a function that is found stands among those that are kept

value_by : (a : ℕ) (c : Cache FunctionRanges) (r : Result (Option ℕ) Fault) → Repeats (λ n. n) r (kept_part c >>= best_by_ranges a) → IfOk r (λ _. is_value c ≡ true)
value_by a c (Err e) h = tt
value_by a Empty (Ok n) h = absurd cc
value_by a (Value x) (Ok n) h = refl
value_by a (Mark k) (Ok n) h = absurd cc

pub value_is : (units : List UnitCaches) (a k : ℕ) (r : Result (Option ℕ) Fault) → Repeats (λ n. n) r (kept_best units a k) → IfOk r (λ _. is_value (functions_at units k) ≡ true)
value_is units a k r h = value_by a (functions_at units k) r h

-- ---- parts that are lent

pub told_gives : {X Y A : Type 0} (view : Y → X) (v : X → A) (c : Cache X) (p : Part A) (r : Result Y Fault) → Kept (λ _. Unit {0}) v c p → (c ≡ Empty → p ≡ Broken InvalidDwarf) → Repeats view r (kept_part c) → Gives (λ y. v (view y)) r p
told_gives view v Empty p (Ok y) kept none h = absurd cc
told_gives view v Empty p (Err e) kept none h = let same : InvalidDwarf ≡ e.kind = cc in λ ne. rw (none refl, same) refl
told_gives view v (Value x) p (Ok y) kept none h = let same : x ≡ view y = cc in rw (kept.1, same) refl
told_gives view v (Value x) p (Err e) kept none h = absurd cc
told_gives view v (Mark k) p (Ok y) kept none h = absurd cc
told_gives view v (Mark k) p (Err e) kept none h = let same : k ≡ e.kind = cc in λ ne. rw (kept.0, same) refl

-- ---- calls by the place of their function

calls_none_by : (f : Files) (t : UnitTable) (k n : ℕ) → function_place f t k n ≡ None → function_calls f t k n ≡ None
unfolding function_calls
calls_none_by f t k n e = rw e refl

calls_some_by : (f : Files) (t : UnitTable) (k n place : ℕ) → function_place f t k n ≡ Some place → function_calls f t k n ≡ place_calls f t k place
unfolding function_calls
calls_some_by f t k n place e = rw e refl

marked_none : {A : Type 0} (o : Option A) (kind : ErrorKind) → or_invalid o ≡ Broken kind → o ≡ None
marked_none None kind e = refl
marked_none (Some x) kind e = absurd cc

good_is : {A : Type 0} (o : Option A) (x : A) → or_invalid o ≡ Good x → o ≡ Some x
good_is None x e = absurd cc
good_is (Some y) x e = cc

pub place_mark : (f : Files) (t : UnitTable) (units : List UnitCaches) (k n : ℕ) (kind : ErrorKind) → PartsFit f t units → lacks_functions (slice_get units k) ≡ false → kept_place units k n ≡ Broken kind → or_invalid (function_calls f t k n) ≡ Broken kind
place_mark f t units k n kind fits filled e =
    let told : or_invalid (function_place f t k n) ≡ Broken kind = sym (place_is f t units k n fits filled) ∙ e in
    let none = marked_none (function_place f t k n) kind told in
    rw (calls_none_by f t k n none, invalid_mark (function_place f t k n) kind told) refl

pub place_good : (f : Files) (t : UnitTable) (units : List UnitCaches) (k n place : ℕ) → PartsFit f t units → lacks_functions (slice_get units k) ≡ false → kept_place units k n ≡ Good place → function_calls f t k n ≡ place_calls f t k place
place_good f t units k n place fits filled e =
    calls_some_by f t k n place (good_is (function_place f t k n) place (sym (place_is f t units k n fits filled) ∙ e))
