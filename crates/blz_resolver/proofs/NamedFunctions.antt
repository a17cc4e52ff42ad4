-- A function is found by its name.
use Rattle.std.proofs.Common.{◌≡◌, ℕ, zero, suc, ◌+◌, ◌<◌, ◌≤◌, Bool, true, false, not, cond, nat_lt, List, [], ◌∷◌, length, map, Option, Some, None, is_some, refl, sym, ap, ◌∙◌, subst, arith}
use Rattle.std.specs.Prelude.{⊤}
use Rattle.std.specs.List.{slice_get, position, prefix_len}
use Rattle.std.specs.Option.{unwrap_or}
use Rattle.std.specs.Str.{is_utf8}
use Rattle.std.proofs.lemmas.Bool.{ltb-true, ltb-false, lt-ltb}
use Rattle.std.proofs.lemmas.Slice.Eq.{bytes_eq-Decides}
use Rattle.blz_error.specs.declared.kind.ErrorKind.TheVariants.{InvalidDwarf}
use Rattle.blz_model.specs.Part.{Part, Good, ◌>>=◌, check, all_good}
use Rattle.blz_records.specs.declared.sym_type.SymType.TheVariants as kinds
use Rattle.blz_elf.specs.Infos.{Info}
use Rattle.blz_info.specs.Marks.{or_invalid}
use Rattle.blz_info.specs.TextParts.{text_of}
use Rattle.blz_info.specs.declared.text.StrPlace.{StrPlace}
use Rattle.blz_info.specs.declared.text.Texts.{Texts}
use Rattle.blz_functions.specs.FunctionList.{Lists}
use Rattle.blz_units.specs.UnitAnswers.{unit_functions, is_called, first_called, with_called, called_from, functions_named}
use Rattle.blz_units.specs.UnitSites.{call_name}
use Rattle.blz_functions.specs.declared.functions.Function.{Function}
use Rattle.blz_resolver.specs.AddressAnswers.{function_numbered, begin_of, size_of}
use Rattle.blz_resolver.specs.AnswerLaws.{AllRead, IsNamedAt, IsSomeList}
use Rattle.blz_resolver.specs.Books.{Book}
use Rattle.blz_resolver.specs.FileTexts.{texts_of}
use Rattle.blz_resolver.specs.FunctionNames.{place_if, info_named, function_info, numbered_info, infos_or_symbols, addresses_in}
use Rattle.blz_bundle.specs.Images.{ImageSet}
use Rattle.blz_resolver.proofs.CoveringFunctions.{unit_within}

-- ---- the first that passes

-- how many stand before the first that passes
abbrev ahead : (Function → Bool) → List Function → ℕ
ahead p xs = prefix_len (λ (x : Function). not (p x)) xs

record Passes (p : Function → Bool) (xs : List Function) (i : ℕ) : Type 0 where
  item : Function
  there : slice_get xs i ≡ Some item
  passes : p item ≡ true

first_or : (p : Function → Bool) (x : Function) (xs : List Function) (b : Bool) → p x ≡ b → (ahead p xs < length xs → Passes p xs (ahead p xs)) → cond (not b) (1 + ahead p xs) 0 < length (x ∷ xs) → Passes p (x ∷ xs) (cond (not b) (1 + ahead p xs) 0)
first_or p x xs true is later lt = record { item = x; there = refl; passes = is }
first_or p x xs false is later lt =
    let next : 1 + ahead p xs ≡ suc (ahead p xs) = omega arith in
    let k = later (omega (arith, lt)) in
    record { item = k.item; there = ap (λ (m : ℕ). slice_get (x ∷ xs) m) next ∙ k.there; passes = k.passes }

first_there : (p : Function → Bool) (xs : List Function) → ahead p xs < length xs → Passes p xs (ahead p xs)
first_there p [] lt = absurd (omega (arith, lt))
first_there p (x ∷ xs) lt = first_or p x xs (p x) refl (first_there p xs) lt

passes_if : (p : Function → Bool) (xs : List Function) (i : ℕ) (b : Bool) → nat_lt (ahead p xs) (length xs) ≡ b → cond b (Some (ahead p xs)) None ≡ Some i → Passes p xs i
passes_if p xs i true is e =
    let same : ahead p xs ≡ i = cc in
    let P : ℕ → Type 0 = λ m. Passes p xs m in
    subst P same (first_there p xs (ltb-true (ahead p xs) (length xs) is))
passes_if p xs i false is e = absurd cc

position_passes : (p : Function → Bool) (xs : List Function) (i : ℕ) → position p xs ≡ Some i → Passes p xs i
position_passes p xs i e = passes_if p xs i (nat_lt (ahead p xs) (length xs)) refl e

behind_one : (p : Function → Bool) (y : Function) (xs : List Function) (b : Bool) → ahead p xs < length xs → cond (not b) (1 + ahead p xs) 0 < length (y ∷ xs)
behind_one p y xs true lt = omega arith
behind_one p y xs false lt = omega (arith, lt)

at_front : (p : Function → Bool) (y : Function) (xs : List Function) (b : Bool) → b ≡ true → cond (not b) (1 + ahead p xs) 0 < length (y ∷ xs)
at_front p y xs true is = omega arith
at_front p y xs false is = absurd cc

first_within : (p : Function → Bool) (xs : List Function) (n : ℕ) (x : Function) → slice_get xs n ≡ Some x → p x ≡ true → ahead p xs < length xs
first_within p [] n x is passing = absurd cc
first_within p (y ∷ xs) zero x is passing = let same : y ≡ x = cc in at_front p y xs (p y) (ap p same ∙ passing)
first_within p (y ∷ xs) (suc n) x is passing = behind_one p y xs (p y) (first_within p xs n x is passing)

position_some : (p : Function → Bool) (xs : List Function) (n : ℕ) (x : Function) → slice_get xs n ≡ Some x → p x ≡ true → position p xs ≡ Some (ahead p xs)
position_some p xs n x is passing = ap (λ (b : Bool). cond b (Some (ahead p xs)) None) (lt-ltb (ahead p xs) (length xs) (first_within p xs n x is passing))

-- ---- names

utf8_in : (bytes name : List ℕ) (b : Bool) → is_utf8 bytes ≡ b → (check b InvalidDwarf >>= λ utf8. Good bytes) ≡ Good name → (bytes ≡ name) × (is_utf8 bytes ≡ true)
utf8_in bytes name true is e = let same : bytes ≡ name = cc in (same, is)
utf8_in bytes name false is e = absurd cc

name_utf8 : (t : Texts) (o : Option StrPlace) (name : List ℕ) → is_some o ≡ true → call_name t o ≡ Good name → is_utf8 name ≡ true
name_utf8 t None name some e = absurd cc
name_utf8 t (Some place) name some e = let k = utf8_in (text_of t place) name (is_utf8 (text_of t place)) refl e in ap is_utf8 (sym k.0) ∙ k.1

called_itself : (t : Texts) (o : Option StrPlace) (name : List ℕ) → is_some o ≡ true → call_name t o ≡ Good name → is_called t name o ≡ true
called_itself t None name some e = absurd cc
called_itself t (Some place) name some e = let k = utf8_in (text_of t place) name (is_utf8 (text_of t place)) refl e in (bytes_eq-Decides (text_of t place) name).1 k.0

call_good : (t : Texts) (o : Option StrPlace) (name : List ℕ) → is_called t name o ≡ true → is_utf8 name ≡ true → call_name t o ≡ Good name
call_good t None name e utf8 = absurd cc
call_good t (Some place) name e utf8 =
    let same : text_of t place ≡ name = (bytes_eq-Decides (text_of t place) name).0 e in
    ap (λ (bytes : List ℕ). check (is_utf8 bytes) InvalidDwarf >>= λ utf8. Good bytes) same ∙ ap (λ (b : Bool). check b InvalidDwarf >>= λ utf8. Good name) utf8

-- ---- what is found

abbrev called : Texts → List ℕ → Function → Bool
called t name function = is_called t name function.name

record IsCalledAt (t : Texts) (b : Book) (name : List ℕ) (at : ℕ × ℕ) : Type 0 where
  function : Function
  there : function_numbered b at ≡ Good function
  called : is_called t name function.name ≡ true

abbrev AllCalled : Texts → Book → List ℕ → List (ℕ × ℕ) → Type 0
AllCalled t b name [] = ⊤
AllCalled t b name (at ∷ rest) = IsCalledAt t b name at × AllCalled t b name rest

record HasInfo (t : Texts) (b : Book) (at : ℕ × ℕ) : Type 0 where
  info : Info
  is : numbered_info t b false at ≡ Good info

record AllInfos (t : Texts) (b : Book) (found : List (ℕ × ℕ)) : Type 0 where
  infos : List Info
  is : all_good (map (numbered_info t b false) found) ≡ Good infos
  long : length infos ≡ length found

abbrev plain_info : ImageSet → Function → List ℕ → Info
plain_info images function name = record {
  name = name;
  addr = begin_of function.bounds;
  size = Some (unwrap_or (size_of function.bounds) 0);
  sym_type = kinds.Function;
  file_offset = None;
  module_name = images.main.module_name;
}

there_in : (o : Option Function) (function : Function) → or_invalid o ≡ Good function → o ≡ Some function
there_in None function e = absurd cc
there_in (Some x) function e = let same : x ≡ function = cc in ap (λ (y : Function). Some y) same

module _ (t : Texts) (b : Book) (name : List ℕ) (utf8 : is_utf8 name ≡ true) where
  has_info : (at : ℕ × ℕ) → IsCalledAt t b name at → HasInfo t b at
  unfolding numbered_info function_info info_named place_if
  has_info at c = record {
    info = plain_info b.images c.function name;
    is = ap (λ (p : Part Function). p >>= function_info t b.images false) c.there ∙ ap (λ (p : Part (List ℕ)). p >>= info_named b.images false c.function) (call_good t c.function.name name c.called utf8);
  }

  all_infos : (found : List (ℕ × ℕ)) → AllCalled t b name found → AllInfos t b found
  all_infos [] h = record { infos = []; is = refl; long = refl }
  all_infos (at ∷ rest) h =
      let one = has_info at h.0 in
      let more = all_infos rest h.1 in
      record {
        infos = one.info ∷ more.infos;
        is = ap (λ (p : Part Info). p >>= λ x. all_good (map (numbered_info t b false) rest) >>= λ xs. Good (x ∷ xs)) one.is ∙ ap (λ (p : Part (List Info)). p >>= λ xs. Good (one.info ∷ xs)) more.is;
        long = omega (arith, more.long);
      }

  some_listed : (found : List (ℕ × ℕ)) → functions_named t b.files b.table name ≡ Some found → AllCalled t b name found → 0 < length found → IsSomeList (addresses_in t b name false)
  unfolding addresses_in infos_or_symbols
  some_listed [] is each some = absurd (omega (arith, some))
  some_listed (at ∷ rest) is each some =
      let k = all_infos (at ∷ rest) each in
      record {
        infos = k.infos;
        is = ap (λ (o : Option (List (ℕ × ℕ))). or_invalid o >>= infos_or_symbols t b name false) is ∙ k.is;
        some = omega (arith, k.long, some);
      }

-- ---- the units

record NamedFrom (t : Texts) (b : Book) (name : List ℕ) (k m : ℕ) : Type 0 where
  found : List (ℕ × ℕ)
  is : called_from t b.files b.table name k m ≡ Some found
  each : AllCalled t b name found
  some : (j i : ℕ) (lists : Lists) → k ≤ j → j < k + m → unit_functions b.files b.table j ≡ Some lists → first_called t name lists ≡ Some i → 0 < length found

module _ (t : Texts) (b : Book) (name : List ℕ) where
  called_there : (k i : ℕ) (lists : Lists) → unit_functions b.files b.table k ≡ Some lists → first_called t name lists ≡ Some i → IsCalledAt t b name (k, i)
  unfolding function_numbered
  called_there k i lists is first =
      let c = position_passes (called t name) lists.functions i first in
      record { function = c.item; there = ap (λ (o : Option Lists). or_invalid o >>= λ l. or_invalid (slice_get l.functions i)) is ∙ ap (λ (o : Option Function). or_invalid o) c.there; called = c.passes }

  read_on : (k m : ℕ) (lists : Lists) (found : List (ℕ × ℕ)) → unit_functions b.files b.table k ≡ Some lists → called_from t b.files b.table name (k + 1) m ≡ Some found → called_from t b.files b.table name k (suc m) ≡ Some (with_called k (first_called t name lists) found)
  unfolding called_from
  read_on k m lists found is rest = rw (is, rest) refl

  -- a unit without such a function adds none
  skipped : (k m j i : ℕ) (lists other : Lists) (later : Bool) → nat_lt k j ≡ later → unit_functions b.files b.table k ≡ Some lists → first_called t name lists ≡ None → (rest : NamedFrom t b name (k + 1) m)
      → k ≤ j → j < k + suc m → unit_functions b.files b.table j ≡ Some other → first_called t name other ≡ Some i → 0 < length rest.found
  skipped k m j i lists other true lt is first rest ge below there found = let past : k < j = ltb-true k j lt in rest.some j i other (omega (arith, past)) (omega (arith, below)) there found
  skipped k m j i lists other false lt is first rest ge below there found =
      let same : j ≡ k = omega (arith, ltb-false k j lt, ge) in
      let both : Some lists ≡ Some other = sym is ∙ ap (unit_functions b.files b.table) (sym same) ∙ there in
      let one : lists ≡ other = cc in
      let some : first_called t name lists ≡ Some i = ap (first_called t name) one ∙ found in
      absurd cc

  by_first : (k m : ℕ) (lists : Lists) → unit_functions b.files b.table k ≡ Some lists → (o : Option ℕ) → first_called t name lists ≡ o → NamedFrom t b name (k + 1) m → NamedFrom t b name k (suc m)
  by_first k m lists is None first rest = record {
    found = rest.found;
    is = read_on k m lists rest.found is rest.is ∙ ap (λ (o : Option ℕ). Some (with_called k o rest.found)) first;
    each = rest.each;
    some = λ j i other ge below there found. skipped k m j i lists other (nat_lt k j) refl is first rest ge below there found;
  }
  by_first k m lists is (Some n) first rest = record {
    found = (k, n) ∷ rest.found;
    is = read_on k m lists rest.found is rest.is ∙ ap (λ (o : Option ℕ). Some (with_called k o rest.found)) first;
    each = (called_there k n lists is first, rest.each);
    some = λ j i other ge below there found. omega arith;
  }

  by_unit : (k m : ℕ) (o : Option Lists) → unit_functions b.files b.table k ≡ o → is_some o ≡ true → NamedFrom t b name (k + 1) m → NamedFrom t b name k (suc m)
  by_unit k m None is some rest = absurd cc
  by_unit k m (Some lists) is some rest = by_first k m lists is (first_called t name lists) refl rest

  named_from : AllRead b.files b.table → (k m : ℕ) → k + m ≤ length b.table.kept → NamedFrom t b name k m
  unfolding called_from
  named_from read k zero le = record { found = []; is = refl; each = tt; some = λ j i lists ge below is first. absurd (omega (arith, ge, below)) }
  named_from read k (suc m) le = by_unit k m (unit_functions b.files b.table k) refl (read k (omega (arith, le))) (named_from read (k + 1) m (omega (arith, le)))

  -- the unit of a function that has the name
  found_some : (whole : NamedFrom t b name 0 (length b.table.kept)) (k n : ℕ) (function : Function) (o : Option Lists) → unit_functions b.files b.table k ≡ o → (or_invalid o >>= λ lists. or_invalid (slice_get lists.functions n)) ≡ Good function → is_called t name function.name ≡ true → 0 < length whole.found
  found_some whole k n function None is e passing = absurd cc
  found_some whole k n function (Some lists) is e passing =
      whole.some k (ahead (called t name) lists.functions) lists (omega arith) (omega (arith, unit_within b.files b.table k lists is)) is (position_some (called t name) lists.functions n function (there_in (slice_get lists.functions n) function e) passing)

pub found_by_name : (b : Book) (a k n : ℕ) (name : List ℕ) → AllRead b.files b.table → IsNamedAt b a k n name → IsSomeList (addresses_in (texts_of b.files) b name false)
unfolding functions_named function_numbered
found_by_name b a k n name read at =
    let t : Texts = texts_of b.files in
    let whole : NamedFrom t b name 0 (length b.table.kept) = named_from t b name read 0 (length b.table.kept) (omega arith) in
    let some : 0 < length whole.found = found_some t b name whole k n at.function (unit_functions b.files b.table k) refl at.read (called_itself t at.function.name name at.named at.utf8) in
    some_listed t b name (name_utf8 t at.function.name name at.named at.utf8) whole.found whole.is whole.each some
