-- What units tell by what is kept of them, one after the other.
use Rattle.std.proofs.Common.{◌≡◌, ℕ, suc, ◌+◌, ◌-◌, ◌<◌, ◌≤◌, Bool, true, false, List, [], ◌++◌, length, length-append, append_assoc, Option, Some, None, Result, Ok, Err, IfOk, refl, sym, ap, subst, ◌∙◌, arith, inl, inr}
use Rattle.std.specs.List.{slice_get}
use Rattle.std.proofs.lemmas.List.{append-nil}
use Rattle.blz_error.specs.Fault.{Fault}
use Rattle.blz_error.specs.declared.kind.ErrorKind.{ErrorKind}
use Rattle.blz_error.specs.declared.kind.ErrorKind.TheVariants.{InvalidDwarf}
use Rattle.blz_model.specs.Part.{Part, Good, Broken, Fails, Gives, ◌>>=◌}
use Rattle.blz_model.specs.declared.cache.Cache.{Cache}
use Rattle.blz_model.specs.declared.cache.Cache.TheVariants.{Empty, Value, Mark}
use Rattle.blz_info.specs.Marks.{or_invalid}
use Rattle.blz_info.proofs.Marked.{good_some, marks_on}
use Rattle.blz_info.specs.declared.text.Texts.{Texts}
use Rattle.blz_units.specs.declared.caches.UnitCaches.{UnitCaches}
use Rattle.blz_units.specs.BuiltUnits.{Files}
use Rattle.blz_functions.specs.FunctionList.{Lists}
use Rattle.blz_reader.specs.Growing.{Told, Made, AreOrdered, UnitsGrowTo}
use Rattle.blz_functions.specs.FunctionRanges.{FunctionRanges}
use Rattle.blz_units.specs.KeptAnswers.{Repeats, kept_part, is_value}
use Rattle.blz_units.specs.KeptParts.{functions_at, lists_view, lacks_functions, PartsFit}
use Rattle.blz_reader.specs.ShownFunctions.{Numbered, ShowsMore, StopsWithin, IsAllShown, IsCutOff, IsWhole, shown_from, all_shown}
use Rattle.blz_units.specs.UnitAnswers.{first_called, with_called, called_from, functions_named, in_unit, functions_from, all_functions, unit_functions}
use Rattle.blz_reader.specs.UnitNames.{called_in, called_by, kept_called, AllThere, listed, list_in, ShowsNone}
use Rattle.blz_units.specs.UnitTables.{UnitTable}
use Rattle.blz_reader.proofs.KeptTold.{kept_on, no_functions, told_gives}
use Rattle.blz_ranges.proofs.ListEnds.{last_or}
use Rattle.blz_reader.proofs.NameSteps.{Numbers, behind, called_behind, called_more, called_none, called_end, listed_behind, listed_more, listed_none, listed_end, shown_behind, shown_more, shown_none, shown_end}
use Rattle.blz_reader.proofs.ShownSteps.{shows_none, shows_then}

called_as : (texts : Texts) (name : List ℕ) (o : Option Lists) → (or_invalid o >>= λ (l : Lists). Good (first_called texts name l)) ≡ or_invalid (called_in texts name o)
called_as texts name None = refl
called_as texts name (Some l) = refl

pub called_is : (texts : Texts) (f : Files) (t : UnitTable) (units : List UnitCaches) (name : List ℕ) (k : ℕ) → PartsFit f t units → lacks_functions (slice_get units k) ≡ false → kept_called texts name units k ≡ or_invalid (called_in texts name (unit_functions f t k))
called_is texts f t units name k fits e =
    kept_on lists_view (functions_at units k) (or_invalid (unit_functions f t k)) (called_by texts name) (λ (l : Lists). Good (first_called texts name l)) (λ x. refl) ((fits.each k).functions) (no_functions f t units k fits e)
    ∙ called_as texts name (unit_functions f t k)

-- ---- the functions of a unit, by what is kept

list_good : (c : Cache FunctionRanges) (x : FunctionRanges) → kept_part c ≡ Good x → list_in c ≡ Some x.functions
list_good Empty x e = absurd cc
list_good (Value y) x e = let same : y ≡ x = cc in rw same refl
list_good (Mark k) x e = absurd cc

module _ (f : Files) (t : UnitTable) (units : List UnitCaches) (k : ℕ) (fits : PartsFit f t units) (filled : lacks_functions (slice_get units k) ≡ false) where
  told_as : (r : Result FunctionRanges Fault) → Repeats (λ (x : FunctionRanges). x) r (kept_part (functions_at units k)) → Gives lists_view r (or_invalid (unit_functions f t k))
  told_as r told = told_gives (λ (x : FunctionRanges). x) lists_view (functions_at units k) (or_invalid (unit_functions f t k)) r ((fits.each k).functions) (no_functions f t units k fits filled) told

  pub listed_good : (x : FunctionRanges) → kept_part (functions_at units k) ≡ Good x → or_invalid (listed (unit_functions f t k)) ≡ Good (list_in (functions_at units k))
  listed_good x e = rw (good_some (unit_functions f t k) (lists_view x) (told_as (Ok x) e), list_good (functions_at units k) x e) refl

  pub listed_mark : (fault : Fault) → kept_part (functions_at units k) ≡ Broken fault.kind → Fails fault.kind (or_invalid (listed (unit_functions f t k)))
  listed_mark fault e = marks_on fault.kind (unit_functions f t k) (listed (unit_functions f t k)) (told_as (Err fault) e) (λ none. rw none refl)

-- ---- functions that are kept stay

value_by : {X Y Z : Type 0} (view : Y → Z) (c : Cache X) (h : X → Part Z) (r : Result Y Fault) → Repeats view r (kept_part c >>= h) → IfOk r (λ _. is_value c ≡ true)
value_by view c h (Err e) told = tt
value_by view Empty h (Ok y) told = absurd cc
value_by view (Value x) h (Ok y) told = refl
value_by view (Mark k) h (Ok y) told = absurd cc

pub called_there : (texts : Texts) (name : List ℕ) (units : List UnitCaches) (k : ℕ) (r : Result (Option ℕ) Fault) → Repeats (λ n. n) r (kept_called texts name units k) → IfOk r (λ _. is_value (functions_at units k) ≡ true)
called_there texts name units k r told = value_by (λ n. n) (functions_at units k) (called_by texts name) r told

value_stays : {X : Type 0} (right : X → Type 0) (a b : Cache X) → Made right a b → is_value a ≡ true → is_value b ≡ true
value_stays right Empty b made e = absurd cc
value_stays right (Value x) b made e = rw made refl
value_stays right (Mark k) b made e = absurd cc

there_stays : (told : Told) (old new : List UnitCaches) (found : Numbers) → UnitsGrowTo told old new → AllThere old found → AllThere new found
there_stays told old new found grows there = λ i at is. value_stays (AreOrdered told) (functions_at old at.0) (functions_at new at.0) (grows at.0).functions (there i at is)

pub none_there : (units : List UnitCaches) → AllThere units []
none_there units = λ i at is. absurd cc

-- one unit more
pub there_more : (told : Told) (old new : List UnitCaches) (found : Numbers) (k : ℕ) (m : Option ℕ) → UnitsGrowTo told old new → AllThere old found → is_value (functions_at new k) ≡ true → AllThere new (found ++ with_called k m [])
there_more told old new found k None grows there here = rw (append-nil found) (there_stays told old new found grows there)
there_more told old new found k (Some n) grows there here = λ i at is.
    elim (last_or found (k, n) i at is) [
      | inl e ↦ there_stays told old new found grows there i at e
      | inr e ↦ subst (λ (j : ℕ). is_value (functions_at new j) ≡ true) (ap (λ (p : ℕ × ℕ). p.0) e.1) here
    ]

-- ---- units that are left

one_less : (count number : ℕ) → number < count → count - number ≡ suc (count - (number + 1))
one_less count number lt = omega (arith, lt)

none_left : (count number : ℕ) → count ≤ number → count - number ≡ 0
none_left count number le = omega (arith, le)

all_left : (count : ℕ) → count - 0 ≡ count
all_left count = omega arith

behind_nothing : {A : Type 0} (o : Option (List A)) → behind [] o ≡ o
behind_nothing None = refl
behind_nothing (Some l) = refl

module _ (texts : Texts) (f : Files) (t : UnitTable) (name : List ℕ) where
  -- what is found so far is the front of what is found in all
  abbrev pub IsFound : ℕ → ℕ → Numbers → Type 0
  IsFound count number found = called_behind texts f t name found number (count - number) ≡ functions_named texts f t name

  pub found_none : IsFound (length t.kept) 0 []
  unfolding functions_named
  found_none = rw (all_left (length t.kept)) (behind_nothing (called_from texts f t name 0 (length t.kept)))

  pub found_more : (count number : ℕ) (found : Numbers) (m : Option ℕ) → number < count → called_in texts name (unit_functions f t number) ≡ Some m → IsFound count number found → IsFound count (number + 1) (found ++ with_called number m [])
  found_more count number found m lt is so_far =
      sym (ap (called_behind texts f t name found number) (one_less count number lt) ∙ called_more texts f t name found number (count - (number + 1)) m is) ∙ so_far

  pub found_mark : (count number : ℕ) (found : Numbers) → number < count → IsFound count number found → called_in texts name (unit_functions f t number) ≡ None → functions_named texts f t name ≡ None
  found_mark count number found lt so_far is =
      sym so_far ∙ ap (called_behind texts f t name found number) (one_less count number lt) ∙ called_none texts f t name found number (count - (number + 1)) is

  pub found_all : (count number : ℕ) (found : Numbers) → count ≤ number → IsFound count number found → functions_named texts f t name ≡ Some found
  found_all count number found le so_far =
      sym so_far ∙ ap (called_behind texts f t name found number) (none_left count number le) ∙ called_end texts f t name found number

-- ---- all functions

-- What was shown so far is the front of what is shown of all.
pub record IsShown (f : Files) (t : UnitTable) (count number : ℕ) (old now : Option Numbered) : Type 0 where
  pub front : Numbered
  pub shown : ShowsMore old now front
  pub whole : listed_behind f t front number (count - number) ≡ all_functions f t
  pub listing : shown_behind f t front number (count - number) ≡ all_shown f t

module _ (f : Files) (t : UnitTable) where
  whole_start : listed_behind f t [] 0 (length t.kept - 0) ≡ all_functions f t
  unfolding all_functions
  whole_start = rw (all_left (length t.kept)) (behind_nothing (functions_from f t 0 (length t.kept)))

  listing_start : shown_behind f t [] 0 (length t.kept - 0) ≡ all_shown f t
  unfolding all_shown
  listing_start = rw (all_left (length t.kept)) refl

  pub shown_start : (old : Option Numbered) → IsShown f t (length t.kept) 0 old old
  shown_start old = record { front = []; shown = shows_none old; whole = whole_start; listing = listing_start }

module _ (f : Files) (t : UnitTable) (count number : ℕ) (old now new : Option Numbered) (so_far : IsShown f t count number old now) where
  abbrev front : Numbered
  front = so_far.front

  abbrev left : ℕ
  left = count - (number + 1)

  whole_on : number < count → listed_behind f t front number (suc left) ≡ all_functions f t
  whole_on lt = sym (ap (listed_behind f t front number) (one_less count number lt)) ∙ so_far.whole

  listing_on : number < count → shown_behind f t front number (suc left) ≡ all_shown f t
  listing_on lt = sym (ap (shown_behind f t front number) (one_less count number lt)) ∙ so_far.listing

  pub shown_on : (l : Lists) (stopped : Bool) → number < count → unit_functions f t number ≡ Some l → IsAllShown (in_unit number l.functions) now new stopped → IsShown f t count (number + 1) old new
  shown_on l stopped lt is all = record {
    front = front ++ in_unit number l.functions;
    shown = shows_then old now new front (in_unit number l.functions) so_far.shown all.shown;
    whole = sym (listed_more f t front number left l is) ∙ whole_on lt;
    listing = sym (shown_more f t front number left l is) ∙ listing_on lt;
  }

  -- the visitor breaks within a unit
  pub shown_break : (l : Lists) (stopped : Bool) → number < count → unit_functions f t number ≡ Some l → StopsWithin (in_unit number l.functions) now new stopped → StopsWithin (all_shown f t) old new stopped
  shown_break l stopped lt is stop =
      let more = shown_from f t (number + 1) left in
      let inner : (stop.front ++ (stop.rest ++ more)) ≡ (in_unit number l.functions ++ more) = sym (append_assoc stop.front stop.rest more) ∙ ap (λ (x : Numbered). x ++ more) stop.split in
      let outer : ((front ++ stop.front) ++ (stop.rest ++ more)) ≡ ((front ++ in_unit number l.functions) ++ more) = append_assoc front stop.front (stop.rest ++ more) ∙ ap (λ (x : Numbered). front ++ x) inner ∙ sym (append_assoc front (in_unit number l.functions) more) in
      record {
        stops = stop.stops;
        front = front ++ stop.front;
        rest = stop.rest ++ more;
        some = omega (arith, stop.some, length-append front stop.front);
        split = outer ∙ sym (shown_more f t front number left l is) ∙ listing_on lt;
        shown = shows_then old now new front stop.front so_far.shown stop.shown;
      }

  -- the functions of a unit have no value
  pub shown_mark : (stopped : Bool) (fault : Fault) → number < count → ShowsNone (unit_functions f t number) now new stopped fault → IsCutOff (all_functions f t) (all_shown f t) old new stopped fault.kind
  shown_mark stopped fault lt none = record {
    goes_on = none.goes_on;
    none = λ ne. sym (whole_on lt) ∙ listed_none f t front number left (unread (unit_functions f t number) fault.kind (none.mark ne));
    mark = λ ne. invalid (unit_functions f t number) fault.kind (none.mark ne);
    all = λ ne. subst (ShowsMore old new) (sym (shown_none f t front number left (unread (unit_functions f t number) fault.kind (none.mark ne))) ∙ listing_on lt) here;
    front = front;
    rest = shown_from f t number (count - number);
    split = so_far.listing;
    shown = here;
  }
    where
      here : ShowsMore old new front
      here = rw none.same so_far.shown

      unread : {A : Type 0} (o : Option A) (kind : ErrorKind) → or_invalid o ≡ Broken kind → o ≡ None
      unread None kind e = refl
      unread (Some x) kind e = absurd cc

      invalid : {A : Type 0} (o : Option A) (kind : ErrorKind) → or_invalid o ≡ Broken kind → kind ≡ InvalidDwarf
      invalid None kind e = cc
      invalid (Some x) kind e = absurd cc

pub shown_whole : (f : Files) (t : UnitTable) (count number : ℕ) (old now : Option Numbered) (stopped : Bool) → count ≤ number → stopped ≡ false → IsShown f t count number old now → IsWhole (all_functions f t) (all_shown f t) old now stopped
shown_whole f t count number old now stopped le goes_on so_far =
    let whole : all_functions f t ≡ Some so_far.front = sym so_far.whole ∙ ap (listed_behind f t so_far.front number) (none_left count number le) ∙ listed_end f t so_far.front number in
    let listing : so_far.front ≡ all_shown f t = sym (shown_end f t so_far.front number) ∙ sym (ap (shown_behind f t so_far.front number) (none_left count number le)) ∙ so_far.listing in
    (whole ∙ ap (λ (x : Numbered). Some x) listing, record { goes_on = goes_on; shown = subst (ShowsMore old now) listing so_far.shown })
