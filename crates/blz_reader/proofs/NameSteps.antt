-- One unit more, and its functions by their names, or all of them.
use Rattle.std.proofs.Common.{◌≡◌, ℕ, suc, ◌+◌, List, [], ◌∷◌, ◌++◌, Option, Some, None, refl, sym, ap, ◌∙◌, append_assoc}
use Rattle.std.proofs.lemmas.List.{append-nil}
use Rattle.blz_model.specs.Reads.{◌>>=◌}
use Rattle.blz_info.specs.declared.text.Texts.{Texts}
use Rattle.blz_units.specs.BuiltUnits.{Files}
use Rattle.blz_functions.specs.FunctionList.{Lists}
use Rattle.blz_reader.specs.ShownFunctions.{Numbered, shown_from}
use Rattle.blz_units.specs.UnitAnswers.{first_called, with_called, called_from, in_unit, functions_from, unit_functions}
use Rattle.blz_reader.specs.UnitNames.{called_in}
use Rattle.blz_units.specs.UnitTables.{UnitTable}

abbrev pub Numbers : Type 0
Numbers = List (ℕ × ℕ)

abbrev pub behind : {A : Type 0} → List A → Option (List A) → Option (List A)
behind front o = o >>= λ rest. Some (front ++ rest)

nothing_more : {A : Type 0} (front : List A) → behind front (Some []) ≡ Some front
nothing_more {A = A} front = ap (λ (l : List A). Some l) (append-nil front)

called_then : (k : ℕ) (n : Option ℕ) (front : Numbers) (o : Option Numbers) → behind front (o >>= λ (rest : Numbers). Some (with_called k n rest)) ≡ behind (front ++ with_called k n []) o
called_then k n front None = refl
called_then k None front (Some rest) = ap (λ (l : Numbers). Some (l ++ rest)) (sym (append-nil front))
called_then k (Some n) front (Some rest) = ap (λ (l : Numbers). Some l) (sym (append_assoc front ((k, n) ∷ []) rest))

called_more_by : (texts : Texts) (name : List ℕ) (k : ℕ) (n : Option ℕ) (front : Numbers) (lists : Option Lists) (o : Option Numbers) → called_in texts name lists ≡ Some n
    → behind front (lists >>= λ (l : Lists). o >>= λ (rest : Numbers). Some (with_called k (first_called texts name l) rest)) ≡ behind (front ++ with_called k n []) o
called_more_by texts name k n front None o h = absurd cc
called_more_by texts name k n front (Some l) o h =
    let e : first_called texts name l ≡ n = cc in
    ap (λ (m : Option ℕ). behind front (o >>= λ (rest : Numbers). Some (with_called k m rest))) e ∙ called_then k n front o

called_none_by : (texts : Texts) (name : List ℕ) (k : ℕ) (front : Numbers) (lists : Option Lists) (o : Option Numbers) → called_in texts name lists ≡ None
    → behind front (lists >>= λ (l : Lists). o >>= λ (rest : Numbers). Some (with_called k (first_called texts name l) rest)) ≡ None
called_none_by texts name k front None o h = refl
called_none_by texts name k front (Some l) o h = absurd cc

-- the functions of a name in n units from a number on, behind those before
abbrev pub called_behind : Texts → Files → UnitTable → List ℕ → Numbers → ℕ → ℕ → Option Numbers
called_behind texts f t name front k n = behind front (called_from texts f t name k n)

module _ (texts : Texts) (f : Files) (t : UnitTable) (name : List ℕ) (front : Numbers) (k : ℕ) where
  pub called_more : (n : ℕ) (m : Option ℕ) → called_in texts name (unit_functions f t k) ≡ Some m → called_behind texts f t name front k (suc n) ≡ called_behind texts f t name (front ++ with_called k m []) (k + 1) n
  unfolding called_from
  called_more n m h = called_more_by texts name k m front (unit_functions f t k) (called_from texts f t name (k + 1) n) h

  pub called_none : (n : ℕ) → called_in texts name (unit_functions f t k) ≡ None → called_behind texts f t name front k (suc n) ≡ None
  unfolding called_from
  called_none n h = called_none_by texts name k front (unit_functions f t k) (called_from texts f t name (k + 1) n) h

  pub called_end : called_behind texts f t name front k 0 ≡ Some front
  unfolding called_from
  called_end = nothing_more front

-- ---- all functions

listed_then : (k : ℕ) (l : Lists) (front : Numbered) (o : Option Numbered) → behind front (o >>= λ (rest : Numbered). Some (in_unit k l.functions ++ rest)) ≡ behind (front ++ in_unit k l.functions) o
listed_then k l front None = refl
listed_then k l front (Some rest) = ap (λ (x : Numbered). Some x) (sym (append_assoc front (in_unit k l.functions) rest))

listed_more_by : (k : ℕ) (l : Lists) (front : Numbered) (lists : Option Lists) (o : Option Numbered) → lists ≡ Some l
    → behind front (lists >>= λ (m : Lists). o >>= λ (rest : Numbered). Some (in_unit k m.functions ++ rest)) ≡ behind (front ++ in_unit k l.functions) o
listed_more_by k l front lists o h = rw h (listed_then k l front o)

abbrev pub listed_behind : Files → UnitTable → Numbered → ℕ → ℕ → Option Numbered
listed_behind f t front k n = behind front (functions_from f t k n)

abbrev pub shown_behind : Files → UnitTable → Numbered → ℕ → ℕ → Numbered
shown_behind f t front k n = front ++ shown_from f t k n

module _ (f : Files) (t : UnitTable) (front : Numbered) (k : ℕ) where
  pub listed_more : (n : ℕ) (l : Lists) → unit_functions f t k ≡ Some l → listed_behind f t front k (suc n) ≡ listed_behind f t (front ++ in_unit k l.functions) (k + 1) n
  unfolding functions_from
  listed_more n l h = listed_more_by k l front (unit_functions f t k) (functions_from f t (k + 1) n) h

  pub listed_none : (n : ℕ) → unit_functions f t k ≡ None → listed_behind f t front k (suc n) ≡ None
  unfolding functions_from
  listed_none n h = rw h refl

  pub listed_end : listed_behind f t front k 0 ≡ Some front
  unfolding functions_from
  listed_end = nothing_more front

  pub shown_more : (n : ℕ) (l : Lists) → unit_functions f t k ≡ Some l → shown_behind f t front k (suc n) ≡ shown_behind f t (front ++ in_unit k l.functions) (k + 1) n
  unfolding shown_from
  shown_more n l h = rw h (sym (append_assoc front (in_unit k l.functions) (shown_from f t (k + 1) n)))

  pub shown_none : (n : ℕ) → unit_functions f t k ≡ None → shown_behind f t front k (suc n) ≡ front
  unfolding shown_from
  shown_none n h = rw h (append-nil front)

  pub shown_end : shown_behind f t front k 0 ≡ front
  unfolding shown_from
  shown_end = append-nil front
