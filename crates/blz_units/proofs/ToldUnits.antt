-- Units that were told are left out.
use Rattle.std.proofs.Common.{◌≡◌, ◌⊎◌, ℕ, zero, suc, ◌+◌, ◌<◌, ◌≤◌, true, false, List, [], ◌∷◌, length, get_or, drop, drop-cons, Option, Some, None, refl, sym, ap, ◌∙◌, arith, inl, inr}
use Rattle.std.specs.Prelude.{nat_lt}
use Rattle.std.specs.List.{slice_get, slice_set}
use Rattle.std.proofs.Math.ListN.{drop_of_length-le}
use Rattle.std.proofs.lemmas.Bool.{cases_Bool, eqb-true, le-ltb}
use Rattle.blz_ranges.specs.Ranges.{OwnedRanges}
use Rattle.blz_units.specs.Announced.{to_tell, units_covering, Announcing}
use Rattle.blz_units.specs.Seen.{is_unit, is_noted, left_of, noted, untold, Holds, LeavesOut, IsNoneNoted, IsOnce}
use Rattle.blz_units.specs.declared.announced.units_at.Told.{Told}

-- ---- one after the other

pub noted_behind : (told : List (Option ℕ)) (i unit : ℕ) (x : Option ℕ) → i < length told → x ≡ get_or told i x → is_unit x unit ≡ false → is_noted (drop i told) unit ≡ is_noted (drop (i + 1) told) unit
noted_behind told i unit x lt e other =
    let k : i + 1 ≡ suc i = omega arith in
    let cut : drop i told ≡ x ∷ drop (suc i) told = drop-cons told i x lt ∙ ap (λ (y : Option ℕ). y ∷ drop (suc i) told) (sym e) in
    rw (k, cut, other) refl

pub noted_here : (told : List (Option ℕ)) (i unit : ℕ) (x : Option ℕ) → i < length told → x ≡ get_or told i x → is_unit x unit ≡ true → is_noted (drop i told) unit ≡ true
noted_here told i unit x lt e same =
    let cut : drop i told ≡ x ∷ drop (suc i) told = drop-cons told i x lt ∙ ap (λ (y : Option ℕ). y ∷ drop (suc i) told) (sym e) in
    rw (cut, same) refl

pub noted_past : (told : List (Option ℕ)) (i unit : ℕ) → length told ≤ i → is_noted (drop i told) unit ≡ false
noted_past told i unit le = let e = drop_of_length-le told {i = i} le in rw e refl

-- ---- what is noted was told

set_only : (told : List (Option ℕ)) (k unit n : ℕ) → is_noted (slice_set told k (Some unit)) n ≡ true → (unit ≡ n) ⊎ (is_noted told n ≡ true)
set_only [] k unit n e = inr e
set_only (x ∷ told) zero unit n e = elim (cases_Bool (is_unit (Some unit) n)) [
  | inl same ↦ inl (eqb-true unit n same)
  | inr other ↦ inr (behind x (rw other at e))
]
  where
    behind : (x : Option ℕ) → is_noted told n ≡ true → is_noted (x ∷ told) n ≡ true
    behind x here = elim (cases_Bool (is_unit x n)) [
      | inl same ↦ rw same refl
      | inr other ↦ rw other here
    ]
set_only (x ∷ told) (suc k) unit n e = elim (cases_Bool (is_unit x n)) [
  | inl same ↦ inr (rw same refl)
  | inr other ↦ rw other (set_only told k unit n (rw other at e))
]

noted_only : (t : Told) (unit n : ℕ) → is_noted (noted t unit).units n ≡ true → (unit ≡ n) ⊎ (is_noted t.units n ≡ true)
noted_only t unit n e = elim (cases_Bool (nat_lt t.next 8)) [
  | inl below ↦ set_only t.units t.next unit n (rw below at e)
  | inr full ↦ inr (rw full at e)
]

abbrev WereTold : List ℕ → Told → Type 0
WereTold before t = (n : ℕ) → is_noted t.units n ≡ true → Holds before n

told_with : (before : List ℕ) (t : Told) (unit : ℕ) → WereTold before t → WereTold (unit ∷ before) (noted t unit)
told_with before t unit were n e = elim (noted_only t unit n e) [
  | inl same ↦ (0, ap (λ (k : ℕ). Some k) same)
  | inr old ↦ let there = were n old in (suc there.0, there.1)
]

leaves_out : (before : List ℕ) (t : Told) (all : List ℕ) → WereTold before t → LeavesOut before all (untold t all)
unfolding untold
leaves_out before t [] were = refl
leaves_out before t (unit ∷ all) were = elim (cases_Bool (is_noted t.units unit)) [
  | inl again ↦ rw again (inl (were unit again, leaves_out before t all were))
  | inr new ↦ rw new (inr (untold (noted t unit) all, refl, leaves_out (unit ∷ before) (noted t unit) all (told_with before t unit were)))
]

none_told : (t : Told) → IsNoneNoted t → WereTold [] t
none_told t none n e = absurd (let f = none n in cc)

once_from : (t : Told) (all : List ℕ) → IsNoneNoted t → LeavesOut [] all (untold t all)
once_from t all none = leaves_out [] t all (none_told t none)

-- ---- where none can be noted

still : (t : Told) (unit : ℕ) → 8 ≤ t.next → noted t unit ≡ t
still t unit full = let f = le-ltb t.next 8 full in rw f refl

all_told : (t : Told) (all : List ℕ) → IsNoneNoted t → 8 ≤ t.next → untold t all ≡ all
unfolding untold
all_told t [] none full = refl
all_told t (unit ∷ all) none full = let f = none unit in rw (f, still t unit full) (ap (λ (l : List ℕ). unit ∷ l) (all_told t all none full))

-- ---- before the first is asked for

-- nobody is noted, and from a place on some can be
abbrev pub nobody : ℕ → Told
nobody next = record { units = None ∷ None ∷ None ∷ None ∷ None ∷ None ∷ None ∷ None ∷ []; next = next }

pub told_all : (a : Announcing) → left_of (nobody 8) a ≡ a
told_all a = ap (λ (l : List ℕ). record { announced = a.announced; address = a.address; left = l; fresh = a.fresh }) (all_told (nobody 8) a.left (λ unit. refl) (omega arith))

pub told_once : (all : OwnedRanges) (addr : ℕ) (a : Announcing) → a ≡ to_tell all addr → IsOnce all addr (left_of (nobody 0) a)
told_once all addr a e = rw e (record { announced = refl; address = refl; fresh = refl; without = once_from (nobody 0) (units_covering all addr) (λ unit. refl) })

-- ---- the next one

untold_again : (t : Told) (units : List ℕ) (unit : ℕ) → Some unit ≡ slice_get units 0 → is_noted t.units unit ≡ true → untold t units ≡ untold t (drop 1 units)
unfolding untold
untold_again t [] unit e again = absurd cc
untold_again t (n ∷ units) unit e again = let same : unit ≡ n = cc in rw (rw same at again) refl

untold_next : (t : Told) (units : List ℕ) (unit : ℕ) → Some unit ≡ slice_get units 0 → is_noted t.units unit ≡ false → untold t units ≡ unit ∷ untold (noted t unit) (drop 1 units)
unfolding untold
untold_next t [] unit e new = absurd cc
untold_next t (n ∷ units) unit e new = let same : unit ≡ n = cc in rw (← same, new) refl

untold_none : (t : Told) (units : List ℕ) → None ≡ slice_get units 0 → untold t units ≡ []
unfolding untold
untold_none t [] e = refl
untold_none t (n ∷ units) e = absurd cc

-- one that is noted is passed over
pub passed : (t : Told) (a b : Announcing) (total : List ℕ) (unit : ℕ) → b ≡ record { announced = a.announced; address = a.address; left = drop 1 a.left; fresh = false } → Some unit ≡ slice_get a.left 0 → true ≡ is_noted t.units unit → untold t a.left ≡ total → untold t b.left ≡ total
passed t a b total unit e is again so_far = ap (λ (x : Announcing). untold t x.left) e ∙ (sym (untold_again t a.left unit is (sym again)) ∙ so_far)

pub not_noted : (t s : Told) (unit : ℕ) → true ≡ is_noted t.units unit → t ≡ s → IsNoneNoted s → ⊥
not_noted t s unit again e none = let f : is_noted t.units unit ≡ false = rw e (none unit) in cc

-- where no unit is left
pub none_first : (t : Told) (units total : List ℕ) → None ≡ slice_get units 0 → untold t units ≡ total → None ≡ slice_get total 0
none_first t units total e is = ap (λ (l : List ℕ). slice_get l 0) (sym (untold_none t units e) ∙ is)

pub none_behind : (t : Told) (units total : List ℕ) → None ≡ slice_get units 0 → untold t units ≡ total → untold t (drop 1 units) ≡ drop 1 total
unfolding untold
none_behind t [] total e is = rw (← is) refl
none_behind t (n ∷ units) total e is = absurd cc

-- one that is told
pub unit_first : (t : Told) (units total : List ℕ) (unit : ℕ) → Some unit ≡ slice_get units 0 → false ≡ is_noted t.units unit → untold t units ≡ total → Some unit ≡ slice_get total 0
unit_first t units total unit e new is = ap (λ (l : List ℕ). slice_get l 0) (sym (untold_next t units unit e (sym new)) ∙ is)

pub unit_behind : (t : Told) (units total : List ℕ) (unit : ℕ) → Some unit ≡ slice_get units 0 → false ≡ is_noted t.units unit → untold t units ≡ total → untold (noted t unit) (drop 1 units) ≡ drop 1 total
unit_behind t units total unit e new is = ap (λ (l : List ℕ). drop 1 l) (sym (untold_next t units unit e (sym new)) ∙ is)

-- what is left behind a call
pub seen_after : (t s : Told) (a b first : Announcing) → b ≡ record { announced = a.announced; address = a.address; left = drop 1 a.left; fresh = false } → a.announced ≡ first.announced → a.address ≡ first.address → untold t (drop 1 a.left) ≡ drop 1 (untold s first.left) → left_of t b ≡ record { announced = first.announced; address = first.address; left = drop 1 (untold s first.left); fresh = false }
seen_after t s a b first e p q r = ap (λ (x : Announcing). left_of t x) e ∙ λ i. record { announced = p i; address = q i; left = r i; fresh = false }
