-- Units that stand one behind the other, and the last that does not begin above an offset.
use Rattle.std.proofs.Common.{◌≡◌, ℕ, zero, suc, ◌+◌, ◌-◌, ◌≤◌, ◌<◌, true, false, leb, List, [], ◌∷◌, ◌++◌, length, get_or, Option, Some, None, refl, sym, ap, subst, ◌∙◌, arith, inl, inr, ◌⊎◌}
use Rattle.std.specs.List.{slice_get}
use Rattle.std.specs.List.Sorted.{IsPartitionPoint}
use Rattle.std.specs.Prelude.{IfSome, if◌then◌else◌, nat_le}
use Rattle.std.proofs.lemmas.Bool.{cases_Bool}
use Rattle.std.proofs.lemmas.List.{append-nil}
use Rattle.std.proofs.lemmas.List.Sorted.{IsNonDecreasingBy-push, IsNonDecreasingBy-short}
use Rattle.std.proofs.lemmas.Option.{slice_get-get_or}
use Rattle.blz_info.specs.declared.units.UnitHeader.{UnitHeader}
use Rattle.blz_functions.specs.References.{later, last_to, distance_in, unit_at}
use Rattle.blz_units.specs.UnitLists.{IsInPlace, EndBefore, AreUnits}
use Rattle.blz_units.specs.UnitTables.{is_type, no_types}

pub no_units : AreUnits []
no_units = record { in_place = λ i h is. absurd cc; rises = IsNonDecreasingBy-short (λ (h : UnitHeader). h.start) [] (omega arith) }

pub in_place_at : (units : List UnitHeader) (i : ℕ) (o : Option UnitHeader) → AreUnits units → slice_get units i ≡ o → IfSome o IsInPlace
in_place_at units i None are e = tt
in_place_at units i (Some h) are e = are.in_place i h e

appended_at : (units : List UnitHeader) (y : UnitHeader) (i : ℕ) (h : UnitHeader) → slice_get (units ++ y ∷ []) i ≡ Some h → (slice_get units i ≡ Some h) ⊎ (y ≡ h)
appended_at [] y zero h is = inr cc
appended_at [] y (suc i) h is = absurd cc
appended_at (x ∷ units) y zero h is = inl is
appended_at (x ∷ units) y (suc i) h is = appended_at units y i h is

pub in_place_more : (units : List UnitHeader) (y : UnitHeader) → AreUnits units → EndBefore units y.start → IsInPlace y → AreUnits (units ++ y ∷ [])
in_place_more units y are ends y_in = record {
  in_place = λ i h is. elim (appended_at units y i h is) [ inl e ↦ are.in_place i h e | inr e ↦ subst IsInPlace e y_in ];
  rises = IsNonDecreasingBy-push (λ (h : UnitHeader). h.start) units y are.rises (λ d some.
      let at = slice_get-get_or units (length units - 1) d (omega arith) in
      let place = are.in_place (length units - 1) (get_or units (length units - 1) d) at in
      let below = ends (length units - 1) (get_or units (length units - 1) d) at in
      let a = place.behind in
      let b = place.ordered in
      omega arith);
}

pub end_more : (units : List UnitHeader) (y : UnitHeader) (place : ℕ) → EndBefore units place → place ≤ y.start → IsInPlace y → EndBefore (units ++ y ∷ []) y.end
end_more units y place ends le y_in = λ i h is.
    elim (appended_at units y i h is) [
      | inl e ↦ let k = ends i h e in let a = y_in.behind in let b = y_in.ordered in omega arith
      | inr e ↦ let k = ap (λ (x : UnitHeader). x.end) e in omega arith
    ]

pub end_later : (units : List UnitHeader) (place later : ℕ) → EndBefore units place → place ≤ later → EndBefore units later
end_later units place later ends le = λ i h is. let k = ends i h is in omega arith

pub end_typed : (units : List UnitHeader) (y : UnitHeader) (place : ℕ) → EndBefore units place → place ≤ y.start → IsInPlace y → EndBefore (units ++ no_types (y ∷ [])) y.end
end_typed units y place ends le y_in = elim (cases_Bool (is_type y.kind)) [
  | inl t ↦ let a = y_in.behind in let b = y_in.ordered in let p : place ≤ y.end = omega arith in rw (t, append-nil units) (end_later units place y.end ends p)
  | inr f ↦ rw f (end_more units y place ends le y_in)
]

-- ---- the last unit

abbrev pub PartsAt : List UnitHeader → ℕ → ℕ → Type 0
PartsAt units offset count = IsPartitionPoint (λ (h : UnitHeader). leb h.start offset ≡ true) (λ (h : UnitHeader). leb h.start offset ≡ false) units count

behind : (h : UnitHeader) (rest : List UnitHeader) (offset count : ℕ) → PartsAt (h ∷ rest) offset (suc count) → PartsAt rest offset count
behind h rest offset count p = (λ k d le lt. p.0 (suc k) d (omega arith) (omega arith), λ k d le lt. p.1 (suc k) d (omega arith) (omega arith))

all_behind : (h : UnitHeader) (rest : List UnitHeader) (offset : ℕ) → PartsAt (h ∷ rest) offset 0 → PartsAt rest offset 0
all_behind h rest offset p = (λ k d le lt. absurd (omega arith), λ k d le lt. p.1 (suc k) d (omega arith) (omega arith))

none_of : (n : ℕ) (h : UnitHeader) (offset : ℕ) (o : Option (ℕ × UnitHeader)) → o ≡ None → leb h.start offset ≡ false → later (if nat_le h.start offset then Some (n, h) else None) o ≡ None
none_of n h offset o e f = rw (e, f) refl

this_of : (n m : ℕ) (h : UnitHeader) (offset : ℕ) (o : Option (ℕ × UnitHeader)) → o ≡ None → leb h.start offset ≡ true → n ≡ m → later (if nat_le h.start offset then Some (n, h) else None) o ≡ Some (m, h)
this_of n m h offset o e t same = rw (e, t, same) refl

that_of : (first o : Option (ℕ × UnitHeader)) (u : ℕ × UnitHeader) → o ≡ Some u → later first o ≡ Some u
that_of first o u e = rw e refl

last_none : (n : ℕ) (units : List UnitHeader) (offset : ℕ) → PartsAt units offset 0 → last_to n units offset ≡ None
unfolding last_to
last_none n [] offset p = refl
last_none n (h ∷ rest) offset p = none_of n h offset (last_to (n + 1) rest offset) (last_none (n + 1) rest offset (all_behind h rest offset p)) (p.1 0 h (omega arith) (omega arith))

last_some : (n : ℕ) (units : List UnitHeader) (offset i : ℕ) (d : UnitHeader) → i < length units → PartsAt units offset (suc i) → last_to n units offset ≡ Some (n + i, get_or units i d)
unfolding last_to
last_some n [] offset i d lt p = absurd (omega arith)
last_some n (h ∷ rest) offset zero d lt p = this_of n (n + 0) h offset (last_to (n + 1) rest offset) (last_none (n + 1) rest offset (behind h rest offset 0 p)) (p.0 0 h (omega arith) (omega arith)) (omega arith)
last_some n (h ∷ rest) offset (suc i) d lt p =
    let k : n + 1 + i ≡ n + suc i = omega arith in
    that_of (if nat_le h.start offset then Some (n, h) else None) (last_to (n + 1) rest offset) (n + suc i, get_or rest i d) (last_some (n + 1) rest offset i d (omega arith) (behind h rest offset (suc i) p) ∙ ap (λ (m : ℕ). Some (m, get_or rest i d)) k)

pub found_none : (units : List UnitHeader) (offset count : ℕ) → count ≡ 0 → PartsAt units offset count → None ≡ unit_at units offset
found_none units offset count e p = sym (ap (λ o. distance_in offset o) (last_none 0 units offset (subst (λ (n : ℕ). PartsAt units offset n) e p)))

pub found_some : (units : List UnitHeader) (offset count : ℕ) (d : UnitHeader) → (count ≡ 0 → ⊥) → count ≤ length units → PartsAt units offset count → distance_in offset (Some (count - 1, get_or units (count - 1) d)) ≡ unit_at units offset
found_some units offset count d some le p =
    let e : count ≡ suc (count - 1) = omega (arith, some) in
    let z : 0 + (count - 1) ≡ count - 1 = omega arith in
    sym (ap (λ o. distance_in offset o) (last_some 0 units offset (count - 1) d (omega (arith, some)) (subst (λ (n : ℕ). PartsAt units offset n) e p) ∙ ap (λ (m : ℕ). Some (m, get_or units (count - 1) d)) z))
