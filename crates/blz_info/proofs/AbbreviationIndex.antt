-- One more abbreviation keeps the table indexed.
use Rattle.std.proofs.Common.{◌≡◌, ◌≢◌, ℕ, zero, suc, ◌+◌, ◌-◌, ◌≤◌, ◌<◌, false, eqb, ltb, leb, List, [], ◌∷◌, ◌++◌, length, take, Option, Some, None, refl, sym, subst, ◌∙◌, arith, inl, inr}
use Rattle.std.specs.Prelude.{slice_get, option_and_then}
use Rattle.std.specs.Option.{option_or}
use Rattle.std.specs.Ordering.{nat_cmp, is_eq}
use Rattle.std.specs.BTreeMap.{BTreeMap, get, Updates}
use Rattle.std.proofs.lemmas.Bool.{cases_Bool, cases_eq, eq-eqb, ne_eqb, ltb-true, ltb-false, leb-true, leb-false, lt-ltb, le-leb, lt-leb}
use Rattle.std.proofs.lemmas.List.Folds.{find-append}
use Rattle.std.proofs.lemmas.List.{length-append}
use Rattle.std.proofs.lemmas.Option.{slice_get_within}
use Rattle.std.proofs.lemmas.Grind.{common_steps}
use Rattle.std.proofs.Math.Seq.{take-append_seam}
use Rattle.blz_info.specs.Abbrevs.{Abbrev, of_code, looked_up, IsIndexed}

pub slice_get-append : {A : Type 0} (xs ys : List A) (i : ℕ) → i < length xs → slice_get (xs ++ ys) i ≡ slice_get xs i
slice_get-append [] ys i lt = absurd (omega arith)
slice_get-append (x ∷ xs) ys zero lt = refl
slice_get-append (x ∷ xs) ys (suc i) lt = slice_get-append xs ys i (omega arith)

pub slice_get-append_seam : {A : Type 0} (xs : List A) (y : A) → slice_get (xs ++ y ∷ []) (length xs) ≡ Some y
slice_get-append_seam [] y = refl
slice_get-append_seam (x ∷ xs) y = slice_get-append_seam xs y

is_eq-apart : (x y : ℕ) → x ≢ y → is_eq (nat_cmp x y) ≡ false
is_eq-apart x y ne = grind (arith, common_steps)

-- what was found stays found
stays : (table : List Abbrev) (a x : Abbrev) (code : ℕ) → of_code code table ≡ Some x → of_code code (table ++ a ∷ []) ≡ Some x
stays table a x code e = find-append (λ (b : Abbrev). eqb b.code code) table (a ∷ []) ∙ rw e refl

-- the new one is found by its code
arrives : (table : List Abbrev) (a : Abbrev) → of_code a.code table ≡ None → of_code a.code (table ++ a ∷ []) ≡ Some a
arrives table a e = let same = eq-eqb a.code a.code refl in find-append (λ (b : Abbrev). eqb b.code a.code) table (a ∷ []) ∙ rw (e, same) refl

-- and by no other
others_stay : (table : List Abbrev) (a : Abbrev) (code : ℕ) → a.code ≢ code → of_code code (table ++ a ∷ []) ≡ of_code code table
others_stay table a code ne =
    let apart = ne_eqb a.code code ne in
    find-append (λ (b : Abbrev). eqb b.code code) table (a ∷ []) ∙ rw apart (or_none (of_code code table))
  where
    or_none : (o : Option Abbrev) → option_or o None ≡ o
    or_none None = refl
    or_none (Some x) = refl

-- a code of the front is there, at its place
at_front : (ordered code : ℕ) (others : BTreeMap ℕ ℕ) (table : List Abbrev) → IsIndexed ordered others table → 0 < code → code ≤ ordered → (x : Abbrev) × (of_code code table ≡ Some x) × (slice_get table (code - 1) ≡ Some x)
at_front ordered code others table i above below =
    let lt : code - 1 < length table = omega (arith, i.front) in
    let p = inside_is table (code - 1) lt in
    let a = lt-ltb 0 code above in
    let b = le-leb code ordered below in
    let f = i.found code in
    (p.0, rw (f, a, b) p.1, p.1)
  where
    inside_is : (xs : List Abbrev) (k : ℕ) → k < length xs → (x : Abbrev) × (slice_get xs k ≡ Some x)
    inside_is [] k lt = absurd (omega arith)
    inside_is (x ∷ xs) zero lt = (x, refl)
    inside_is (x ∷ xs) (suc k) lt = inside_is xs k (omega arith)

-- what a place gives stays
looked_stays : (table : List Abbrev) (a : Abbrev) (o : Option ℕ) → ((k : ℕ) → o ≡ Some k → k < length table) → option_and_then (λ place. slice_get (table ++ a ∷ []) place) o ≡ option_and_then (λ place. slice_get table place) o
looked_stays table a None h = refl
looked_stays table a (Some k) h = slice_get-append table (a ∷ []) k (h k refl)

-- a code that is not of the front
beyond : (table : List Abbrev) (a : Abbrev) (ordered code : ℕ) (others n : BTreeMap ℕ ℕ) → IsIndexed ordered others table → of_code a.code table ≡ None → Updates nat_cmp others n a.code (Some (length table)) → of_code code table ≡ option_and_then (λ place. slice_get table place) (get nat_cmp others code) → of_code code (table ++ a ∷ []) ≡ option_and_then (λ place. slice_get (table ++ a ∷ []) place) (get nat_cmp n code)
beyond table a ordered code others n i new u found =
    elim (cases_eq a.code code) [
      | inl e ↦ let P : ℕ → Type 0 = λ k. of_code k (table ++ a ∷ []) ≡ option_and_then (λ place. slice_get (table ++ a ∷ []) place) (get nat_cmp n k) in subst P e (arrives table a new ∙ rw u.1 (sym (slice_get-append_seam table a)))
      | inr ne ↦
          let apart : is_eq (nat_cmp a.code code) ≡ false = is_eq-apart a.code code ne in
          let same = u.2 code apart in
          others_stay table a code ne ∙ found ∙ rw same (sym (looked_stays table a (get nat_cmp others code) (λ k e. i.inside code k e)))
    ]

-- behind the map
pub map_more : (table : List Abbrev) (a : Abbrev) (ordered : ℕ) (others n : BTreeMap ℕ ℕ) → IsIndexed ordered others table → of_code a.code table ≡ None → Updates nat_cmp others n a.code (Some (length table)) → IsIndexed ordered n (table ++ a ∷ [])
map_more table a ordered others n i new u = record {
  front = omega (arith, i.front, length-append table (a ∷ []));
  inside = λ code place e. inside_more code place e;
  found = λ code. found_more code;
}
  where
    inside_more : (code place : ℕ) → get nat_cmp n code ≡ Some place → place < length (table ++ a ∷ [])
    inside_more code place e = elim (cases_eq a.code code) [
      | inl same ↦ let P : ℕ → Type 0 = λ k. get nat_cmp n k ≡ Some (length table) in let here = subst P same u.1 in let k : place ≡ length table = cc in omega (arith, k, length-append table (a ∷ []))
      | inr ne ↦ let apart : is_eq (nat_cmp a.code code) ≡ false = is_eq-apart a.code code ne in let lt = i.inside code place (sym (u.2 code apart) ∙ e) in omega (arith, lt, length-append table (a ∷ []))
    ]

    found_more : (code : ℕ) → of_code code (table ++ a ∷ []) ≡ looked_up ordered n (table ++ a ∷ []) code
    found_more code = elim (cases_Bool (ltb 0 code)) [
      | inl above ↦ elim (cases_Bool (leb code ordered)) [
        | inl below ↦
            let f = at_front ordered code others table i (ltb-true _ _ above) (leb-true _ _ below) in
            rw (above, below) (stays table a f.0 code f.1 ∙ sym (slice_get-append table (a ∷ []) (code - 1) (slice_get_within table (code - 1) f.0 f.2) ∙ f.2))
        | inr beyond_front ↦ rw (above, beyond_front) (beyond table a ordered code others n i new u (i.found code ∙ rw (above, beyond_front) refl))
      ]
      | inr none ↦ rw none (beyond table a ordered code others n i new u (i.found code ∙ rw none refl))
    ]

-- at the end of the front
pub front_more : (table : List Abbrev) (a : Abbrev) (ordered : ℕ) (others : BTreeMap ℕ ℕ) → IsIndexed ordered others table → of_code a.code table ≡ None → ordered ≡ length table → a.code ≡ length table + 1 → IsIndexed (length table + 1) others (table ++ a ∷ [])
front_more table a ordered others i new all next = record {
  front = omega (arith, length-append table (a ∷ []));
  inside = λ code place e. let lt = i.inside code place e in omega (arith, lt, length-append table (a ∷ []));
  found = λ code. found_more code;
}
  where
    kept : (code : ℕ) → of_code code table ≡ option_and_then (λ place. slice_get table place) (get nat_cmp others code) → a.code ≢ code → of_code code (table ++ a ∷ []) ≡ option_and_then (λ place. slice_get (table ++ a ∷ []) place) (get nat_cmp others code)
    kept code found ne = others_stay table a code ne ∙ found ∙ sym (looked_stays table a (get nat_cmp others code) (λ k e. i.inside code k e))

    found_more : (code : ℕ) → of_code code (table ++ a ∷ []) ≡ looked_up (length table + 1) others (table ++ a ∷ []) code
    found_more code = elim (cases_Bool (ltb 0 code)) [
      | inl above ↦ elim (cases_Bool (leb code (length table + 1))) [
        | inl below ↦ elim (cases_eq a.code code) [
          | inl e ↦
              let P : ℕ → Type 0 = λ k. of_code k (table ++ a ∷ []) ≡ slice_get (table ++ a ∷ []) (k - 1) in
              let k : a.code - 1 ≡ length table = omega arith in
              rw (above, below) (subst P e (arrives table a new ∙ rw k (sym (slice_get-append_seam table a))))
          | inr ne ↦
              let in_front : code ≤ ordered = omega (arith, leb-true _ _ below) in
              let f = at_front ordered code others table i (ltb-true _ _ above) in_front in
              rw (above, below) (stays table a f.0 code f.1 ∙ sym (slice_get-append table (a ∷ []) (code - 1) (slice_get_within table (code - 1) f.0 f.2) ∙ f.2))
        ]
        | inr beyond_front ↦
            let past = leb-false _ _ beyond_front in
            let also : leb code ordered ≡ false = lt-leb code ordered (omega (arith, past)) in
            let ne : a.code ≢ code = omega (arith, past) in
            rw (above, beyond_front) (kept code (i.found code ∙ rw (above, also) refl) ne)
      ]
      | inr none ↦
          let is_zero = ltb-false _ _ none in
          let ne : a.code ≢ code = omega (arith, is_zero) in
          rw none (kept code (i.found code ∙ rw none refl) ne)
    ]

-- a map with the same entries finds the same
pub index_stays : (table : List Abbrev) (ordered : ℕ) (others n : BTreeMap ℕ ℕ) → IsIndexed ordered others table → n.entries ≡ others.entries → IsIndexed ordered n table
index_stays table ordered others n i same = record {
  front = i.front;
  inside = λ code place e. i.inside code place (rw same at e);
  found = λ code. i.found code ∙ rw same refl;
}

-- an element that was pushed and taken back
pub take_back : (table : List Abbrev) (a : Abbrev) (n : ℕ) → n ≡ length table + 1 → take (n - 1) (table ++ a ∷ []) ≡ table
take_back table a n h = let k : n - 1 ≡ length table = omega arith in rw k (take-append_seam table (a ∷ []))
