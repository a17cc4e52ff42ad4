-- n different numbers below n are all of them.
use Rattle.std.proofs.Common.{◌≡◌, ℕ, zero, suc, ◌+◌, ◌<◌, ◌≤◌, cond, eqb, List, [], ◌∷◌, length, Some, refl, ap, arith, inl, inr, ◌∙◌}
use Rattle.std.specs.List.{slice_get, count_by}
use Rattle.std.proofs.lemmas.Bool.{cases_lt, cases_eq, eq-eqb, ne_eqb}
use Rattle.std.proofs.lemmas.List.Sums.{sum_by-cons}
use Rattle.blz_bytes.specs.Rising.{StandsAt}

count : ℕ → List ℕ → ℕ
count p xs = count_by (λ q. eqb q p) xs

-- how often the numbers below n stand in a list
total : ℕ → List ℕ → ℕ
total zero xs = 0
total (suc n) xs = count n xs + total n xs

one : ℕ → ℕ → ℕ
one n x = cond (eqb x n) 1 0

ones : ℕ → ℕ → ℕ
ones zero x = 0
ones (suc n) x = one n x + ones n x

ones_above : (n x : ℕ) → n ≤ x → ones n x ≡ 0
unfolding ones one
ones_above zero x le = refl
ones_above (suc n) x le = let e = ne_eqb x n (λ q. omega arith) in rw (e) (let h : ones n x ≡ 0 = ones_above n x (omega arith) in omega arith)

ones_is : (n x : ℕ) → x < n → ones n x ≡ 1
unfolding ones one
ones_is zero x lt = absurd (omega arith)
ones_is (suc n) x lt =
    elim (cases_eq x n) [
      | inl q ↦ let e = eq-eqb x n q in let h : ones n x ≡ 0 = ones_above n x (omega arith) in rw e (omega arith)
      | inr ne ↦ let e = ne_eqb x n ne in let below : x < n = elim (cases_lt x n) [ inl l ↦ l | inr g ↦ absurd (ne (omega arith)) ] in let h : ones n x ≡ 1 = ones_is n x below in rw e (omega arith)
    ]

count_cons : (n x : ℕ) (xs : List ℕ) → count n (x ∷ xs) ≡ one n x + count n xs
unfolding count one
count_cons n x xs = sum_by-cons (λ q. cond (eqb q n) 1 0) x xs

total_cons : (n x : ℕ) (xs : List ℕ) → total n (x ∷ xs) ≡ ones n x + total n xs
unfolding total ones
total_cons zero x xs = omega arith
total_cons (suc n) x xs = let h = total_cons n x xs in let k = count_cons n x xs in omega arith

count_nil : (n : ℕ) → count n [] ≡ 0
unfolding count
count_nil n = refl

total_nil : (n : ℕ) → total n [] ≡ 0
unfolding total count
total_nil zero = refl
total_nil (suc n) = let h = total_nil n in omega arith

total_is : (n : ℕ) (xs : List ℕ) → ((i x : ℕ) → slice_get xs i ≡ Some x → x < n) → total n xs ≡ length xs
total_is n [] h = total_nil n
total_is n (x ∷ xs) h =
    let e = total_cons n x xs in
    let o = ones_is n x (h 0 x refl) in
    let r = total_is n xs (λ i y is. h (suc i) y is) in
    omega arith

total_le : (n : ℕ) (xs : List ℕ) → ((p : ℕ) → count p xs ≤ 1) → total n xs ≤ n
unfolding total
total_le zero xs h = omega arith
total_le (suc n) xs h = let r = total_le n xs h in let k = h n in omega arith

each_once : (n p : ℕ) (xs : List ℕ) → ((p : ℕ) → count p xs ≤ 1) → total n xs ≡ n → p < n → count p xs ≡ 1
unfolding total
each_once zero p xs h e lt = absurd (omega arith)
each_once (suc n) p xs h e lt =
    let r = total_le n xs h in
    let k = h n in
    elim (cases_eq p n) [
      | inl q ↦ rw q (omega arith)
      | inr ne ↦ each_once n p xs h (omega arith) (elim (cases_lt p n) [ inl l ↦ l | inr g ↦ absurd (ne (omega arith)) ])
    ]

-- a number that is counted stands somewhere
stands_where : (p : ℕ) (xs : List ℕ) → 0 < count p xs → StandsAt xs p
unfolding count one
stands_where p [] h = absurd (omega arith)
stands_where p (x ∷ xs) h =
    elim (cases_eq x p) [
      | inl q ↦ record { at = 0; is = ap (λ (y : ℕ). Some y) q }
      | inr ne ↦
          let e = ne_eqb x p ne in
          let c = count_cons p x xs in
          let z : one p x ≡ 0 = rw e refl in
          let r = stands_where p xs (omega arith) in
          record { at = suc r.at; is = r.is }
    ]

absent : (p : ℕ) (xs : List ℕ) → ((i : ℕ) → slice_get xs i ≡ Some p → ⊥) → count p xs ≡ 0
absent p xs h = elim (cases_lt 0 (count p xs)) [ inl l ↦ let s = stands_where p xs l in absurd (h s.at s.is) | inr g ↦ omega arith ]

at_most_once : (p : ℕ) (xs : List ℕ) → ((i j x y : ℕ) → i < j → slice_get xs i ≡ Some x → slice_get xs j ≡ Some y → x ≡ y → ⊥) → count p xs ≤ 1
unfolding one
at_most_once p [] h = let z = count_nil p in omega arith
at_most_once p (x ∷ xs) h =
    let c = count_cons p x xs in
    let r = at_most_once p xs (λ i j y z lt isy isz. h (suc i) (suc j) y z (omega arith) isy isz) in
    elim (cases_eq x p) [
      | inl q ↦ let e = eq-eqb x p q in let o : one p x ≡ 1 = rw e refl in let a = absent p xs (λ i is. h 0 (suc i) x p (omega arith) refl is q) in omega arith
      | inr ne ↦ let e = ne_eqb x p ne in let o : one p x ≡ 0 = rw e refl in omega arith
    ]

-- Numbers below n, no two equal, as many as n: each stands there once.
pub all_once : (n : ℕ) (xs : List ℕ) → length xs ≡ n → ((i x : ℕ) → slice_get xs i ≡ Some x → x < n) → ((i j x y : ℕ) → i < j → slice_get xs i ≡ Some x → slice_get xs j ≡ Some y → x ≡ y → ⊥)
    → (p : ℕ) → p < n → count_by (λ q. eqb q p) xs ≡ 1
unfolding count
all_once n xs len within differ p lt = each_once n p xs (λ q. at_most_once q xs differ) (total_is n xs within ∙ len) lt

pub all_stand : (n : ℕ) (xs : List ℕ) → ((p : ℕ) → p < n → count_by (λ q. eqb q p) xs ≡ 1) → (p : ℕ) → p < n → StandsAt xs p
unfolding count
all_stand n xs once p lt = let o = once p lt in stands_where p xs (omega arith)
