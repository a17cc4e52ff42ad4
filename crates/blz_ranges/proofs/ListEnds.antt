-- Lists with one item more at their end.
use Rattle.std.proofs.Common.{◌≡◌, ℕ, zero, suc, List, [], ◌∷◌, ◌++◌, length, take, Some, refl, ap, inl, inr, ◌⊎◌}
use Rattle.std.specs.List.{slice_get}

pub in_front : {A : Type 0} (xs ys : List A) (i : ℕ) (x : A) → slice_get xs i ≡ Some x → slice_get (xs ++ ys) i ≡ Some x
in_front [] ys i x h = absurd cc
in_front (z ∷ xs) ys zero x h = h
in_front (z ∷ xs) ys (suc i) x h = in_front xs ys i x h

pub in_take : {A : Type 0} (xs : List A) (n i : ℕ) (x : A) → slice_get (take n xs) i ≡ Some x → slice_get xs i ≡ Some x
in_take [] zero i x h = absurd cc
in_take [] (suc n) i x h = absurd cc
in_take (z ∷ xs) zero i x h = absurd cc
in_take (z ∷ xs) (suc n) zero x h = h
in_take (z ∷ xs) (suc n) (suc i) x h = in_take xs n i x h

pub at_end : {A : Type 0} (xs : List A) (x : A) → slice_get (xs ++ x ∷ []) (length xs) ≡ Some x
at_end [] x = refl
at_end (z ∷ xs) x = at_end xs x

pub before_end : {A : Type 0} (xs : List A) (x : A) → take (length xs) (xs ++ x ∷ []) ≡ xs
before_end [] x = refl
before_end {A = A} (z ∷ xs) x = ap (λ (l : List A). z ∷ l) (before_end xs x)

-- the last one, or one before it
pub last_or : {A : Type 0} (xs : List A) (x : A) (i : ℕ) (y : A) → slice_get (xs ++ x ∷ []) i ≡ Some y → (slice_get xs i ≡ Some y) ⊎ ((i ≡ length xs) × (x ≡ y))
last_or [] x zero y h = let e : x ≡ y = cc in inr (refl, e)
last_or [] x (suc i) y h = absurd cc
last_or (z ∷ xs) x zero y h = inl h
last_or (z ∷ xs) x (suc i) y h = elim (last_or xs x i y h) [ inl p ↦ inl p | inr p ↦ inr (ap suc p.0, p.1) ]
