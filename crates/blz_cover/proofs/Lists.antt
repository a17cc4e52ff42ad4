-- Items of lists by their index.
use Rattle.std.proofs.Common.{◌≡◌, ◌≢◌, ℕ, ◌+◌, ◌<◌, ◌≤◌, zero, suc, Bool, true, false, cond, ◌||◌, List, [], ◌∷◌, ◌++◌, length, slice_get, refl, ap, ◌∙◌, Some, not, ◌⊎◌, inl, inr, arith}
use Rattle.std.proofs.lemmas.Bool.{cases_lt}
use Rattle.std.proofs.lemmas.Map.Keys.{apart_from_distinct}
use Rattle.std.proofs.lemmas.Option.{get_or_from_slice_get, slice_get_within}
use Rattle.std.specs.List.{list_any, position_or_len, IsDistinct}

-- an item stays where it is
pub slice_get-append : {X : Type 0} (xs ys : List X) (k : ℕ) (x : X) → slice_get xs k ≡ Some x → slice_get (xs ++ ys) k ≡ Some x
slice_get-append [] ys k x at = cc
slice_get-append (y ∷ xs) ys zero x at = at
slice_get-append (y ∷ xs) ys (suc k) x at = slice_get-append xs ys k x at

pub slice_get-last : {X : Type 0} (xs : List X) (x : X) → slice_get (xs ++ x ∷ []) (length xs) ≡ Some x
slice_get-last [] x = refl
slice_get-last (y ∷ xs) x = slice_get-last xs x

-- an item of a list with one more is an old one, or the last
pub slice_get-push : {X : Type 0} (xs : List X) (y : X) (k : ℕ) (x : X) → slice_get (xs ++ y ∷ []) k ≡ Some x → (slice_get xs k ≡ Some x) ⊎ ((k ≡ length xs) × (x ≡ y))
slice_get-push [] y zero x at = inr (refl, cc)
slice_get-push [] y (suc k) x at = cc
slice_get-push (z ∷ xs) y zero x at = inl at
slice_get-push (z ∷ xs) y (suc k) x at = later (slice_get-push xs y k x at)
  where
    later : (slice_get xs k ≡ Some x) ⊎ ((k ≡ length xs) × (x ≡ y)) → (slice_get xs k ≡ Some x) ⊎ ((suc k ≡ suc (length xs)) × (x ≡ y))
    later (inl h) = inl h
    later (inr h) = inr (ap suc h.0, h.1)

-- the first item that passes a test
pub slice_get-first : {X : Type 0} (p : X → Bool) (xs : List X) → list_any p xs ≡ true → (x : X) × (slice_get xs (position_or_len p xs) ≡ Some x) × (p x ≡ true)
slice_get-first p [] any = cc
slice_get-first {X = X} p (x ∷ xs) any = by (p x) refl any (slice_get-first p xs)
  where
    by : (b : Bool) → p x ≡ b → (b || list_any p xs) ≡ true → (list_any p xs ≡ true → (y : X) × (slice_get xs (position_or_len p xs) ≡ Some y) × (p y ≡ true))
        → (y : X) × (slice_get (x ∷ xs) (cond (not b) (1 + position_or_len p xs) 0) ≡ Some y) × (p y ≡ true)
    by true is any rest = (x, refl, is)
    by false is any rest =
        let h = rest any in
        let e : 1 + position_or_len p xs ≡ suc (position_or_len p xs) = omega arith in
        (h.0, rw e h.1, h.2)

pub position_or_len-none : {X : Type 0} (p : X → Bool) (xs : List X) → list_any p xs ≡ false → position_or_len p xs ≡ length xs
position_or_len-none p [] none = refl
position_or_len-none p (x ∷ xs) none = by (p x) none (position_or_len-none p xs)
  where
    by : (b : Bool) → (b || list_any p xs) ≡ false → (list_any p xs ≡ false → position_or_len p xs ≡ length xs) → cond (not b) (1 + position_or_len p xs) 0 ≡ suc (length xs)
    by true none rest = cc
    by false none rest = omega (arith, rest none)

-- an item does not pass a test that none passes
pub fails_at : {X : Type 0} (p : X → Bool) (xs : List X) (k : ℕ) (x : X) → list_any p xs ≡ false → slice_get xs k ≡ Some x → p x ≡ false
fails_at p [] k x none at = cc
fails_at p (y ∷ xs) k x none at = by (p y) refl none k at (λ i. fails_at p xs i x)
  where
    by : (b : Bool) → p y ≡ b → (b || list_any p xs) ≡ false → (k : ℕ) → slice_get (y ∷ xs) k ≡ Some x → ((i : ℕ) → list_any p xs ≡ false → slice_get xs i ≡ Some x → p x ≡ false) → p x ≡ false
    by true is none k at rest = cc
    by false is none zero at rest = let same : y ≡ x = cc in rw (← same) is
    by false is none (suc k) at rest = rest k none at

-- of two lists with the same answers both have an item that passes or neither, and their first ones stand at one place
tests_alike : {X Y : Type 0} (p : X → Bool) (q : Y → Bool) (xs : List X) (ys : List Y) → length xs ≡ length ys
    → ((k : ℕ) (x : X) (y : Y) → slice_get xs k ≡ Some x → slice_get ys k ≡ Some y → p x ≡ q y)
    → (list_any p xs ≡ list_any q ys) × (position_or_len p xs ≡ position_or_len q ys)
tests_alike p q [] [] same each = (refl, refl)
tests_alike p q [] (y ∷ ys) same each = absurd (omega arith)
tests_alike p q (x ∷ xs) [] same each = absurd (omega arith)
tests_alike p q (x ∷ xs) (y ∷ ys) same each =
    let rest = tests_alike p q xs ys (omega arith) (λ k. each (suc k)) in
    let first = each zero x y refl refl in
    (rw (first, rest.0) refl, rw (first, rest.1) refl)

pub list_any-alike : {X Y : Type 0} (p : X → Bool) (q : Y → Bool) (xs : List X) (ys : List Y) → length xs ≡ length ys
    → ((k : ℕ) (x : X) (y : Y) → slice_get xs k ≡ Some x → slice_get ys k ≡ Some y → p x ≡ q y) → list_any p xs ≡ list_any q ys
list_any-alike p q xs ys same each = (tests_alike p q xs ys same each).0

pub position_or_len-alike : {X Y : Type 0} (p : X → Bool) (q : Y → Bool) (xs : List X) (ys : List Y) → length xs ≡ length ys
    → ((k : ℕ) (x : X) (y : Y) → slice_get xs k ≡ Some x → slice_get ys k ≡ Some y → p x ≡ q y) → position_or_len p xs ≡ position_or_len q ys
position_or_len-alike p q xs ys same each = (tests_alike p q xs ys same each).1

-- distinct items are apart
apart_in_order : {X : Type 0} (e : X → X → Bool) (xs : List X) (j k : ℕ) (x y : X) → IsDistinct e xs → slice_get xs j ≡ Some x → slice_get xs k ≡ Some y → j < k → e x y ≡ false
apart_in_order e xs j k x y differ at_j at_k before =
    let h = apart_from_distinct e xs j k x differ before (slice_get_within xs k y at_k) in
    rw (get_or_from_slice_get xs j x x at_j, get_or_from_slice_get xs k y x at_k) at h

pub apart_at : {X : Type 0} (e : X → X → Bool) (xs : List X) (j k : ℕ) (x y : X) → IsDistinct e xs → ((a b : X) → e a b ≡ e b a) → slice_get xs j ≡ Some x → slice_get xs k ≡ Some y → j ≢ k → e x y ≡ false
apart_at e xs j k x y differ turns at_j at_k apart = by (cases_lt j k) (cases_lt k j)
  where
    by : (j < k) ⊎ (k ≤ j) → (k < j) ⊎ (j ≤ k) → e x y ≡ false
    by (inl before) o = apart_in_order e xs j k x y differ at_j at_k before
    by (inr h) (inl after) = turns x y ∙ apart_in_order e xs k j y x differ at_k at_j after
    by (inr h) (inr g) = absurd (apart (omega arith))
