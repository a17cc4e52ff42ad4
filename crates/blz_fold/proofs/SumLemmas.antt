-- Sums over lists.
use Rattle.std.proofs.Common.{◌≡◌, ℕ, ◌+◌, List, [], ◌∷◌, map, refl, ap, arith}
use Rattle.std.specs.List.{sum_by}
use Rattle.std.proofs.lemmas.List.Folds.{fold-map}
use Rattle.std.proofs.lemmas.List.Sums.{sum_by-cons}

-- weights that agree give the same sum
pub sum_same : {X : Type 0} (f g : X → ℕ) → ((x : X) → f x ≡ g x) → (xs : List X) → sum_by f xs ≡ sum_by g xs
sum_same f g each [] = refl
sum_same f g each (x ∷ xs) = omega (arith, sum_by-cons f x xs, sum_by-cons g x xs, each x, sum_same f g each xs)

pub sum_none : {X : Type 0} (f : X → ℕ) → ((x : X) → f x ≡ 0) → (xs : List X) → sum_by f xs ≡ 0
sum_none f each [] = refl
sum_none f each (x ∷ xs) = omega (arith, sum_by-cons f x xs, each x, sum_none f each xs)

pub sum_map : {X Y : Type 0} (f : Y → ℕ) (h : X → Y) (xs : List X) → sum_by f (map h xs) ≡ sum_by (λ x. f (h x)) xs
sum_map f h xs = fold-map (λ a y. a + f y) h 0 xs

pub map_map : {X Y Z : Type 0} (g : Y → Z) (f : X → Y) (xs : List X) → map g (map f xs) ≡ map (λ x. g (f x)) xs
map_map g f [] = refl
map_map g f (x ∷ xs) = ap (λ z. g (f x) ∷ z) (map_map g f xs)

-- a function that is undone
pub map_back : {X Y : Type 0} (g : Y → X) (f : X → Y) → ((x : X) → g (f x) ≡ x) → (xs : List X) → map g (map f xs) ≡ xs
map_back g f back [] = refl
map_back g f back (x ∷ xs) = λ i. back x i ∷ map_back g f back xs i

pub map_same : {X Y : Type 0} (f g : X → Y) → ((x : X) → f x ≡ g x) → (xs : List X) → map f xs ≡ map g xs
map_same f g each [] = refl
map_same f g each (x ∷ xs) = λ i. each x i ∷ map_same f g each xs i
