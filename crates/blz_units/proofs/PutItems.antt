-- Lists into which an item is put.
use Rattle.std.proofs.Common.{◌≡◌, ℕ, zero, suc, List, [], ◌∷◌, length, Option, Some, None, refl, arith, ◌++◌}
use Rattle.std.specs.List.{slice_get, slice_set}
use Rattle.blz_model.specs.declared.cache.Cache.{Cache}
use Rattle.blz_model.specs.declared.cache.Cache.TheVariants.{Empty}
use Rattle.blz_units.specs.KeptParts.{or_empty}

-- what holds at each index holds of the list with a further item, if it holds of that
pub at_each : {X : Type 0} (P : ℕ → Option X → Type 0) (xs : List X) (k : ℕ) (a : X) → P k (Some a) → ((j : ℕ) → P j (slice_get xs j)) → (j : ℕ) → P j (slice_get (slice_set xs k a) j)
at_each P [] k a here each j = each j
at_each P (x ∷ xs) zero a here each zero = here
at_each P (x ∷ xs) zero a here each (suc j) = each (suc j)
at_each P (x ∷ xs) (suc k) a here each zero = each zero
at_each P (x ∷ xs) (suc k) a here each (suc j) = at_each (λ i o. P (suc i) o) xs k a here (λ i. each (suc i)) j

-- past one list is past another of the same length
pub none_both : {X Y : Type 0} (xs : List X) (ys : List Y) (k : ℕ) → length xs ≡ length ys → slice_get xs k ≡ None → slice_get ys k ≡ None
none_both xs [] k e h = refl
none_both [] (y ∷ ys) k e h = absurd (omega arith)
none_both (x ∷ xs) (y ∷ ys) zero e h = absurd cc
none_both (x ∷ xs) (y ∷ ys) (suc k) e h = none_both xs ys k (omega arith) h

-- an item that is put where one stands stands there
pub put_is : {X : Type 0} (xs : List X) (k : ℕ) (a x : X) → slice_get xs k ≡ Some x → slice_get (slice_set xs k a) k ≡ Some a
put_is [] k a x e = absurd cc
put_is (y ∷ xs) zero a x e = refl
put_is (y ∷ xs) (suc k) a x e = put_is xs k a x e

-- an empty cache behind others changes nothing
pub push_empty : {X : Type 0} (xs : List (Cache X)) (k : ℕ) → or_empty (slice_get (xs ++ Empty ∷ []) k) ≡ or_empty (slice_get xs k)
push_empty [] zero = refl
push_empty [] (suc k) = refl
push_empty (x ∷ xs) zero = refl
push_empty (x ∷ xs) (suc k) = push_empty xs k
