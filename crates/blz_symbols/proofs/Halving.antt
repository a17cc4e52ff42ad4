-- What a search by halves finds in an order of places.
use Rattle.std.proofs.Common.{◌≡◌, ◌≢◌, ◌⊎◌, inl, inr, ℕ, ◌<◌, ◌≤◌, Bool, true, false, List, length, get_or, arith, eqb}
use Rattle.std.specs.List.Sorted.{IsPartitionPoint, IsPartitionedBy}
use Rattle.std.proofs.lemmas.Bool.Decides.{eqb_tells}
use Rattle.std.proofs.lemmas.List.{get_or_default}

-- the first n places pass a test, and the others fail it
pub record SplitBy (p : ℕ → Bool) (places : List ℕ) (n : ℕ) : Type 0 where
  pub low : (k : ℕ) → k < n → p (get_or places k 0) ≡ true
  pub high : (k : ℕ) → n ≤ k → k < length places → p (get_or places k 0) ≡ false

-- those before a place that passes pass too
pub split_by : (p : ℕ → Bool) (places : List ℕ) (n : ℕ) → ((j k : ℕ) → j < k → k < length places → p (get_or places k 0) ≡ true → p (get_or places j 0) ≡ true) → (IsPartitionedBy p places → IsPartitionPoint (λ i. p i ≡ true) (λ i. p i ≡ false) places n) → SplitBy p places n
split_by p places n falls point = record { low = λ k lt. (point parts).0 k 0 (omega arith) lt; high = λ k ge lt. (point parts).1 k 0 ge lt }
  where
    parts : IsPartitionedBy p places
    parts i j d le lt up = by (eqb_tells i j)
      where
        by : ((eqb i j ≡ true) × (i ≡ j)) ⊎ ((eqb i j ≡ false) × (i ≢ j)) → p (get_or places i d) ≡ true
        by (inl e) = rw (e.1) up
        by (inr n) = let ne = n.1 in rw (get_or_default places i d 0 (omega arith)) (falls i j (omega arith) lt (rw (get_or_default places j 0 d lt) up))
