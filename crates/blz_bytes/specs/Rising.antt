-- When places put a list into order.
use Rattle.std.specs.Prelude.{◌≡◌, ℕ, ◌<◌, Bool, true, ◌&&◌, ◌==◌, List, [], ◌∷◌, length, Option, None, Some, nat_lt, count_by, slice_get}

abbrev pub follows : (ℕ → ℕ → Bool) → Option ℕ → ℕ → Bool
follows before None q = true
follows before (Some p) q = before p q

-- Each place is below n, and each comes before the next.
unfoldable pub rises : (ℕ → ℕ → Bool) → ℕ → Option ℕ → List ℕ → Bool
rises before n previous [] = true
rises before n previous (p ∷ rest) = nat_lt p n && (follows before previous p && rises before n (Some p) rest)

-- n places that rise
unfoldable pub puts_in_order : (ℕ → ℕ → Bool) → ℕ → List ℕ → Bool
puts_in_order before n places = length places == n && rises before n None places

-- a position of a place
pub record StandsAt (places : List ℕ) (place : ℕ) : Type 0 where
  pub at : ℕ
  pub is : slice_get places at ≡ Some place

-- each number below n stands there once
pub record HasEachOnce (n : ℕ) (places : List ℕ) : Type 0 where
  pub same : length places ≡ n
  pub within : (i p : ℕ) → slice_get places i ≡ Some p → p < n
  pub every : (p : ℕ) → p < n → StandsAt places p
  pub once : (p : ℕ) → p < n → count_by (λ q. q == p) places ≡ 1

-- What an accepted order is: each place once, and what stands earlier comes before what stands later.
pub record IsOrderBy (Before : ℕ → ℕ → Type 0) (n : ℕ) (places : List ℕ) : Type 0 where
  pub each : HasEachOnce n places
  pub rises : (i j p q : ℕ) → i < j → slice_get places i ≡ Some p → slice_get places j ≡ Some q → Before p q
