-- The least multiple of a number that is not below a value.
use Rattle.std.specs.Prelude.{◌≡◌, ◌≤◌, ℕ, ◌*◌, ◌%◌}

pub record IsLeastMultiple (value of result : ℕ) : Type 0 where
  pub multiple : result % of ≡ 0
  pub not_below : value ≤ result
  pub least : (n : ℕ) → value ≤ n * of → result ≤ n * of
