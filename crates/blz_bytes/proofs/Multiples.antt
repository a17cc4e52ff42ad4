-- The multiple that lies less than one step above a value is the least one not below it.
use Rattle.std.proofs.Common.{◌≡◌, ℕ, suc, ◌+◌, ◌*◌, ◌/◌, ◌%◌, ◌<◌, ◌≤◌, arith, inl, inr}
use Rattle.std.proofs.lemmas.Bool.{cases_lt}
use Rattle.std.proofs.Math.Nat.{mul-le-mul_left}
use Rattle.blz_bytes.specs.LeastMultiple.{IsLeastMultiple}

-- a multiple below another is a whole step below it
step_below : (of n q : ℕ) → n * of < of * q → n * of + of ≤ of * q
step_below of n q lt =
    elim (cases_lt n q) [
      | inl below ↦ let h : of * suc n ≤ of * q = mul-le-mul_left of below in omega (arith, h)
      | inr not ↦ let h : of * q ≤ of * n = mul-le-mul_left of not in absurd (omega (arith, h))
    ]

pub least_multiple : (value of result : ℕ) → 0 < of → result % of ≡ 0 → value ≤ result → result < value + of → IsLeastMultiple value of result
least_multiple value of result some multiple above near = record {
  multiple = multiple;
  not_below = above;
  least = λ n le.
      let q = result / of in
      let is : of * q ≡ result = omega arith in
      elim (cases_lt (n * of) result) [
        | inl lt ↦ let h = step_below of n q (omega arith) in absurd (omega arith)
        | inr ge ↦ omega arith
      ];
}
