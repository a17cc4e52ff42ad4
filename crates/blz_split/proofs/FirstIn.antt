-- Searching numbers that pass a test.
use Rattle.std.proofs.Common.{◌≡◌, ℕ, suc, ◌+◌, ◌-◌, ◌<◌, Bool, false, Option, arith}
use Rattle.blz_split.specs.Contributions.{first_in}

-- a number that does not pass is left behind
pub first_behind : (test : ℕ → Bool) (n i : ℕ) (r : Option ℕ) → i < n → test i ≡ false → first_in test (n - i) i ≡ r → first_in test (n - (i + 1)) (i + 1) ≡ r
unfolding first_in
first_behind test n i r lt fails h = let e : n - i ≡ suc (n - (i + 1)) = omega arith in rw (e, fails) at h
