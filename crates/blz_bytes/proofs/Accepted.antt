-- What an accepted order is.
use Rattle.std.proofs.Common.{◌≡◌, ℕ, zero, suc, ◌<◌, Bool, true, List, [], ◌∷◌, length, Option, Some, None, subst, sym, arith}
use Rattle.std.specs.List.{slice_get}
use Rattle.std.proofs.lemmas.Bool.{and_parts, ltb-true, eqb-true}
use Rattle.blz_bytes.specs.Rising.{rises, puts_in_order, IsOrderBy}
use Rattle.blz_bytes.proofs.Counting.{all_once, all_stand}

-- a test of two places, and the order that it decides
pub record IsOrdering (before : ℕ → ℕ → Bool) (Before : ℕ → ℕ → Type 0) : Type 0 where
  pub tells : (p q : ℕ) → before p q ≡ true → Before p q
  pub across : (p q r : ℕ) → Before p q → Before q r → Before p r
  pub differ : (p : ℕ) → Before p p → ⊥

here : {x p : ℕ} → Some x ≡ Some p → x ≡ p
here e = cc

within : (before : ℕ → ℕ → Bool) (n : ℕ) (previous : Option ℕ) (places : List ℕ) → rises before n previous places ≡ true → (i p : ℕ) → slice_get places i ≡ Some p → p < n
unfolding rises
within before n previous [] h i p is = absurd cc
within before n previous (x ∷ rest) h zero p is = let a = and_parts _ _ h in subst (λ (y : ℕ). y < n) (here is) (ltb-true x n a.0)
within before n previous (x ∷ rest) h (suc i) p is = let a = and_parts _ _ h in let b = and_parts _ _ a.1 in within before n (Some x) rest b.1 i p is

-- all that stand behind a place come after it
behind : (before : ℕ → ℕ → Bool) (Before : ℕ → ℕ → Type 0) (n previous : ℕ) (places : List ℕ) → IsOrdering before Before → rises before n (Some previous) places ≡ true → (i p : ℕ) → slice_get places i ≡ Some p → Before previous p
unfolding rises
behind before Before n previous [] o h i p is = absurd cc
behind before Before n previous (x ∷ rest) o h zero p is =
    let a = and_parts _ _ h in let b = and_parts _ _ a.1 in
    subst (λ (y : ℕ). Before previous y) (here is) (o.tells previous x b.0)
behind before Before n previous (x ∷ rest) o h (suc i) p is =
    let a = and_parts _ _ h in let b = and_parts _ _ a.1 in
    o.across previous x p (o.tells previous x b.0) (behind before Before n x rest o b.1 i p is)

rising : (before : ℕ → ℕ → Bool) (Before : ℕ → ℕ → Type 0) (n : ℕ) (previous : Option ℕ) (places : List ℕ) → IsOrdering before Before → rises before n previous places ≡ true → (i j p q : ℕ) → i < j → slice_get places i ≡ Some p → slice_get places j ≡ Some q → Before p q
unfolding rises
rising before Before n previous [] o h i j p q lt isp isq = absurd cc
rising before Before n previous (x ∷ rest) o h zero zero p q lt isp isq = absurd (omega arith)
rising before Before n previous (x ∷ rest) o h zero (suc j) p q lt isp isq =
    let a = and_parts _ _ h in let b = and_parts _ _ a.1 in
    subst (λ (y : ℕ). Before y q) (here isp) (behind before Before n x rest o b.1 j q isq)
rising before Before n previous (x ∷ rest) o h (suc i) zero p q lt isp isq = absurd (omega arith)
rising before Before n previous (x ∷ rest) o h (suc i) (suc j) p q lt isp isq =
    let below : i < j = omega arith in
    let a = and_parts _ _ h in let b = and_parts _ _ a.1 in
    rising before Before n (Some x) rest o b.1 i j p q below isp isq

pub accepted_is_order : (before : ℕ → ℕ → Bool) (Before : ℕ → ℕ → Type 0) (n : ℕ) (places : List ℕ) → IsOrdering before Before → puts_in_order before n places ≡ true → IsOrderBy Before n places
unfolding puts_in_order
accepted_is_order before Before n places o h =
    let a = and_parts _ _ h in
    let same = eqb-true (length places) n a.0 in
    let inside = within before n None places a.1 in
    let up = rising before Before n None places o a.1 in
    let once = all_once n places same inside (λ i j x y lt isx isy e. o.differ x (subst (λ (z : ℕ). Before x z) (sym e) (up i j x y lt isx isy))) in
    record {
      each = record { same = same; within = inside; every = all_stand n places once; once = once };
      rises = up;
    }
