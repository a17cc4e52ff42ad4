-- The order of (first, second, place) is one.
use Rattle.std.proofs.Common.{◌≡◌, ℕ, ◌<◌, true, List, arith, inl, inr, refl}
use Rattle.std.proofs.lemmas.Bool.{and_parts, or_cases, ltb-true, eqb-true}
use Rattle.blz_bytes.specs.declared.orders.Key.{Key}
use Rattle.blz_bytes.specs.PairOrder.{key_at, is_before, pair_before, Before, PairBefore}
use Rattle.blz_bytes.proofs.Accepted.{IsOrdering}

tells : (a b : Key) (p q : ℕ) → is_before a p b q ≡ true → Before a p b q
tells a b p q h =
    elim (or_cases _ _ h) [
      | inl first ↦ let l = ltb-true a.first b.first first in record { first = omega arith; second = λ e. absurd (omega arith); tie = λ e. absurd (omega arith) }
      | inr rest ↦
          let r = and_parts _ _ rest in
          let e = eqb-true a.first b.first r.0 in
          elim (or_cases _ _ r.1) [
            | inl second ↦ let l = ltb-true a.second b.second second in record { first = omega arith; second = λ _. omega arith; tie = λ _ f. absurd (omega arith) }
            | inr last ↦
                let t = and_parts _ _ last in
                let f = eqb-true a.second b.second t.0 in
                let l = ltb-true p q t.1 in
                record { first = omega arith; second = λ _. omega arith; tie = λ _ _. l }
          ]
    ]

across : (a b c : Key) (p q r : ℕ) → Before a p b q → Before b q c r → Before a p c r
across a b c p q r h k = record {
  first = omega (arith, h.first, k.first);
  second = λ e. let f : a.first ≡ b.first = omega (arith, h.first, k.first) in let g : b.first ≡ c.first = omega arith in omega (arith, h.second f, k.second g);
  tie = λ e f.
      let x : a.first ≡ b.first = omega (arith, h.first, k.first) in
      let y : b.first ≡ c.first = omega arith in
      let u : a.second ≡ b.second = omega (arith, h.second x, k.second y) in
      let v : b.second ≡ c.second = omega arith in
      omega (arith, h.tie x u, k.tie y v);
}

pub pairs_are_ordered : (keys : List Key) → IsOrdering (pair_before keys) (PairBefore keys)
pairs_are_ordered keys = record {
  tells = λ p q. tells (key_at keys p) (key_at keys q) p q;
  across = λ p q r. across (key_at keys p) (key_at keys q) (key_at keys r) p q r;
  differ = λ p b. let lt : p < p = b.tie refl refl in omega arith;
}
