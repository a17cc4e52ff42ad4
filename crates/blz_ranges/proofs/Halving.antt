-- The steps of halving.
use Rattle.std.proofs.Common.{◌≡◌, ℕ, suc, ◌+◌, ◌*◌, ◌^◌, ◌<◌, ◌≤◌, Bool, true, false, List, Option, Some, None, refl, subst, arith, inl, inr}
use Rattle.std.specs.List.{slice_get}
use Rattle.std.proofs.Math.Nat.{pow-suc, pow-le-pow_right, mul-le-mul_left}
use Rattle.std.proofs.lemmas.Bool.{cases_Bool, cases_lt, and_parts, and_cases, or_cases, or_parts, ltb-true, ltb-false, lt-ltb, eqb-true, eqb-false}
use Rattle.blz_ranges.specs.declared.ordered.Ordered.{Ordered}
use Rattle.blz_ranges.specs.Sorted.{IsOrdered}
use Rattle.blz_ranges.specs.declared.ordered.Target.{Target}
use Rattle.blz_ranges.specs.Search.{is_below, is_behind, IsBelow, IsAbove, Halved}

pub same_entry : (es : List Ordered) (i j : ℕ) (e f : Ordered) → i ≡ j → slice_get es i ≡ Some e → slice_get es j ≡ Some f → e ≡ f
same_entry es i j e f q h k = cc

-- twice the power, and at most half of the size
twice : (p s t n : ℕ) → 1 ≤ s → 2 * t ≤ s → Halved p s n → Halved (p * 2) t n
twice p s t n one half h =
    let k : p * (2 * t) ≤ p * s = mul-le-mul_left p half in
    let m : p * 1 ≤ p * s = mul-le-mul_left p one in
    record { left = grind (arith, k, h.left); bound = omega (arith, m, h.left) }

pub halves : (k j s t n : ℕ) → 1 ≤ s → 2 * t ≤ s → j ≡ suc k → Halved (2 ^ k) s n → Halved (2 ^ j) t n
halves k j s t n one half e h = rw (e, pow-suc) (twice (2 ^ k) s t n one half h)

-- at most two looks after a halving, or one before and one after it
pub looked : (k d n m : ℕ) → d ≤ k + 2 → 2 ^ k ≤ 2 * m + 1 → m ≡ n → 2 ^ d ≤ 4 * (2 * n + 1)
looked k d n m le most e =
    let p : 2 ^ d ≤ 2 ^ suc (suc k) = pow-le-pow_right {n = 2} (omega arith) {i = d} {j = suc (suc k)} (omega arith) in
    let q : 2 ^ suc (suc k) ≡ 2 ^ k * 2 * 2 = rw (pow-suc, pow-suc) refl in
    omega arith

-- ---- where the entries below a target end

pub not_both : (x : Bool) → x ≡ true → x ≡ false → ⊥
not_both true p q = absurd cc
not_both false p q = absurd cc

-- what stands later is behind as well
behind_later : (bound : Option ℕ) (p q : ℕ) → p ≤ q → is_behind bound p ≡ true → is_behind bound q ≡ true
behind_later None p q le h = refl
behind_later (Some b) p q le h = lt-ltb b q (let k = ltb-true b p h in omega arith)

not_earlier : (bound : Option ℕ) (p q : ℕ) → p ≤ q → is_behind bound q ≡ false → is_behind bound p ≡ false
not_earlier bound p q le h =
    elim (cases_Bool (is_behind bound p)) [ inl t ↦ absurd (not_both (is_behind bound q) (behind_later bound p q le t) h) | inr f ↦ f ]

tells_below : (e : Ordered) (t : Target) → is_below e t ≡ true → IsBelow t e
tells_below e t h =
    elim (or_cases _ _ h) [
      | inl l ↦ let k = ltb-true e.group t.group l in record { group_le = omega arith; begin_le = λ q. absurd (omega arith); behind = λ q r. absurd (omega arith) }
      | inr m ↦
          let p = and_parts _ _ m in
          let g = eqb-true e.group t.group p.0 in
          elim (or_cases _ _ p.1) [
            | inl l ↦ let k = ltb-true e.span.begin t.begin l in record { group_le = omega arith; begin_le = λ q. omega arith; behind = λ q r. absurd (omega arith) }
            | inr l ↦ let k = and_parts _ _ l in let b = eqb-true e.span.begin t.begin k.0 in record { group_le = omega arith; begin_le = λ q. omega arith; behind = λ q r. k.1 }
          ]
    ]

tells_above : (e : Ordered) (t : Target) → is_below e t ≡ false → IsAbove t e
tells_above e t h =
    let p = or_parts _ _ h in
    let k = ltb-false e.group t.group p.0 in
    record {
      group_le = k;
      begin_le = λ q. elim (and_cases _ _ p.1) [ inl n ↦ absurd (eqb-false e.group t.group n q) | inr n ↦ ltb-false e.span.begin t.begin (or_parts _ _ n).0 ];
      not_behind = λ q r. elim (and_cases _ _ p.1) [
        | inl n ↦ absurd (eqb-false e.group t.group n q)
        | inr n ↦ elim (and_cases _ _ (or_parts _ _ n).1) [ inl m ↦ absurd (eqb-false e.span.begin t.begin m r) | inr m ↦ m ]
      ];
    }

pub all_below : (es : List Ordered) (t : Target) (m : ℕ) (e : Ordered) → IsOrdered es → slice_get es m ≡ Some e → is_below e t ≡ true → (i : ℕ) (f : Ordered) → i < m + 1 → slice_get es i ≡ Some f → IsBelow t f
all_below es t m e ordered is h i f lt isf =
    let n = tells_below e t h in
    elim (cases_lt i m) [
      | inl before ↦
          let r = ordered.rises i m f e before isf is in
          let l = n.group_le in
          let k = r.later in
          record {
            group_le = omega arith;
            begin_le = λ q. let s : f.group ≡ e.group = omega arith in let u = r.below s in let v = n.begin_le (omega arith) in omega arith;
            behind = λ q w.
                let s : f.group ≡ e.group = omega arith in
                let u = r.below s in
                let v = n.begin_le (omega arith) in
                let x : f.span.begin ≡ e.span.begin = omega arith in
                behind_later t.behind e.place f.place (let y = r.tie s x in omega arith) (n.behind (omega arith) (omega arith));
          }
      | inr ge ↦ subst (λ (x : Ordered). IsBelow t x) (same_entry es m i e f (omega arith) is isf) n
    ]

pub all_above : (es : List Ordered) (t : Target) (m : ℕ) (e : Ordered) → IsOrdered es → slice_get es m ≡ Some e → is_below e t ≡ false → (i : ℕ) (f : Ordered) → m ≤ i → slice_get es i ≡ Some f → IsAbove t f
all_above es t m e ordered is h i f le isf =
    let n = tells_above e t h in
    elim (cases_lt m i) [
      | inl after ↦
          let r = ordered.rises m i e f after is isf in
          let l = n.group_le in
          let k = r.later in
          record {
            group_le = omega arith;
            begin_le = λ q. let s : e.group ≡ f.group = omega arith in let u = r.below s in let v = n.begin_le (omega arith) in omega arith;
            not_behind = λ q w.
                let s : e.group ≡ f.group = omega arith in
                let u = r.below s in
                let v = n.begin_le (omega arith) in
                let x : e.span.begin ≡ f.span.begin = omega arith in
                not_earlier t.behind f.place e.place (let y = r.tie s x in omega arith) (n.not_behind (omega arith) (omega arith));
          }
      | inr ge ↦ subst (λ (x : Ordered). IsAbove t x) (same_entry es m i e f (omega arith) is isf) n
    ]
