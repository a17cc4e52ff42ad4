-- Ranges that share no address: at most one of them covers it, and few looks find it.
use Rattle.std.proofs.Common.{◌≡◌, ℕ, suc, ◌+◌, ◌*◌, ◌^◌, ◌<◌, ◌≤◌, Bool, true, false, ltb, leb, eqb, List, [], ◌∷◌, ◌++◌, drop, Option, Some, None, refl, sym, ap, ◌∙◌, subst, arith, inl, inr, ◌⊎◌}
use Rattle.std.specs.List.{slice_get}
use Rattle.std.specs.Option.{option_to_list}
use Rattle.std.specs.Prelude.{◌&&◌, ◌||◌}
use Rattle.std.proofs.Math.Nat.{pow-suc, pow-le-pow_right}
use Rattle.std.proofs.lemmas.Bool.{cases_Bool, ltb-true, leb-true, leb-false}
use Rattle.std.proofs.lemmas.Option.{get_or_from_slice_get}
use Rattle.blz_ranges.specs.declared.span.Span.{Span}
use Rattle.blz_ranges.specs.declared.placed.Placed.{Placed}
use Rattle.blz_ranges.specs.Best.{covers, comes_after, placed, no_span, best, next, IsBest, IsBestAt}
use Rattle.blz_ranges.specs.Groups.{AreApart}
use Rattle.blz_ranges.specs.Owned.{Owned, items_of, owner_at}
use Rattle.blz_ranges.specs.Turns.{covering}
use Rattle.blz_ranges.specs.Owned.{owners_of}
use Rattle.blz_ranges.proofs.BestOf.{best_is_best}
use Rattle.blz_ranges.proofs.InTurn.{turns}

both : (x y : Bool) → (x && y) ≡ true → (x ≡ true) × (y ≡ true)
both true true e = (refl, refl)
both true false e = absurd cc
both false y e = absurd cc

either : (x y : Bool) → (x || y) ≡ true → (x ≡ true) ⊎ (y ≡ true)
either true y e = inl refl
either false true e = inr refl
either false false e = absurd cc

-- the range that an address lies in
within : (s : Span) (a : ℕ) → covers s a ≡ true → (s.begin ≤ a) × (a < s.end)
within s a e = let h = both (leb s.begin a) (ltb a s.end) e in (leb-true s.begin a h.0, ltb-true a s.end h.1)

after_begin : (s t : Span) (p q : ℕ) → comes_after (record { place = p; span = s }) q t ≡ true → (t.begin < s.begin) ⊎ (p < q)
after_begin s t p q e = by (either (ltb t.begin s.begin) (eqb t.begin s.begin && ltb p q) e)
  where
    by : (ltb t.begin s.begin ≡ true) ⊎ ((eqb t.begin s.begin && ltb p q) ≡ true) → (t.begin < s.begin) ⊎ (p < q)
    by (inl h) = inl (ltb-true t.begin s.begin h)
    by (inr h) = inr (ltb-true p q (both (eqb t.begin s.begin) (ltb p q) h).1)

placed_is : (spans : List Span) (p : ℕ) (s : Span) → slice_get spans p ≡ Some s → placed spans p ≡ record { place = p; span = s }
placed_is spans p s e = rw (get_or_from_slice_get spans p s no_span e) refl

some_is : {A : Type 0} (x y : A) → Some x ≡ Some y → x ≡ y
some_is x y e = cc

-- no other range covers it
no_other : (spans : List Span) (a p q : ℕ) (s t : Span) → AreApart spans → slice_get spans p ≡ Some s → slice_get spans q ≡ Some t → covers s a ≡ true → (covers t a && comes_after (placed spans p) q t) ≡ true → ⊥
no_other spans a p q s t apart is_s is_t cov passes =
    let h = both (covers t a) (comes_after (placed spans p) q t) passes in
    let in_s = within s a cov in
    let in_t = within t a h.0 in
    let later = after_begin s t p q (subst (λ (b : Placed). comes_after b q t ≡ true) (placed_is spans p s is_s) h.1) in
    let differ : p ≡ q → ⊥ = λ same. (let eq : s ≡ t = some_is s t (sym is_s ∙ rw same is_t) in not_later s t p q eq same later) in
    clash s t a in_s in_t (apart.apart p q s t differ is_s is_t)
  where
    not_later : (s t : Span) (p q : ℕ) → s ≡ t → p ≡ q → (t.begin < s.begin) ⊎ (p < q) → ⊥
    not_later s t p q eq same (inl h) = let b : s.begin ≡ t.begin = ap (λ (x : Span). x.begin) eq in absurd (omega arith)
    not_later s t p q eq same (inr h) = absurd (omega arith)

    clash : (s t : Span) (a : ℕ) → (s.begin ≤ a) × (a < s.end) → (t.begin ≤ a) × (a < t.end) → (s.end ≤ t.begin) ⊎ (t.end ≤ s.begin) → ⊥
    clash s t a x y (inl h) = absurd (omega (arith, x.0, x.1, y.0, y.1, h))
    clash s t a x y (inr h) = absurd (omega (arith, x.0, x.1, y.0, y.1, h))

none_after : (spans : List Span) (a p : ℕ) (s : Span) → AreApart spans → slice_get spans p ≡ Some s → covers s a ≡ true → (r : Option ℕ) → IsBest (λ at t. covers t a && comes_after (placed spans p) at t) spans r → r ≡ None
none_after spans a p s apart is cov None b = refl
none_after spans a p s apart is cov (Some q) b = absurd (no_other spans a p q s b.span apart is b.at cov b.passes)

next_none : (spans : List Span) (a p : ℕ) → AreApart spans → best spans a ≡ Some p → next spans a p ≡ None
next_none spans a p apart e =
    let b : IsBestAt (λ at s. covers s a) spans p = subst (IsBest (λ at s. covers s a) spans) e (best_is_best (λ at s. covers s a) spans) in
    none_after spans a p b.span apart b.at b.passes (next spans a p) (best_is_best (λ at t. covers t a && comes_after (placed spans p) at t) spans)

one_at_most : (ranges : List (Owned Span)) (places : List ℕ) → ((p : ℕ) → slice_get places 0 ≡ Some p → slice_get places 1 ≡ None) → drop 1 (owners_of ranges places) ≡ []
one_at_most ranges [] h = refl
one_at_most ranges (p ∷ []) h = by (owner_at ranges p)
  where
    by : (o : Option ℕ) → drop 1 (option_to_list o ++ []) ≡ []
    by None = refl
    by (Some n) = refl
one_at_most ranges (p ∷ (q ∷ places)) h = absurd (let e = h p refl in cc)

-- behind the first unit that announces an address none is left
pub none_left : (ranges : List (Owned Span)) (a : ℕ) → AreApart (items_of ranges) → drop 1 (owners_of ranges (covering (items_of ranges) a)) ≡ []
none_left ranges a apart =
    let t = turns (items_of ranges) a in
    one_at_most ranges (covering (items_of ranges) a) (λ p e. t.then_next 0 p e ∙ next_none (items_of ranges) a p apart (sym t.first ∙ e))

-- ---- looks

-- a search among fewer than 2 ^ d ranges
pub looks_few : (x d n : ℕ) → 2 ^ x ≤ 4 * (2 * n + 1) → n < 2 ^ d → x ≤ d + 2
looks_few x d n bound few =
    elim (cases_Bool (leb x (d + 2))) [
      | inl t ↦ leb-true x (d + 2) t
      | inr f ↦ absurd (
          let more : suc (suc (suc d)) ≤ x = let k = leb-false x (d + 2) f in omega (arith, k) in
          let k : 2 ^ suc (suc (suc d)) ≤ 2 ^ x = pow-le-pow_right {n = 2} (omega arith) {i = suc (suc (suc d))} {j = x} more in
          let e : 2 ^ suc (suc (suc d)) ≡ 2 ^ d * 2 * 2 * 2 = rw (pow-suc, pow-suc, pow-suc) refl in
          omega (arith, k, e, bound, few))
    ]
