-- The best range by its definition, and by what tells it from all others.
use Rattle.std.proofs.Common.{◌≡◌, ℕ, zero, suc, ◌+◌, ◌<◌, ◌≤◌, Bool, true, false, ltb, List, [], ◌∷◌, Option, Some, None, refl, sym, ap, subst, arith, inl, inr}
use Rattle.std.specs.List.{slice_get}
use Rattle.std.proofs.lemmas.Bool.{cases_Bool, both_ways, ltb-true, ltb-false}
use Rattle.blz_ranges.specs.declared.span.Span.{Span}
use Rattle.blz_ranges.specs.declared.placed.Placed.{Placed}
use Rattle.blz_ranges.specs.Best.{better, best_by, place_of, NotAfter, IsBest}

-- the best of the ranges from a place on
record Wins (test : ℕ → Span → Bool) (at : ℕ) (spans : List Span) (p : Placed) : Type 0 where
  pub index : ℕ
  pub place_is : p.place ≡ at + index
  pub is : slice_get spans index ≡ Some p.span
  pub passes : test p.place p.span ≡ true
  pub first : (k : ℕ) (t : Span) → slice_get spans k ≡ Some t → test (at + k) t ≡ true → NotAfter p.place p.span (at + k) t

abbrev IfWins : (ℕ → Span → Bool) → ℕ → List Span → Option Placed → Type 0
IfWins test at spans None = (k : ℕ) (t : Span) → slice_get spans k ≡ Some t → test (at + k) t ≡ true → ⊥
IfWins test at spans (Some p) = Wins test at spans p

next_place : (test : ℕ → Span → Bool) (at k : ℕ) (t : Span) → test (at + suc k) t ≡ true → test (at + 1 + k) t ≡ true
next_place test at k t h = let e : at + suc k ≡ at + 1 + k = omega arith in subst (λ (n : ℕ). test n t ≡ true) e h

not_after_at : (p : ℕ) (s : Span) (m n : ℕ) (t : Span) → m ≡ n → NotAfter p s m t → NotAfter p s n t
not_after_at p s m n t e h = subst (λ (x : ℕ). NotAfter p s x t) e h

fails_first : (test : ℕ → Span → Bool) (at : ℕ) (s t : Span) → test at s ≡ false → s ≡ t → test (at + 0) t ≡ true → ⊥
fails_first test at s t f e h =
    let z : at + 0 ≡ at = omega arith in
    let r = subst (λ (n : ℕ). test n t ≡ true) z h in
    both_ways (test at s) f (subst (λ (x : Span). test at x ≡ true) (sym e) r)

none_behind : (test : ℕ → Span → Bool) (at : ℕ) (s : Span) (rest : List Span) → test at s ≡ false → IfWins test (at + 1) rest None → (k : ℕ) (t : Span) → slice_get (s ∷ rest) k ≡ Some t → test (at + k) t ≡ true → ⊥
none_behind test at s rest f h zero t is passes = let e : s ≡ t = cc in fails_first test at s t f e passes
none_behind test at s rest f h (suc k) t is passes = h k t is (next_place test at k t passes)

first_behind : (test : ℕ → Span → Bool) (at : ℕ) (s : Span) (rest : List Span) (p : Placed) → test at s ≡ false → Wins test (at + 1) rest p → (k : ℕ) (t : Span) → slice_get (s ∷ rest) k ≡ Some t → test (at + k) t ≡ true → NotAfter p.place p.span (at + k) t
first_behind test at s rest p f h zero t is passes = let e : s ≡ t = cc in absurd (fails_first test at s t f e passes)
first_behind test at s rest p f h (suc k) t is passes = not_after_at p.place p.span (at + 1 + k) (at + suc k) t (omega arith) (h.first k t is (next_place test at k t passes))

behind : (test : ℕ → Span → Bool) (at : ℕ) (s : Span) (rest : List Span) (o : Option Placed) → test at s ≡ false → IfWins test (at + 1) rest o → IfWins test at (s ∷ rest) o
behind test at s rest None f h = none_behind test at s rest f h
behind test at s rest (Some p) f h = record { index = suc h.index; place_is = omega (arith, h.place_is); is = h.is; passes = h.passes; first = first_behind test at s rest p f h }

itself : (at n : ℕ) (s t : Span) → n ≡ at → s ≡ t → NotAfter at s n t
itself at n s t e f = let q : s.begin ≡ t.begin = ap (λ (x : Span). x.begin) f in record { below = omega arith; tie = λ _. omega arith }

-- the first one wins over those behind it
first_alone : (test : ℕ → Span → Bool) (at : ℕ) (s : Span) (rest : List Span) → IfWins test (at + 1) rest None → (k : ℕ) (t : Span) → slice_get (s ∷ rest) k ≡ Some t → test (at + k) t ≡ true → NotAfter at s (at + k) t
first_alone test at s rest h zero t is passes = let e : s ≡ t = cc in itself at (at + 0) s t (omega arith) e
first_alone test at s rest h (suc k) t is passes = absurd (h k t is (next_place test at k t passes))

first_stays : (test : ℕ → Span → Bool) (at : ℕ) (s : Span) (rest : List Span) (q : Placed) → q.span.begin ≤ s.begin → Wins test (at + 1) rest q → (k : ℕ) (t : Span) → slice_get (s ∷ rest) k ≡ Some t → test (at + k) t ≡ true → NotAfter at s (at + k) t
first_stays test at s rest q le h zero t is passes = let e : s ≡ t = cc in itself at (at + 0) s t (omega arith) e
first_stays test at s rest q le h (suc k) t is passes = let n = h.first k t is (next_place test at k t passes) in record { below = omega (arith, n.below); tie = λ _. omega arith }

later_wins : (test : ℕ → Span → Bool) (at : ℕ) (s : Span) (rest : List Span) (q : Placed) → s.begin < q.span.begin → Wins test (at + 1) rest q → (k : ℕ) (t : Span) → slice_get (s ∷ rest) k ≡ Some t → test (at + k) t ≡ true → NotAfter q.place q.span (at + k) t
later_wins test at s rest q lt h zero t is passes = let e : s ≡ t = cc in let b : s.begin ≡ t.begin = ap (λ (x : Span). x.begin) e in record { below = omega arith; tie = λ r. absurd (omega arith) }
later_wins test at s rest q lt h (suc k) t is passes = not_after_at q.place q.span (at + 1 + k) (at + suc k) t (omega arith) (h.first k t is (next_place test at k t passes))

chosen : (test : ℕ → Span → Bool) (at : ℕ) (s : Span) (rest : List Span) (o : Option Placed) → test at s ≡ true → IfWins test (at + 1) rest o → IfWins test at (s ∷ rest) (better (record { place = at; span = s }) o)
chosen test at s rest None t h = record { index = 0; place_is = omega arith; is = refl; passes = t; first = first_alone test at s rest h }
chosen test at s rest (Some q) t h =
    elim (cases_Bool (ltb s.begin q.span.begin)) [
      | inl lt ↦ rw lt (record { index = suc h.index; place_is = omega (arith, h.place_is); is = h.is; passes = h.passes; first = later_wins test at s rest q (ltb-true s.begin q.span.begin lt) h })
      | inr ge ↦ rw ge (record { index = 0; place_is = omega arith; is = refl; passes = t; first = first_stays test at s rest q (ltb-false s.begin q.span.begin ge) h })
    ]

wins : (test : ℕ → Span → Bool) (at : ℕ) (spans : List Span) → IfWins test at spans (best_by test at spans)
unfolding best_by
wins test at [] = λ k t is passes. absurd cc
wins test at (s ∷ rest) =
    elim (cases_Bool (test at s)) [
      | inl t ↦ rw t (chosen test at s rest (best_by test (at + 1) rest) t (wins test (at + 1) rest))
      | inr f ↦ rw f (behind test at s rest (best_by test (at + 1) rest) f (wins test (at + 1) rest))
    ]

passes_at : (test : ℕ → Span → Bool) (m n : ℕ) (t : Span) → m ≡ n → test m t ≡ true → test n t ≡ true
passes_at test m n t e h = subst (λ (x : ℕ). test x t ≡ true) e h

-- There is only one best range.
same_best : (test : ℕ → Span → Bool) (spans : List Span) (o : Option Placed) (r : Option ℕ) → IfWins test 0 spans o → IsBest test spans r → r ≡ place_of o
same_best test spans None None h k = refl
same_best test spans None (Some p) h k = absurd (h p k.span k.at (passes_at test p (0 + p) k.span (omega arith) k.passes))
same_best test spans (Some q) None h k = absurd (k h.index q.span h.is (passes_at test q.place h.index q.span (omega (arith, h.place_is)) h.passes))
same_best test spans (Some q) (Some p) h k =
    let there : slice_get spans q.place ≡ Some q.span = let e : h.index ≡ q.place = omega (arith, h.place_is) in subst (λ (n : ℕ). slice_get spans n ≡ Some q.span) e h.is in
    let x = h.first p k.span k.at (passes_at test p (0 + p) k.span (omega arith) k.passes) in
    let y = k.first q.place q.span there h.passes in
    let b : k.span.begin ≡ q.span.begin = omega (arith, x.below, y.below) in
    let m = x.tie b in
    let n = y.tie (sym b) in
    let e : p ≡ q.place = omega arith in
    ap (λ (n : ℕ). Some n) e

pub best_is : (test : ℕ → Span → Bool) (spans : List Span) (r : Option ℕ) → IsBest test spans r → r ≡ place_of (best_by test 0 spans)
best_is test spans r h = same_best test spans (best_by test 0 spans) r (wins test 0 spans) h

found_by : (test : ℕ → Span → Bool) (spans : List Span) (o : Option Placed) → IfWins test 0 spans o → IsBest test spans (place_of o)
found_by test spans None h = λ q t is p. h q t is (passes_at test q (0 + q) t (omega arith) p)
found_by test spans (Some p) h = record {
  span = p.span;
  at = let e : h.index ≡ p.place = omega (arith, h.place_is) in subst (λ (n : ℕ). slice_get spans n ≡ Some p.span) e h.is;
  passes = h.passes;
  first = λ q t is r. not_after_at p.place p.span (0 + q) q t (omega arith) (h.first q t is (passes_at test q (0 + q) t (omega arith) r));
}

pub best_is_best : (test : ℕ → Span → Bool) (spans : List Span) → IsBest test spans (place_of (best_by test 0 spans))
best_is_best test spans = found_by test spans (best_by test 0 spans) (wins test 0 spans)
