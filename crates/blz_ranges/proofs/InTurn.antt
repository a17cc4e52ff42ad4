-- The best range and those after it are the covering ones in their order.
use Rattle.std.proofs.Common.{◌≡◌, ℕ, zero, suc, ◌+◌, ◌<◌, ◌≤◌, Bool, true, ltb, List, [], ◌∷◌, length, Option, Some, None, refl, sym, ap, subst, arith, inl, inr, ◌⊎◌, ◌∙◌}
use Rattle.std.specs.Prelude.{option_map, ◌&&◌}
use Rattle.std.specs.List.{slice_get}
use Rattle.std.proofs.lemmas.Bool.{cases_Bool, cases_lt, and_parts, and_from, or_cases, or_left, or_right, ltb-true, ltb-false, lt-ltb, eqb-true, eq-eqb}
use Rattle.std.proofs.lemmas.Option.{slice_get_within, slice_get-map, slice_get-get_or, get_or_from_slice_get}
use Rattle.blz_ranges.specs.declared.span.Span.{Span}
use Rattle.blz_ranges.specs.declared.placed.Placed.{Placed}
use Rattle.blz_ranges.specs.Best.{covers}
use Rattle.blz_ranges.specs.Best.{best_by, place_of, placed, comes_after, NotAfter, IsBest}
use Rattle.blz_ranges.specs.Turns.{put, in_turn, covering, IsTurns}
use Rattle.blz_ranges.proofs.BestOf.{best_is}

-- x goes before y
record Goes (x y : Placed) : Type 0 where
  pub below : y.span.begin ≤ x.span.begin
  pub tie : y.span.begin ≡ x.span.begin → x.place < y.place

abbrev AllBehind : Placed → List Placed → Type 0
AllBehind x ys = (j : ℕ) (y : Placed) → slice_get ys j ≡ Some y → Goes x y

abbrev Sorted : List Placed → Type 0
Sorted [] = Unit {0}
Sorted (x ∷ xs) = AllBehind x xs × Sorted xs

record Stands (xs : List Placed) (x : Placed) : Type 0 where
  pub at : ℕ
  pub is : slice_get xs at ≡ Some x

-- what stands in a list with one put in
put_front : (p : Placed) (qs : List Placed) (i : ℕ) (x : Placed) → slice_get (p ∷ qs) i ≡ Some x → (p ≡ x) ⊎ Stands qs x
put_front p qs zero x is = let e : p ≡ x = cc in inl e
put_front p qs (suc i) x is = inr (record { at = i; is = is })

put_behind : (p q : Placed) (rest more : List Placed) (i : ℕ) (x : Placed) → ((i : ℕ) (x : Placed) → slice_get more i ≡ Some x → (p ≡ x) ⊎ Stands rest x) → slice_get (q ∷ more) i ≡ Some x → (p ≡ x) ⊎ Stands (q ∷ rest) x
put_behind p q rest more zero x h is = inr (record { at = 0; is = is })
put_behind p q rest more (suc i) x h is = elim (h i x is) [ inl e ↦ inl e | inr s ↦ inr (record { at = suc s.at; is = s.is }) ]

put_from : (p : Placed) (qs : List Placed) (i : ℕ) (x : Placed) → slice_get (put p qs) i ≡ Some x → (p ≡ x) ⊎ Stands qs x
unfolding put
put_from p [] i x is = put_front p [] i x is
put_from p (q ∷ rest) i x is =
    elim (cases_Bool (ltb p.span.begin q.span.begin)) [
      | inl t ↦ put_behind p q rest (put p rest) i x (λ j y isy. put_from p rest j y isy) (rw t at is)
      | inr f ↦ put_front p (q ∷ rest) i x (rw f at is)
    ]

put_itself : (p : Placed) (qs : List Placed) → Stands (put p qs) p
unfolding put
put_itself p [] = record { at = 0; is = refl }
put_itself p (q ∷ rest) =
    elim (cases_Bool (ltb p.span.begin q.span.begin)) [
      | inl t ↦ rw t (let r = put_itself p rest in record { at = suc r.at; is = r.is })
      | inr f ↦ rw f (record { at = 0; is = refl })
    ]

put_keeps : (p : Placed) (qs : List Placed) (i : ℕ) (x : Placed) → slice_get qs i ≡ Some x → Stands (put p qs) x
unfolding put
put_keeps p [] i x is = absurd cc
put_keeps p (q ∷ rest) zero x is =
    elim (cases_Bool (ltb p.span.begin q.span.begin)) [ inl t ↦ rw t (record { at = 0; is = is }) | inr f ↦ rw f (record { at = 1; is = is }) ]
put_keeps p (q ∷ rest) (suc i) x is =
    elim (cases_Bool (ltb p.span.begin q.span.begin)) [
      | inl t ↦ rw t (let r = put_keeps p rest i x is in record { at = suc r.at; is = r.is })
      | inr f ↦ rw f (record { at = suc (suc i); is = is })
    ]

goes_on : (p q y : Placed) → Goes p q → Goes q y → Goes p y
goes_on p q y h k = record { below = omega (arith, h.below, k.below); tie = λ e. let a : q.span.begin ≡ p.span.begin = omega (arith, h.below, k.below) in let b : y.span.begin ≡ q.span.begin = omega arith in omega (arith, h.tie a, k.tie b) }

abbrev AllLater : Placed → List Placed → Type 0
AllLater p qs = (j : ℕ) (y : Placed) → slice_get qs j ≡ Some y → p.place < y.place

all_behind : (p q : Placed) (rest : List Placed) → Goes p q → AllBehind q rest → AllBehind p (q ∷ rest)
all_behind p q rest g h zero y is = let e : q ≡ y = cc in subst (λ (z : Placed). Goes p z) e g
all_behind p q rest g h (suc j) y is = goes_on p q y g (h j y is)

front_sorted : (p q : Placed) (rest : List Placed) → q.span.begin ≤ p.span.begin → p.place < q.place → Sorted (q ∷ rest) → Sorted (p ∷ (q ∷ rest))
front_sorted p q rest le lt h = (all_behind p q rest (record { below = le; tie = λ _. lt }) h.0, h)

put_sorted : (p : Placed) (qs : List Placed) → AllLater p qs → Sorted qs → Sorted (put p qs)
unfolding put
put_sorted p [] later h = (λ j y is. absurd cc, tt)
put_sorted p (q ∷ rest) later h =
    elim (cases_Bool (ltb p.span.begin q.span.begin)) [
      | inl t ↦
          let lt = ltb-true p.span.begin q.span.begin t in
          let behind : AllBehind q (put p rest) = λ j y is.
          elim (put_from p rest j y is) [
            | inl e ↦ subst (λ (z : Placed). Goes q z) e (record { below = omega arith; tie = λ r. absurd (omega arith) })
            | inr s ↦ h.0 s.at y s.is
          ] in
          rw t (behind, put_sorted p rest (λ j y is. later (suc j) y is) h.1)
      | inr f ↦ rw f (front_sorted p q rest (ltb-false p.span.begin q.span.begin f) (later 0 q refl) h)
    ]

-- what the list of those that pass holds
record Passing (test : ℕ → Span → Bool) (at : ℕ) (spans : List Span) (x : Placed) : Type 0 where
  pub index : ℕ
  pub place_is : x.place ≡ at + index
  pub is : slice_get spans index ≡ Some x.span
  pub passes : test x.place x.span ≡ true

further : (test : ℕ → Span → Bool) (at : ℕ) (s : Span) (rest : List Span) (x : Placed) → Passing test (at + 1) rest x → Passing test at (s ∷ rest) x
further test at s rest x h = record { index = suc h.index; place_is = let e = h.place_is in omega arith; is = h.is; passes = h.passes }

passing : (test : ℕ → Span → Bool) (at : ℕ) (spans : List Span) (i : ℕ) (x : Placed) → slice_get (in_turn test at spans) i ≡ Some x → Passing test at spans x
unfolding in_turn
passing test at [] i x is = absurd cc
passing test at (s ∷ rest) i x is =
    elim (cases_Bool (test at s)) [
      | inl t ↦ elim (put_from (record { place = at; span = s }) (in_turn test (at + 1) rest) i x (rw t at is)) [
        | inl e ↦ subst (λ (z : Placed). Passing test at (s ∷ rest) z) e (record { index = 0; place_is = omega arith; is = refl; passes = t })
        | inr h ↦ further test at s rest x (passing test (at + 1) rest h.at x h.is)
      ]
      | inr f ↦ further test at s rest x (passing test (at + 1) rest i x (rw f at is))
    ]

sorted : (test : ℕ → Span → Bool) (at : ℕ) (spans : List Span) → Sorted (in_turn test at spans)
unfolding in_turn
sorted test at [] = tt
sorted test at (s ∷ rest) =
    elim (cases_Bool (test at s)) [
      | inl t ↦ rw t (put_sorted (record { place = at; span = s }) (in_turn test (at + 1) rest) (λ j y is. let p = passing test (at + 1) rest j y is in let e = p.place_is in omega arith) (sorted test (at + 1) rest))
      | inr f ↦ rw f (sorted test (at + 1) rest)
    ]

item : ℕ → Span → Placed
item n s = record { place = n; span = s }

stands_on : (test : ℕ → Span → Bool) (at : ℕ) (s : Span) (rest : List Span) (x : Placed) → Stands (in_turn test (at + 1) rest) x → Stands (in_turn test at (s ∷ rest)) x
unfolding in_turn
stands_on test at s rest x h =
    elim (cases_Bool (test at s)) [
      | inl t ↦ rw t (put_keeps (record { place = at; span = s }) (in_turn test (at + 1) rest) h.at x h.is)
      | inr f ↦ rw f h
    ]

stands : (test : ℕ → Span → Bool) (at : ℕ) (spans : List Span) (k : ℕ) (t : Span) → slice_get spans k ≡ Some t → test (at + k) t ≡ true → Stands (in_turn test at spans) (item (at + k) t)
unfolding in_turn item
stands test at [] k t is p = absurd cc
stands test at (s ∷ rest) zero t is p =
    let e : s ≡ t = cc in
    let z : at + 0 ≡ at = omega arith in
    let q : test at s ≡ true = ap (λ (x : Span). test at x) e ∙ (ap (λ (n : ℕ). test n t) (sym z) ∙ p) in
    let w : item at s ≡ item (at + 0) t = ap (item at) e ∙ ap (λ (n : ℕ). item n t) (sym z) in
    rw q (subst (λ (x : Placed). Stands (put (item at s) (in_turn test (at + 1) rest)) x) w (put_itself (item at s) (in_turn test (at + 1) rest)))
stands test at (s ∷ rest) (suc k) t is p =
    let z : at + suc k ≡ at + 1 + k = omega arith in
    let r = stands test (at + 1) rest k t is (ap (λ (n : ℕ). test n t) (sym z) ∙ p) in
    stands_on test at s rest (item (at + suc k) t) (subst (λ (n : ℕ). Stands (in_turn test (at + 1) rest) (item n t)) (sym z) r)

in_order : (xs : List Placed) → Sorted xs → (i j : ℕ) (x y : Placed) → i < j → slice_get xs i ≡ Some x → slice_get xs j ≡ Some y → Goes x y
in_order [] h i j x y lt isx isy = absurd cc
in_order (z ∷ xs) h zero zero x y lt isx isy = absurd (omega arith)
in_order (z ∷ xs) h zero (suc j) x y lt isx isy = let e : z ≡ x = cc in subst (λ (w : Placed). Goes w y) e (h.0 j y isy)
in_order (z ∷ xs) h (suc i) zero x y lt isx isy = absurd (omega arith)
in_order (z ∷ xs) h (suc i) (suc j) x y lt isx isy = in_order xs h.1 i j x y (omega arith) isx isy

-- a range that passes, at its place in the list
at_place : (test : ℕ → Span → Bool) (spans : List Span) (q : ℕ) (t : Span) → slice_get spans q ≡ Some t → test q t ≡ true → Stands (in_turn test 0 spans) (item q t)
at_place test spans q t is p =
    let z : 0 + q ≡ q = omega arith in
    subst (λ (n : ℕ). Stands (in_turn test 0 spans) (item n t)) z (stands test 0 spans q t is (ap (λ (n : ℕ). test n t) z ∙ p))

span_there : (test : ℕ → Span → Bool) (spans : List Span) (x : Placed) → Passing test 0 spans x → slice_get spans x.place ≡ Some x.span
span_there test spans x h = let z : h.index ≡ x.place = let e = h.place_is in omega arith in subst (λ (n : ℕ). slice_get spans n ≡ Some x.span) z h.is

place_option : Option Placed → Option ℕ
place_option o = option_map (λ (p : Placed). p.place) o

not_after : (x y : Placed) (i j : ℕ) (xs : List Placed) → Sorted xs → i ≤ j → slice_get xs i ≡ Some x → slice_get xs j ≡ Some y → NotAfter x.place x.span y.place y.span
not_after x y i j xs h le isx isy =
    elim (cases_lt i j) [
      | inl lt ↦ let g = in_order xs h i j x y lt isx isy in record { below = g.below; tie = λ e. let k = g.tie e in omega arith }
      | inr ge ↦
          let q : i ≡ j = omega arith in
          let there : slice_get xs j ≡ Some x = subst (λ (n : ℕ). slice_get xs n ≡ Some x) q isx in
          let e : x ≡ y = cc in
          subst (λ (w : Placed). NotAfter x.place x.span w.place w.span) e (record { below = omega arith; tie = λ _. omega arith })
    ]

-- where a later test picks those of the list from a position on, the best is the one there
best_from : (test more : ℕ → Span → Bool) (spans : List Span) (i : ℕ) (o : Option Placed) → slice_get (in_turn test 0 spans) i ≡ o
    → ((x : Placed) → slice_get (in_turn test 0 spans) i ≡ Some x → more x.place x.span ≡ true)
    → ((q : ℕ) (t : Span) → slice_get spans q ≡ Some t → more q t ≡ true → (j : ℕ) × (i ≤ j) × (slice_get (in_turn test 0 spans) j ≡ Some (item q t)))
    → IsBest more spans (place_option o)
unfolding place_option item
best_from test more spans i None is own from = λ q t isq p.
    let f = from q t isq p in
    let l = slice_get_within (in_turn test 0 spans) f.0 (item q t) f.2 in
    let g = slice_get-get_or (in_turn test 0 spans) i (item q t) (let le = f.1 in omega arith) in
    absurd cc
best_from test more spans i (Some x) is own from = record {
  span = x.span;
  at = span_there test spans x (passing test 0 spans i x is);
  passes = own x is;
  first = λ q t isq p. let f = from q t isq p in not_after x (item q t) i f.0 (in_turn test 0 spans) (sorted test 0 spans) f.1 is f.2;
}

first_is : (test : ℕ → Span → Bool) (spans : List Span) → place_option (slice_get (in_turn test 0 spans) 0) ≡ place_of (best_by test 0 spans)
first_is test spans = best_is test spans _ (best_from test test spans 0 (slice_get (in_turn test 0 spans) 0) refl
    (λ x is. (passing test 0 spans 0 x is).passes)
    (λ q t is p. let s = at_place test spans q t is p in (s.at, omega arith, s.is)))

-- whether one comes after another, by the order of the list
after_from : (x y : Placed) → Goes x y → comes_after x y.place y.span ≡ true
after_from x y g =
    elim (cases_lt y.span.begin x.span.begin) [
      | inl lt ↦ or_left _ _ (lt-ltb y.span.begin x.span.begin lt)
      | inr ge ↦
          let e : y.span.begin ≡ x.span.begin = let b = g.below in omega arith in
          or_right _ _ (and_from _ _ (eq-eqb y.span.begin x.span.begin e) (lt-ltb x.place y.place (g.tie e)))
    ]

after_not : (x y : Placed) → comes_after x y.place y.span ≡ true → NotAfter y.place y.span x.place x.span → ⊥
after_not x y h n =
    elim (or_cases _ _ h) [
      | inl l ↦ let k = ltb-true y.span.begin x.span.begin l in let b = n.below in omega arith
      | inr r ↦ let p = and_parts _ _ r in let e = eqb-true y.span.begin x.span.begin p.0 in let k = ltb-true x.place y.place p.1 in let t = n.tie (sym e) in omega arith
    ]

next_is : (test : ℕ → Span → Bool) (spans : List Span) (i : ℕ) (x : Placed) → slice_get (in_turn test 0 spans) i ≡ Some x
    → place_option (slice_get (in_turn test 0 spans) (suc i)) ≡ place_of (best_by (λ at s. test at s && comes_after x at s) 0 spans)
unfolding item
next_is test spans i x is = best_is (λ at s. test at s && comes_after x at s) spans _ (best_from test (λ at s. test at s && comes_after x at s) spans (suc i) (slice_get (in_turn test 0 spans) (suc i)) refl
    (λ y isy. and_from _ _ (passing test 0 spans (suc i) y isy).passes (after_from x y (in_order (in_turn test 0 spans) (sorted test 0 spans) i (suc i) x y (omega arith) is isy)))
    (λ q t isq p.
    let a = and_parts _ _ p in
    let s = at_place test spans q t isq a.0 in
    elim (cases_lt i s.at) [
      | inl lt ↦ (s.at, omega arith, s.is)
      | inr ge ↦ absurd (after_not x (item q t) a.1 (not_after (item q t) x s.at i (in_turn test 0 spans) (sorted test 0 spans) ge s.is is))
    ]))

record Got (o : Option Placed) (p : ℕ) : Type 0 where
  pub item : Placed
  pub is : o ≡ Some item
  pub place_is : item.place ≡ p

got : (o : Option Placed) (p : ℕ) → place_option o ≡ Some p → Got o p
unfolding place_option
got None p h = absurd cc
got (Some x) p h = record { item = x; is = refl; place_is = cc }

bound_is : (spans : List Span) (x : Placed) (p : ℕ) → slice_get spans x.place ≡ Some x.span → x.place ≡ p → x ≡ placed spans p
unfolding item
bound_is spans x p is e =
    let s : slice_get spans p ≡ Some x.span = subst (λ (n : ℕ). slice_get spans n ≡ Some x.span) e is in
    let g = get_or_from_slice_get spans p x.span (record { begin = 0; end = 0 }) s in
    ap (λ (n : ℕ). item n x.span) e ∙ ap (item p) (sym g)

pub turns : (spans : List Span) (a : ℕ) → IsTurns spans a (covering spans a)
unfolding place_option
turns spans a =
    let test : ℕ → Span → Bool = λ at s. covers s a in
    let xs : List Placed = in_turn test 0 spans in
    record {
      first = slice_get-map (λ (p : Placed). p.place) xs 0 ∙ first_is test spans;
      then_next = λ i p is.
          let g = got (slice_get xs i) p (sym (slice_get-map (λ (p : Placed). p.place) xs i) ∙ is) in
          let b : g.item ≡ placed spans p = bound_is spans g.item p (span_there test spans g.item (passing test 0 spans i g.item g.is)) g.place_is in
          slice_get-map (λ (p : Placed). p.place) xs (suc i) ∙ (next_is test spans i g.item g.is ∙ ap (λ (x : Placed). place_of (best_by (λ at s. covers s a && comes_after x at s) 0 spans)) b);
    }

-- ---- the places of the ranges that cover an address

covering_item : (spans : List Span) (a i p : ℕ) → slice_get (covering spans a) i ≡ Some p → Got (slice_get (in_turn (λ at s. covers s a) 0 spans) i) p
unfolding place_option
covering_item spans a i p is = got (slice_get (in_turn (λ at s. covers s a) 0 spans) i) p (sym (slice_get-map (λ (x : Placed). x.place) (in_turn (λ at s. covers s a) 0 spans) i) ∙ is)

pub covering_within : (spans : List Span) (a i p : ℕ) → slice_get (covering spans a) i ≡ Some p → p < length spans
covering_within spans a i p is =
    let g = covering_item spans a i p is in
    let there = span_there (λ at s. covers s a) spans g.item (passing (λ at s. covers s a) 0 spans i g.item g.is) in
    let k = slice_get_within spans g.item.place g.item.span there in
    let e = g.place_is in
    omega arith

-- no place stands twice
pub once : (spans : List Span) (a i j p : ℕ) → i < j → slice_get (covering spans a) i ≡ Some p → slice_get (covering spans a) j ≡ Some p → ⊥
once spans a i j p lt first second =
    let test : ℕ → Span → Bool = λ at s. covers s a in
    let x = covering_item spans a i p first in
    let y = covering_item spans a j p second in
    let goes = in_order (in_turn test 0 spans) (sorted test 0 spans) i j x.item y.item lt x.is y.is in
    let xs = span_there test spans x.item (passing test 0 spans i x.item x.is) in
    let ys = span_there test spans y.item (passing test 0 spans j y.item y.is) in
    let same : x.item.place ≡ y.item.place = x.place_is ∙ sym y.place_is in
    let begin : y.item.span.begin ≡ x.item.span.begin = same_begin y.item.span x.item.span (sym ys ∙ ap (λ (n : ℕ). slice_get spans n) (sym same) ∙ xs) in
    let tie = goes.tie begin in
    omega arith
  where
    same_begin : (s t : Span) → Some s ≡ Some t → s.begin ≡ t.begin
    same_begin s t e = let k : s ≡ t = cc in ap (λ (z : Span). z.begin) k
