-- An accepted order whose runs of like keys are turned round.
use Rattle.std.proofs.Common.{◌≡◌, ℕ, zero, suc, ◌+◌, ◌-◌, ◌<◌, ◌≤◌, true, List, [], ◌∷◌, ◌++◌, length, Some, refl, sym, ap, subst, arith, inl, inr, ◌∙◌}
use Rattle.std.specs.List.{slice_get}
use Rattle.std.proofs.lemmas.Bool.{cases_lt, and_parts, eqb-true}
use Rattle.std.proofs.lemmas.Option.{slice_get_within, slice_get-get_or, get_or_from_slice_get}
use Rattle.blz_bytes.specs.declared.orders.Key.{Key}
use Rattle.blz_bytes.specs.PairOrder.{key_at, IsOrder}
use Rattle.blz_bytes.specs.Rising.{StandsAt}
use Rattle.blz_ranges.specs.declared.turned.Run.{Run}
use Rattle.blz_ranges.specs.Turned.{place_at, key_in, are_alike, Alike, IsRunTo, IsAround, IsBehind, mirrored, IsMirrored, AreTurned, KeyUpTo, IsFalling}
use Rattle.blz_ranges.proofs.ListEnds.{in_front, at_end}

pub tells_alike : (k l : Key) → are_alike k l ≡ true → Alike k l
tells_alike k l h = let p = and_parts _ _ h in record { first = eqb-true k.first l.first p.0; second = eqb-true k.second l.second p.1 }

at_place : (places : List ℕ) (i : ℕ) → i < length places → slice_get places i ≡ Some (place_at places i)
at_place places i lt = slice_get-get_or places i 0 lt

place_is : (places : List ℕ) (i p : ℕ) → slice_get places i ≡ Some p → place_at places i ≡ p
place_is places i p is = get_or_from_slice_get places i p 0 is

-- the keys of an order rise
up_to : (keys : List Key) (places : List ℕ) → IsOrder keys places → (i j : ℕ) → i ≤ j → j < length places → KeyUpTo (key_in keys places i) (key_in keys places j)
up_to keys places order i j le lt =
    elim (cases_lt i j) [
      | inl before ↦
          let b = order.rises i j (place_at places i) (place_at places j) before (at_place places i (omega arith)) (at_place places j lt) in
          record { first = b.first; second = b.second }
      | inr ge ↦
          let e : i ≡ j = omega arith in
          subst (λ (n : ℕ). KeyUpTo (key_in keys places i) (key_in keys places n)) e (record { first = omega arith; second = λ _. omega arith })
    ]

-- a key between two that are alike
between : (k l m : Key) → KeyUpTo k l → KeyUpTo l m → Alike k m → Alike k l
between k l m a b e =
    let f : k.first ≡ l.first = omega (arith, a.first, b.first, e.first) in
    let g : l.first ≡ m.first = omega (arith, a.first, b.first, e.first) in
    record { first = f; second = omega (arith, a.second f, b.second g, e.second) }

turn : (k l : Key) → Alike k l → Alike l k
turn k l a = record { first = sym a.first; second = sym a.second }

then_alike : (k l m : Key) → Alike k l → Alike l m → Alike k m
then_alike k l m a b = record { first = a.first ∙ b.first; second = a.second ∙ b.second }

-- two keys of one run
both_alike : (keys : List Key) (places : List ℕ) (r : Run) (i j : ℕ) → IsRunTo keys places r.from r.to → r.from ≤ i → i < r.to → r.from ≤ j → j < r.to → Alike (key_in keys places i) (key_in keys places j)
both_alike keys places r i j run a b c d = then_alike _ _ _ (run.alike i a b) (turn _ _ (run.alike j c d))

-- an index with a like key lies in the run of a later one
moved_to : (keys : List Key) (places : List ℕ) (r : Run) (i j : ℕ) → IsOrder keys places → i ≤ j → IsAround keys places j r → Alike (key_in keys places i) (key_in keys places j) → r.from ≤ i
moved_to keys places r i j order le around same =
    elim (cases_lt i r.from) [
      | inl lt ↦ absurd (
          let b = around.below in
          let w = around.run.within in
          let a = around.above in
          let m = r.from - 1 in
          let s : suc (r.from - 1) ≡ r.from = omega arith in
          let h = between _ _ _ (up_to keys places order i m (omega arith) (omega arith)) (up_to keys places order m j (omega arith) (omega arith)) same in
          around.before m s (then_alike _ _ _ (turn _ _ h) (then_alike _ _ _ same (around.run.alike j a b))))
      | inr ge ↦ ge
    ]

from_le : (keys : List Key) (places : List ℕ) (r s : Run) (i : ℕ) → IsAround keys places i r → IsAround keys places i s → r.from ≤ s.from
from_le keys places r s i a b =
    elim (cases_lt s.from r.from) [
      | inl lt ↦ absurd (
          let x = a.above in
          let y = b.below in
          let m = r.from - 1 in
          let e : suc (r.from - 1) ≡ r.from = omega arith in
          a.before m e (then_alike _ _ _ (both_alike keys places s m i b.run (omega arith) (omega arith) b.above b.below) (a.run.alike i a.above a.below)))
      | inr ge ↦ ge
    ]

to_le : (keys : List Key) (places : List ℕ) (r s : Run) (i : ℕ) → IsAround keys places i r → IsAround keys places i s → r.to ≤ s.to
to_le keys places r s i a b =
    elim (cases_lt s.to r.to) [
      | inl lt ↦ absurd (
          let x = a.above in
          let y = b.below in
          let w = a.run.within in
          b.run.behind (omega arith) (then_alike _ _ _ (both_alike keys places r s.to i a.run (omega arith) lt a.above a.below) (b.run.alike i b.above b.below)))
      | inr ge ↦ ge
    ]

pub same_image : (keys : List Key) (places : List ℕ) (r s : Run) (i j : ℕ) → IsAround keys places i r → IsAround keys places i s → mirrored r j ≡ mirrored s j
same_image keys places r s i j a b =
    let f = from_le keys places r s i a b in
    let g = from_le keys places s r i b a in
    let t = to_le keys places r s i a b in
    let u = to_le keys places s r i b a in
    let e : r.from ≡ s.from = omega arith in
    let h : r.to ≡ s.to = omega arith in
    rw (e, h) refl

-- the run of an index is that of its image
image_within : (keys : List Key) (places : List ℕ) (r : Run) (i : ℕ) → IsAround keys places i r → IsAround keys places (mirrored r i) r
image_within keys places r i a =
    let x = a.above in
    let y = a.below in
    record { run = a.run; before = a.before; above = omega arith; below = omega arith }

image_alike : (keys : List Key) (places : List ℕ) (r : Run) (i : ℕ) → IsAround keys places i r → Alike (key_in keys places (mirrored r i)) (key_in keys places i)
image_alike keys places r i a =
    let b = image_within keys places r i a in
    both_alike keys places r (mirrored r i) i a.run b.above b.below a.above a.below

-- what stands at an index
record Turned (keys : List Key) (places : List ℕ) (i p : ℕ) : Type 0 where
  pub run : Run
  pub around : IsAround keys places i run
  pub place : slice_get places (mirrored run i) ≡ Some p
  pub alike : Alike (key_at keys p) (key_in keys places i)

stood : (keys : List Key) (places turned : List ℕ) (i p : ℕ) → AreTurned keys places turned → slice_get turned i ≡ Some p → Turned keys places i p
stood keys places turned i p t is =
    let lt : i < length places = let k = slice_get_within turned i p is in let s = t.same in omega arith in
    let m = t.each i lt in
    let inside = image_within keys places m.run i m.around in
    let w = m.around.run.within in
    let b = inside.below in
    let q : place_at places (mirrored m.run i) ≡ p = let h = m.is in cc in
    record {
      run = m.run;
      around = m.around;
      place = at_place places (mirrored m.run i) (omega arith) ∙ ap (λ (n : ℕ). Some n) q;
      alike = subst (λ (n : ℕ). Alike (key_at keys n) (key_in keys places i)) q (image_alike keys places m.run i m.around);
    }

image_falls : (r : Run) (i j : ℕ) → i < j → r.from ≤ i → j < r.to → mirrored r j < mirrored r i
image_falls r i j lt a b = omega arith

falls : (keys : List Key) (places : List ℕ) (i j p q : ℕ) → IsOrder keys places → i < j → Turned keys places i p → Turned keys places j q → Alike (key_at keys p) (key_at keys q) → q < p
falls keys places i j p q order lt t u same =
    let k : Alike (key_in keys places i) (key_in keys places j) = then_alike _ _ _ (turn _ _ t.alike) (then_alike _ _ _ same u.alike) in
    let from = moved_to keys places u.run i j order (omega arith) u.around k in
    let below = u.around.below in
    let around : IsAround keys places i u.run = record { run = u.around.run; before = u.around.before; above = from; below = omega arith } in
    let e = same_image keys places t.run u.run i i t.around around in
    let there : slice_get places (mirrored u.run i) ≡ Some p = subst (λ (n : ℕ). slice_get places n ≡ Some p) e t.place in
    let b = order.rises (mirrored u.run j) (mirrored u.run i) q p (image_falls u.run i j lt from below) u.place there in
    b.tie (sym same.first) (sym same.second)

image_of_image : (r : Run) (i : ℕ) → r.from ≤ i → i < r.to → mirrored r (mirrored r i) ≡ i
image_of_image r i a b = omega arith

stands : (keys : List Key) (places turned : List ℕ) (p : ℕ) → AreTurned keys places turned → StandsAt places p → StandsAt turned p
stands keys places turned p t s =
    let m = t.each s.at (slice_get_within places s.at p s.is) in
    let inside = image_within keys places m.run s.at m.around in
    let w = m.around.run.within in
    let b = inside.below in
    let n = t.each (mirrored m.run s.at) (omega arith) in
    let e = same_image keys places n.run m.run (mirrored m.run s.at) (mirrored m.run s.at) n.around inside in
    let back : mirrored n.run (mirrored m.run s.at) ≡ s.at = e ∙ image_of_image m.run s.at m.around.above m.around.below in
    record { at = mirrored m.run s.at; is = n.is ∙ ap (λ (k : ℕ). Some (place_at places k)) back ∙ ap (λ (k : ℕ). Some k) (place_is places s.at p s.is) }

pub falling : (keys : List Key) (places turned : List ℕ) → IsOrder keys places → AreTurned keys places turned → IsFalling keys turned
falling keys places turned order t = record {
  same = t.same ∙ order.each.same;
  within = λ i p is. let s = stood keys places turned i p t is in order.each.within (mirrored s.run i) p s.place;
  every = λ p lt. stands keys places turned p t (order.each.every p lt);
  rises = λ i j p q lt isp isq.
      let s = stood keys places turned i p t isp in
      let u = stood keys places turned j q t isq in
      let k = up_to keys places order i j (omega arith) (let w = u.around.run.within in let b = u.around.below in omega arith) in
      record { first = omega (arith, s.alike.first, u.alike.first, k.first); second = λ e. omega (arith, s.alike.second, u.alike.second, k.second (omega (arith, s.alike.first, u.alike.first))) };
  tie = λ i j p q lt isp isq same. falls keys places i j p q order lt (stood keys places turned i p t isp) (stood keys places turned j q t isq) same;
}

-- ---- the steps of the code

-- the run that an index begins
pub begun : (keys : List Key) (places : List ℕ) (at to : ℕ) (last : Run) → at < length places → IsBehind keys places at last → at ≡ last.to → IsRunTo keys places at to → IsAround keys places at (record { from = at; to = to })
begun keys places at to last lt behind e run = record {
  run = run;
  before = λ i s same.
      let a = behind.last i s in
      let x = a.above in
      let y = a.below in
      a.run.behind (omega arith) (subst (λ (n : ℕ). Alike (key_in keys places n) (key_in keys places last.from)) e (then_alike _ _ _ (turn _ _ same) (a.run.alike i x y)));
  above = omega arith;
  below = run.some;
}

-- the run that goes on
pub goes_on : (keys : List Key) (places : List ℕ) (at : ℕ) (last : Run) → IsBehind keys places at last → (at ≡ last.to → ⊥) → IsAround keys places at last
goes_on keys places zero last behind ne = absurd (ne (sym (behind.start refl)))
goes_on keys places (suc n) last behind ne = let a = behind.last n refl in let x = a.above in let y = a.below in record { run = a.run; before = a.before; above = omega arith; below = omega arith }

pub next_behind : (keys : List Key) (places : List ℕ) (at : ℕ) (r : Run) → IsAround keys places at r → IsBehind keys places (at + 1) r
next_behind keys places at r a = record {
  start = λ e. absurd (omega arith);
  last = λ i e. let s : at ≡ i = omega arith in subst (λ (n : ℕ). IsAround keys places n r) s a;
}

pub with_image : (keys : List Key) (places old new : List ℕ) (at x : ℕ) (r : Run) → IsAround keys places at r → length old ≡ at → x ≡ place_at places (mirrored r at) → new ≡ old ++ x ∷ [] → ((i : ℕ) → i < at → IsMirrored keys places old i) → (i : ℕ) → i < at + 1 → IsMirrored keys places new i
with_image keys places old new at x r around same x_is new_is each i lt =
    elim (cases_lt i at) [
      | inl before ↦ let m = each i before in record { run = m.run; around = m.around; is = rw new_is (in_front old (x ∷ []) i _ m.is) }
      | inr ge ↦
          let e : length old ≡ i = omega arith in
          let s : at ≡ i = omega arith in
          let there : slice_get new (length old) ≡ Some x = rw new_is (at_end old x) in
          record {
            run = r;
            around = subst (λ (n : ℕ). IsAround keys places n r) s around;
            is = subst (λ (n : ℕ). slice_get new n ≡ Some (place_at places (mirrored r n))) s (subst (λ (n : ℕ). slice_get new n ≡ Some (place_at places (mirrored r at))) same (there ∙ ap (λ (n : ℕ). Some n) x_is));
          }
    ]

pub one_alike : (keys : List Key) (places : List ℕ) (from i : ℕ) → from ≤ i → i < from + 1 → Alike (key_in keys places i) (key_in keys places from)
one_alike keys places from i a b = let e : from ≡ i = omega arith in subst (λ (n : ℕ). Alike (key_in keys places n) (key_in keys places from)) e (record { first = refl; second = refl })

pub one_more_alike : (keys : List Key) (places : List ℕ) (from to i : ℕ) → ((j : ℕ) → from ≤ j → j < to → Alike (key_in keys places j) (key_in keys places from)) → Alike (key_in keys places to) (key_in keys places from) → from ≤ i → i < to + 1 → Alike (key_in keys places i) (key_in keys places from)
one_more_alike keys places from to i each same a b =
    elim (cases_lt i to) [
      | inl lt ↦ each i a lt
      | inr ge ↦ let e : to ≡ i = omega arith in subst (λ (n : ℕ). Alike (key_in keys places n) (key_in keys places from)) e same
    ]

pub no_run : (keys : List Key) (places : List ℕ) (r : Run) → r.to ≡ 0 → IsBehind keys places 0 r
no_run keys places r e = record { start = λ _. e; last = λ i s. absurd (omega arith) }
