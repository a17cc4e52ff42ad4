-- Going back over the entries of an index.
use Rattle.std.proofs.Common.{◌≡◌, ℕ, zero, suc, ◌-◌, ◌<◌, ◌≤◌, Bool, true, false, ltb, leb, eqb, List, [], ◌∷◌, length, Option, Some, None, refl, ap, subst, arith, inl, inr}
use Rattle.std.specs.List.{slice_get}
use Rattle.std.specs.Prelude.{◌||◌}
use Rattle.std.proofs.lemmas.Bool.{cases_Bool, cases_lt, and_parts, and_from, or_cases, leb-true, leb-false, le-leb, ltb-true, lt-ltb, eqb-true, eq-eqb}
use Rattle.blz_ranges.specs.declared.span.Span.{Span}
use Rattle.blz_ranges.specs.declared.ordered.Ordered.{Ordered}
use Rattle.blz_ranges.specs.declared.placed.Placed.{Placed}
use Rattle.blz_ranges.specs.declared.skips.Skip.{Skip}
use Rattle.blz_ranges.specs.Best.{Covers, NotAfter, covers, comes_after, passes}
use Rattle.blz_ranges.specs.Sorted.{IsOrdered, IsChain}
use Rattle.blz_ranges.specs.Skipping.{AreSkips, IsStepBack}
use Rattle.blz_ranges.specs.Search.{target_at, target_after, IsSplit, tests, IsStart, IsFound, IsPassed}
use Rattle.blz_ranges.proofs.Halving.{same_entry, not_both}

-- what passes covers
pub passing_covers : (a : ℕ) (after : Option Placed) (at : ℕ) (s : Span) → passes a after at s ≡ true → Covers s a
passing_covers a None at s h = let p = and_parts _ _ h in record { from = leb-true s.begin a p.0; below = ltb-true a s.end p.1 }
passing_covers a (Some b) at s h = let q = and_parts _ _ h in let p = and_parts _ _ q.0 in record { from = leb-true s.begin a p.0; below = ltb-true a s.end p.1 }

-- what a test tells of an entry
pub record Tested (g a : ℕ) (e : Ordered) : Type 0 where
  pub group_is : e.group ≡ g
  pub covers : Covers e.span a

pub tested : (g a : ℕ) (after : Option Placed) (e : Ordered) → tests g a after e ≡ true → Tested g a e
tested g a after e h = let p = and_parts _ _ h in record { group_is = eqb-true e.group g p.0; covers = passing_covers a after e.place e.span p.1 }

-- ---- where a search starts

covering : (s : Span) (a : ℕ) → s.begin ≤ a → a < s.end → covers s a ≡ true
covering s a from to = and_from _ _ (le-leb s.begin a from) (lt-ltb a s.end to)

-- what is asked first
pub start_at : (es : List Ordered) (g a high : ℕ) → IsSplit es (target_at g a) high → IsStart es g a None high
start_at es g a high s = record {
  no_later = λ i e lt is. (s.below i e lt is).group_le;
  passing = λ i e lt is same end. and_from _ _ (eq-eqb e.group g same) (covering e.span a ((s.below i e lt is).begin_le same) end);
  past = λ i e le is t.
      let c = tested g a None e t in
      let u = s.above i e le is in
      elim (cases_lt a e.span.begin) [
        | inl lt ↦ omega (arith, c.covers.from)
        | inr ge ↦ not_both true refl (u.not_behind c.group_is (omega (arith, u.begin_le c.group_is)))
      ];
}

or_second : (x y : Bool) → y ≡ true → (x || y) ≡ true
or_second true y h = refl
or_second false y h = h

comes : (b : Placed) (at : ℕ) (s : Span) → s.begin ≤ b.span.begin → (s.begin ≡ b.span.begin → b.place < at) → comes_after b at s ≡ true
comes b at s le tie =
    elim (cases_lt s.begin b.span.begin) [
      | inl lt ↦ rw (lt-ltb s.begin b.span.begin lt) refl
      | inr ge ↦ let e : s.begin ≡ b.span.begin = omega arith in or_second _ _ (and_from _ _ (eq-eqb s.begin b.span.begin e) (lt-ltb b.place at (tie e)))
    ]

-- the order of two ranges, from the test
after_facts : (b : Placed) (at : ℕ) (s : Span) → comes_after b at s ≡ true → (s.begin ≤ b.span.begin) × (s.begin ≡ b.span.begin → b.place < at)
after_facts b at s h =
    elim (or_cases _ _ h) [
      | inl l ↦ let k = ltb-true s.begin b.span.begin l in (omega arith, λ e. absurd (omega arith))
      | inr r ↦ let p = and_parts _ _ r in let k = eqb-true s.begin b.span.begin p.0 in (omega arith, λ e. ltb-true b.place at p.1)
    ]

-- what is asked behind a range
after_low : (es : List Ordered) (g a high : ℕ) (b : Placed) → b.span.begin ≤ a → IsSplit es (record { group = g; begin = b.span.begin; behind = Some b.place }) high → IsStart es g a (Some b) high
after_low es g a high b low s = record {
  no_later = λ i e lt is. (s.below i e lt is).group_le;
  passing = λ i e lt is same end.
      let u = s.below i e lt is in
      let c = u.begin_le same in
      and_from _ _ (eq-eqb e.group g same) (and_from _ _ (covering e.span a (omega arith) end) (comes b e.place e.span c (λ q. ltb-true b.place e.place (u.behind same q))));
  past = λ i e le is t.
      let c = tested g a (Some b) e t in
      let u = s.above i e le is in
      let k = after_facts b e.place e.span (and_parts (covers e.span a) (comes_after b e.place e.span) (and_parts (eqb e.group g) (passes a (Some b) e.place e.span) t).1).1 in
      let q : e.span.begin ≡ b.span.begin = omega (arith, k.0, u.begin_le c.group_is) in
      not_both (ltb b.place e.place) (lt-ltb b.place e.place (k.1 q)) (u.not_behind c.group_is q);
}

after_high : (es : List Ordered) (g a high : ℕ) (b : Placed) → a < b.span.begin → IsSplit es (target_at g a) high → IsStart es g a (Some b) high
after_high es g a high b above s = record {
  no_later = λ i e lt is. (s.below i e lt is).group_le;
  passing = λ i e lt is same end.
      let c = (s.below i e lt is).begin_le same in
      and_from _ _ (eq-eqb e.group g same) (and_from _ _ (covering e.span a c end) (comes b e.place e.span (omega arith) (λ q. absurd (omega arith))));
  past = λ i e le is t.
      let c = tested g a (Some b) e t in
      (start_at es g a high s).past i e le is (and_from _ _ (eq-eqb e.group g c.group_is) (covering e.span a c.covers.from c.covers.below));
}

pub start_after : (es : List Ordered) (g a high : ℕ) (b : Placed) → IsSplit es (target_after g a b.place b.span.begin) high → IsStart es g a (Some b) high
start_after es g a high b s =
    elim (cases_Bool (leb b.span.begin a)) [
      | inl t ↦ after_low es g a high b (leb-true b.span.begin a t) (rw t at s)
      | inr f ↦ after_high es g a high b (leb-false b.span.begin a f) (rw f at s)
    ]

-- ---- its steps

found_none : (es : List Ordered) (g a : ℕ) (after : Option Placed) (high : ℕ) → IsStart es g a after high → IsPassed es g a 0 high → IsFound es g a after None
found_none es g a after high start low = λ i e is t.
    let c = tested g a after e t in
    elim (cases_lt i high) [
      | inl lt ↦ let k = low.low i e (omega arith) lt is c.group_is in omega (arith, c.covers.below)
      | inr ge ↦ start.past i e ge is t
    ]

no_later : (es : List Ordered) (i j : ℕ) (e f : Ordered) → IsOrdered es → i ≤ j → slice_get es i ≡ Some e → slice_get es j ≡ Some f → e.group ≤ f.group
no_later es i j e f ordered le is isf =
    elim (cases_lt i j) [
      | inl lt ↦ (ordered.rises i j e f lt is isf).later
      | inr ge ↦ let q : e.group ≡ f.group = ap (λ (x : Ordered). x.group) (same_entry es i j e f (omega arith) is isf) in omega arith
    ]

-- all before an index are passed, where none of them can end above the address
pub ended : (es : List Ordered) (g a : ℕ) (after : Option Placed) (at high : ℕ) → ((i : ℕ) (f : Ordered) → i < at → slice_get es i ≡ Some f → f.group ≡ g → f.span.end ≤ a) → IsPassed es g a at high → IsStart es g a after high → IsFound es g a after None
ended es g a after at high before passed start = found_none es g a after high start (record {
  within = omega arith;
  low = λ i f ge lt is same. elim (cases_lt i at) [ inl low ↦ before i f low is same | inr on ↦ passed.low i f on lt is same ];
})

-- a group before the one that is searched ends the search
pub stop_by_group : (es : List Ordered) (g a : ℕ) (after : Option Placed) (at high : ℕ) (e : Ordered) → IsOrdered es → 0 < at → slice_get es (at - 1) ≡ Some e → (e.group ≡ g → ⊥) → IsPassed es g a at high → IsStart es g a after high → IsFound es g a after None
stop_by_group es g a after at high e ordered pos is ne passed start = ended es g a after at high (λ i f lt isf same. absurd (
    let w = passed.within in
    let n = start.no_later (at - 1) e (omega arith) is in
    let m = no_later es i (at - 1) f e ordered (omega arith) isf is in
    ne (omega arith))) passed start

pub stop_by_reach : (es : List Ordered) (g a : ℕ) (after : Option Placed) (at high : ℕ) (e : Ordered) → IsOrdered es → 0 < at → slice_get es (at - 1) ≡ Some e → e.group ≡ g → e.reach ≤ a → IsPassed es g a at high → IsStart es g a after high → IsFound es g a after None
stop_by_reach es g a after at high e ordered pos is group le passed start = ended es g a after at high (λ i f lt isf same.
    let r = ordered.reaches i (at - 1) f e (omega arith) isf is (omega arith) in
    omega arith) passed start

pub stop_at_start : (es : List Ordered) (g a : ℕ) (after : Option Placed) (at high : ℕ) → at ≤ 0 → IsPassed es g a at high → IsStart es g a after high → IsFound es g a after None
stop_at_start es g a after at high none passed start = ended es g a after at high (λ i f lt isf same. absurd (omega arith)) passed start

itself : (e f : Ordered) → e ≡ f → NotAfter e.place e.span f.place f.span
itself e f q = subst (λ (x : Ordered). NotAfter e.place e.span x.place x.span) q (record { below = omega arith; tie = λ _. omega arith })

-- the last that ends above the address is the best one
pub found_last : (es : List Ordered) (g a : ℕ) (after : Option Placed) (at high : ℕ) (e : Ordered) → IsOrdered es → 0 < at → slice_get es (at - 1) ≡ Some e → e.group ≡ g → a < e.span.end → IsPassed es g a at high → IsStart es g a after high → IsFound es g a after (Some e)
found_last es g a after at high e ordered pos is group end passed start =
    let w = passed.within in
    record {
      at = at - 1;
      is = is;
      passes = start.passing (at - 1) e (omega arith) is group end;
      first = λ i f isf t.
          let c = tested g a after f t in
          let k = c.group_is in
          elim (cases_lt i at) [
            | inl low ↦ elim (cases_lt i (at - 1)) [
              | inl lt ↦
                  let r = ordered.rises i (at - 1) f e lt isf is in
                  let s : f.group ≡ e.group = omega arith in
                  record { below = r.below s; tie = λ q. let m = r.tie s q in omega arith }
              | inr ge ↦ itself e f (same_entry es (at - 1) i e f (omega arith) is isf)
            ]
            | inr on ↦ elim (cases_lt i high) [
              | inl lt ↦ absurd (let m = passed.low i f on lt isf k in omega (arith, c.covers.below))
              | inr ge ↦ absurd (start.past i f ge isf t)
            ]
          ];
    }

step_there : (skips : List Skip) (i : ℕ) → i < length skips → (s : Skip) × (slice_get skips i ≡ Some s)
step_there [] i lt = absurd (omega arith)
step_there (s ∷ rest) zero lt = (s, refl)
step_there (s ∷ rest) (suc i) lt = step_there rest i (omega arith)

-- an entry that ends too low is passed, and what its step goes over
pub goes_back : (es : List Ordered) (skips : List Skip) (g a at high next : ℕ) (e : Ordered) → AreSkips es skips → 0 < at → at - 1 < length skips → slice_get es (at - 1) ≡ Some e → e.span.end ≤ a → IsStepBack skips (at - 1) a next → IsPassed es g a at high → IsPassed es g a next high
goes_back es skips g a at high next e steps pos lt is end back passed =
    let b = back.back in
    let w = passed.within in
    record {
      within = omega arith;
      low = λ i f ge below isf same. elim (cases_lt i at) [
        | inl low ↦ elim (cases_lt i (at - 1)) [
          | inl deep ↦ over i f ge deep isf
          | inr on ↦ let q : e.span.end ≡ f.span.end = ap (λ (x : Ordered). x.span.end) (same_entry es (at - 1) i e f (omega arith) is isf) in omega arith
        ]
        | inr on ↦ passed.low i f on below isf same
      ];
    }
  where
    over : (i : ℕ) (f : Ordered) → next ≤ i → i < at - 1 → slice_get es i ≡ Some f → f.span.end ≤ a
    over i f ge deep isf =
        let s = step_there skips (at - 1) lt in
        elim (back.over s.0 s.1) [
          | inl stays ↦ absurd (omega arith)
          | inr far ↦ let k = (steps.each (at - 1) s.0 s.1).tops i f (omega (arith, far.0)) (omega arith) isf in omega (arith, far.1)
        ]

-- where entries stand one after another, each is the one that ends last so far
pub reach_is_end : (es : List Ordered) (i : ℕ) (e : Ordered) → IsOrdered es → IsChain es → slice_get es i ≡ Some e → e.reach ≤ e.span.end
reach_is_end es i e ordered chain is =
    let r = ordered.reached i e is in
    elim (cases_lt r.at i) [
      | inl lt ↦ omega (arith, chain.apart r.at i r.entry e lt r.is is r.same_group, chain.nonempty i e is, r.reach_is)
      | inr ge ↦ let q : r.entry.span.end ≡ e.span.end = ap (λ (x : Ordered). x.span.end) (same_entry es r.at i r.entry e (omega (arith, r.within)) r.is is) in omega (arith, r.reach_is)
    ]
