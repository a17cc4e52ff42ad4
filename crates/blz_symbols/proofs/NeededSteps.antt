-- The places of an accepted order that are kept, one after another.
use Rattle.std.proofs.Common.{◌≡◌, ◌≢◌, ◌⊎◌, inl, inr, ℕ, ◌+◌, ◌<◌, ◌≤◌, Bool, true, false, ◌&&◌, ◌||◌, List, [], ◌∷◌, ◌++◌, length, get_or, refl, arith, eqb, length-append}
use Rattle.std.specs.Prelude.{not}
use Rattle.std.proofs.Math.ListN.{get_or-append}
use Rattle.std.proofs.Math.Seq.{get_or-append_seam}
use Rattle.std.proofs.lemmas.Bool.{eqb-true}
use Rattle.std.proofs.lemmas.Bool.Decides.{nat_tests, eqb_tells}
use Rattle.blz_records.specs.SymbolTypes.{matches}
use Rattle.blz_image.specs.declared.symbols.TableKind.{TableKind}
use Rattle.blz_symbols.specs.declared.question.Question.{Question}
use Rattle.blz_image.specs.declared.symbols.Symbol.{Symbol}
use Rattle.blz_symbols.specs.SymbolRule.{covers, may_answer}
use Rattle.blz_symbols.specs.Accepted.{Before, no_symbol, at_place, IsAccepted}
use Rattle.blz_symbols.specs.Needed.{stands_for, HasStandIn, Answers, AreInside, IsSearchable}
use Rattle.blz_symbols.proofs.Search.{both, together, placed_at}

-- ---- a symbol that stands for another

covers_too : (kind : TableKind) (addr : ℕ) (s t : Symbol) → s.value ≡ t.value → t.size ≤ s.size → (not (eqb t.size 0) || eqb s.size 0) ≡ true → covers kind addr t ≡ true → covers kind addr s ≡ true
covers_too kind addr s t v le sizes c = by (eqb_tells s.size 0) (eqb_tells t.size 0)
  where
    by : ((eqb s.size 0 ≡ true) × (s.size ≡ 0)) ⊎ ((eqb s.size 0 ≡ false) × (s.size ≢ 0)) → ((eqb t.size 0 ≡ true) × (t.size ≡ 0)) ⊎ ((eqb t.size 0 ≡ false) × (t.size ≢ 0)) → covers kind addr s ≡ true
    by (inl a) (inl b) = let h = rw b.0 at c in rw (a.0, v) h
    by (inl a) (inr b) = absurd (let d = b.1 in let z = a.1 in omega arith)
    by (inr a) (inl b) = absurd (let h = rw (b.0, a.0) at sizes in cc)
    by (inr a) (inr b) = let h = rw b.0 at c in rw (a.0) (grind (arith, nat_tests))

or_second : (a b : Bool) → (a || b) ≡ true → not a ≡ true → b ≡ true
or_second true b e f = absurd cc
or_second false b e f = e

pub answers_too : (q : Question) (s t : Symbol) → stands_for s t ≡ true → (s.value ≡ t.value → t.size ≤ s.size) → may_answer q t ≡ true → may_answer q s ≡ true
answers_too q s t stands sizes may =
    let v = both (eqb s.value t.value) _ stands in
    let value = eqb-true s.value t.value v.0 in
    let m = both (not (eqb t.section 0) && covers q.table q.addr t) (matches t.kind q.sym_type) may in
    let d = both (not (eqb t.section 0)) (covers q.table q.addr t) m.0 in
    let r = both (not (eqb s.section 0) && eqb s.kind t.kind) (not (eqb t.size 0) || eqb s.size 0) (or_second (eqb t.section 0) _ v.1 d.0) in
    let k = both (not (eqb s.section 0)) (eqb s.kind t.kind) r.0 in
    let kind = eqb-true s.kind t.kind k.1 in
    together (not (eqb s.section 0) && covers q.table q.addr s) (matches s.kind q.sym_type)
    (together (not (eqb s.section 0)) (covers q.table q.addr s) k.0 (covers_too q.table q.addr s t value (sizes value) r.1 d.1))
    (rw (kind) m.1)

pub same_value : (s t : Symbol) → stands_for s t ≡ true → s.value ≡ t.value
same_value s t stands = let v = both (eqb s.value t.value) _ stands in eqb-true s.value t.value v.0

-- ---- one place more

pub last : (kept : List ℕ) (p : ℕ) → get_or (kept ++ p ∷ []) (length kept) 0 ≡ p
last kept p = get_or-append_seam kept p [] 0

front : (kept : List ℕ) (p a : ℕ) → a < length kept → get_or (kept ++ p ∷ []) a 0 ≡ get_or kept a 0
front kept p a lt = get_or-append kept (p ∷ []) 0 a lt

each_more : (Q : ℕ → Type 0) (kept : List ℕ) (p : ℕ) → ((a : ℕ) → a < length kept → Q (get_or kept a 0)) → Q p → (a : ℕ) → a < length (kept ++ p ∷ []) → Q (get_or (kept ++ p ∷ []) a 0)
each_more Q kept p each new a lt = by (eqb_tells a (length kept))
  where
    by : ((eqb a (length kept) ≡ true) × (a ≡ length kept)) ⊎ ((eqb a (length kept) ≡ false) × (a ≢ length kept)) → Q (get_or (kept ++ p ∷ []) a 0)
    by (inl e) = rw (e.1, last kept p) new
    by (inr n) = let d = n.1 in let h : a < length kept = omega (arith, simp length-append at lt) in rw (front kept p a h) (each a h)

pairs_more : (R : ℕ → ℕ → Type 0) (kept : List ℕ) (p : ℕ) → ((a b : ℕ) → a < b → b < length kept → R (get_or kept a 0) (get_or kept b 0)) → ((a : ℕ) → a < length kept → R (get_or kept a 0) p) → (a b : ℕ) → a < b → b < length (kept ++ p ∷ []) → R (get_or (kept ++ p ∷ []) a 0) (get_or (kept ++ p ∷ []) b 0)
pairs_more R kept p old new a b lt in-list = by (eqb_tells b (length kept))
  where
    by : ((eqb b (length kept) ≡ true) × (b ≡ length kept)) ⊎ ((eqb b (length kept) ≡ false) × (b ≢ length kept)) → R (get_or (kept ++ p ∷ []) a 0) (get_or (kept ++ p ∷ []) b 0)
    by (inl e) = let h : a < length kept = (let z = e.1 in omega arith) in rw (front kept p a h, e.1, last kept p) (new a h)
    by (inr n) = let d = n.1 in let h : b < length kept = omega (arith, simp length-append at in-list) in rw (front kept p a (omega arith), front kept p b h) (old a b lt h)

answers_more : (xs : List Symbol) (kept : List ℕ) (p i : ℕ) → Answers xs kept i → Answers xs (kept ++ p ∷ []) i
answers_more xs kept p i a = record {
  at = a.at;
  inside = simp length-append (let h = a.inside in omega arith);
  value = rw (front kept p a.at a.inside) a.value;
  may = λ q h. rw (front kept p a.at a.inside) (a.may q h);
  order = rw (front kept p a.at a.inside) a.order;
}

-- ---- the places gone over

-- a kept place is one of the first k
pub record IsFrom (places : List ℕ) (k p : ℕ) : Type 0 where
  pub at : ℕ
  pub below : at < k
  pub is : get_or places at 0 ≡ p

abbrev pub Rises : List Symbol → ℕ → ℕ → Type 0
Rises xs p q = Before (get_or xs p no_symbol) p (get_or xs q no_symbol) q

-- What is known when the first k places of an accepted order were gone over.
pub record NeededOf (xs : List Symbol) (places : List ℕ) (k : ℕ) (kept : List ℕ) : Type 0 where
  pub from : (a : ℕ) → a < length kept → IsFrom places k (get_or kept a 0)
  pub every : (j : ℕ) → j < k → Answers xs kept (get_or places j 0)
  pub rising : (a b : ℕ) → a < b → b < length kept → Rises xs (get_or kept a 0) (get_or kept b 0)

pub needed_none : (xs : List Symbol) (places : List ℕ) → NeededOf xs places 0 []
needed_none xs places = record { from = λ a lt. absurd (omega arith); every = λ j lt. absurd (omega arith); rising = λ a b lt in-list. absurd (omega arith) }

pub needed_inside : (xs : List Symbol) (places : List ℕ) (k : ℕ) (kept : List ℕ) → IsAccepted xs places → k ≤ length places → NeededOf xs places k kept → AreInside xs kept
needed_inside xs places k kept acc le n a lt = let f = n.from a lt in rw (← f.is) (acc.inside f.at (let b = f.below in omega arith))

-- the order puts a kept place before the next one
rises_on : (xs : List Symbol) (places : List ℕ) (k : ℕ) (kept : List ℕ) → IsAccepted xs places → k < length places → NeededOf xs places k kept → (a : ℕ) → a < length kept → Rises xs (get_or kept a 0) (get_or places k 0)
rises_on xs places k kept acc lt n a in-list = let f = n.from a in-list in rw (← f.is) (acc.rising f.at k f.below lt)

from_more : (places : List ℕ) (k p : ℕ) → IsFrom places k p → IsFrom places (k + 1) p
from_more places k p f = record { at = f.at; below = (let b = f.below in omega arith); is = f.is }

every_more : (P : ℕ → Type 0) (k : ℕ) → ((j : ℕ) → j < k → P j) → P k → (j : ℕ) → j < k + 1 → P j
every_more P k below here j lt = by (eqb_tells j k)
  where
    by : ((eqb j k ≡ true) × (j ≡ k)) ⊎ ((eqb j k ≡ false) × (j ≢ k)) → P j
    by (inl e) = rw (e.1) here
    by (inr n) = let d = n.1 in below j (omega arith)

pub needed_kept : (xs : List Symbol) (places : List ℕ) (k : ℕ) (kept : List ℕ) → IsAccepted xs places → k < length places → NeededOf xs places k kept → NeededOf xs places (k + 1) (kept ++ get_or places k 0 ∷ [])
needed_kept xs places k kept acc lt n =
    let p = get_or places k 0 in
    record {
      from = each_more (IsFrom places (k + 1)) kept p (λ a h. from_more places k (get_or kept a 0) (n.from a h)) (record { at = k; below = omega arith; is = refl });
      every = every_more (λ j. Answers xs (kept ++ p ∷ []) (get_or places j 0)) k (λ j h. answers_more xs kept p (get_or places j 0) (n.every j h)) (record {
        at = length kept;
        inside = simp length-append (omega arith);
        value = rw (last kept p) refl;
        may = λ q h. rw (last kept p) h;
        order = inl (last kept p);
      });
      rising = pairs_more (Rises xs) kept p n.rising (rises_on xs places k kept acc lt n);
    }

pub needed_left : (xs : List Symbol) (places : List ℕ) (k : ℕ) (kept : List ℕ) → IsAccepted xs places → k < length places → HasStandIn xs kept (at_place xs places k) → NeededOf xs places k kept → NeededOf xs places (k + 1) kept
needed_left xs places k kept acc lt h n =
    let before = rises_on xs places k kept acc lt n h.at h.inside in
    record {
      from = λ a l. from_more places k (get_or kept a 0) (n.from a l);
      every = every_more (λ j. Answers xs kept (get_or places j 0)) k n.every (record {
        at = h.at;
        inside = h.inside;
        value = same_value (at_place xs kept h.at) (at_place xs places k) h.stands;
        may = λ q m. answers_too q (at_place xs kept h.at) (at_place xs places k) h.stands before.by_size m;
        order = inr before;
      });
      rising = n.rising;
    }

pub needed_all : (xs : List Symbol) (places : List ℕ) (k : ℕ) (kept : List ℕ) → IsAccepted xs places → k ≡ length places → NeededOf xs places k kept → IsSearchable xs kept
needed_all xs places k kept acc e n = record {
  inside = needed_inside xs places k kept acc (omega arith) n;
  every = λ i lt. let w = placed_at xs places acc i lt in rw w.is at (n.every w.at (let h = w.inside in omega arith));
  rising = n.rising;
}
