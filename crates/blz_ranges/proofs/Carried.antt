-- From the entries of an index to the ranges of its list.
use Rattle.std.proofs.Common.{◌≡◌, ℕ, zero, suc, true, eqb, List, [], ◌∷◌, Option, Some, None, refl, sym, ap, subst, arith, inl, inr, ◌∙◌}
use Rattle.std.specs.Prelude.{option_map}
use Rattle.std.specs.List.{slice_get}
use Rattle.std.proofs.lemmas.Bool.{and_parts, and_from}
use Rattle.std.proofs.lemmas.Option.{slice_get-map, get_or_from_slice_get}
use Rattle.blz_ranges.specs.declared.span.Span.{Span}
use Rattle.blz_ranges.specs.declared.placed.Placed.{Placed}
use Rattle.blz_ranges.specs.declared.grouped.Grouped.{Grouped}
use Rattle.blz_ranges.specs.declared.ordered.Ordered.{Ordered}
use Rattle.blz_ranges.specs.Best.{no_span, placed, best_by, place_of, passes, IsBest}
use Rattle.blz_ranges.specs.Groups.{group_is, spans_of, in_group, best_in, next_in, AreApartInGroups}
use Rattle.blz_ranges.specs.Sorted.{range_of, IsIndexOf, IsChain}
use Rattle.blz_ranges.specs.Search.{tests, IsFound, place_found}
use Rattle.blz_ranges.proofs.BestOf.{best_is}

record Source (list : List Grouped) (q : ℕ) (t : Span) : Type 0 where
  pub item : Grouped
  pub is : slice_get list q ≡ Some item
  pub span_is : item.span ≡ t

source : (list : List Grouped) (q : ℕ) (t : Span) → slice_get (spans_of list) q ≡ Some t → Source list q t
source [] q t h = absurd cc
source (x ∷ xs) zero t h = record { item = x; is = refl; span_is = cc }
source (x ∷ xs) (suc q) t h = let r = source xs q t h in record { item = r.item; is = r.is; span_is = r.span_is }

-- a range that passes has its entry in the order
record Held (list : List Grouped) (es : List Ordered) (g a : ℕ) (after : Option Placed) (q : ℕ) (t : Span) : Type 0 where
  pub at : ℕ
  pub entry : Ordered
  pub is : slice_get es at ≡ Some entry
  pub place_is : entry.place ≡ q
  pub span_is : entry.span ≡ t
  pub passes : tests g a after entry ≡ true

passes_at : (a : ℕ) (after : Option Placed) (p q : ℕ) (s t : Span) → p ≡ q → s ≡ t → passes a after q t ≡ true → passes a after p s ≡ true
passes_at a after p q s t e f h =
    let k = subst (λ (n : ℕ). passes a after n t ≡ true) (sym e) h in
    subst (λ (x : Span). passes a after p x ≡ true) (sym f) k

held : (list : List Grouped) (es : List Ordered) (g a : ℕ) (after : Option Placed) (q : ℕ) (t : Span) → IsIndexOf list es → slice_get (spans_of list) q ≡ Some t → in_group list g (passes a after) q t ≡ true → Held list es g a after q t
held list es g a after q t index is p =
    let s = source list q t is in
    let h = index.every q s.item s.is in
    let k : slice_get list q ≡ Some (range_of h.entry) = subst (λ (n : ℕ). slice_get list n ≡ Some (range_of h.entry)) h.place_is (index.entry h.at h.entry h.is) in
    let w : s.item ≡ range_of h.entry = cc in
    let span : h.entry.span ≡ t = sym (ap (λ (x : Grouped). x.span) w) ∙ s.span_is in
    let c = and_parts _ _ p in
    let group : eqb h.entry.group g ≡ true = sym (ap (group_is g) k) ∙ c.0 in
    record { at = h.at; entry = h.entry; is = h.is; place_is = h.place_is; span_is = span; passes = and_from _ _ group (passes_at a after h.entry.place q h.entry.span t h.place_is span c.1) }

carried : (list : List Grouped) (es : List Ordered) (g a : ℕ) (after : Option Placed) (best : Option Ordered) → IsIndexOf list es → IsFound es g a after best → IsBest (in_group list g (passes a after)) (spans_of list) (place_found best)
carried list es g a after None index h = λ q t is p. let k = held list es g a after q t index is p in h k.at k.entry k.is k.passes
carried list es g a after (Some b) index h =
    let x = index.entry h.at b h.is in
    let c = and_parts _ _ h.passes in
    record {
      span = b.span;
      at = slice_get-map (λ (e : Grouped). e.span) list b.place ∙ ap (option_map (λ (e : Grouped). e.span)) x;
      passes = and_from _ _ (ap (group_is g) x ∙ c.0) c.1;
      first = λ q t is p.
          let k = held list es g a after q t index is p in
          let n = h.first k.at k.entry k.is k.passes in
          let begins : k.entry.span.begin ≡ t.begin = ap (λ (s : Span). s.begin) k.span_is in
          let place = k.place_is in
          record { below = omega (arith, n.below); tie = λ r. let m = n.tie (begins ∙ r) in omega arith };
    }

found_by : (list : List Grouped) (es : List Ordered) (g a : ℕ) (after : Option Placed) (best : Option Ordered) → IsIndexOf list es → IsFound es g a after best → place_found best ≡ place_of (best_by (in_group list g (passes a after)) 0 (spans_of list))
found_by list es g a after best index h = best_is (in_group list g (passes a after)) (spans_of list) (place_found best) (carried list es g a after best index h)

pub best_found_in : (list : List Grouped) (es : List Ordered) (g a : ℕ) (best : Option Ordered) → IsIndexOf list es → IsFound es g a None best → place_found best ≡ best_in list g a
best_found_in list es g a best index h = found_by list es g a None best index h

bound_at : ℕ → Span → Placed
bound_at bound s = record { place = bound; span = s }

pub placed_is : (list : List Grouped) (bound : ℕ) (x : Grouped) → slice_get list bound ≡ Some x → placed (spans_of list) bound ≡ record { place = bound; span = x.span }
unfolding bound_at
placed_is list bound x is =
    let s : slice_get (spans_of list) bound ≡ Some x.span = slice_get-map (λ (e : Grouped). e.span) list bound ∙ ap (option_map (λ (e : Grouped). e.span)) is in
    ap (bound_at bound) (get_or_from_slice_get (spans_of list) bound x.span no_span s)

pub next_scanned : (list : List Grouped) (g a bound : ℕ) (x : Grouped) (r : Option ℕ) → slice_get list bound ≡ Some x
    → r ≡ place_of (best_by (in_group list g (passes a (Some (record { place = bound; span = x.span })))) 0 (spans_of list)) → r ≡ next_in list g a bound
next_scanned list g a bound x r is h = h ∙ ap (λ (b : Placed). place_of (best_by (in_group list g (passes a (Some b))) 0 (spans_of list))) (sym (placed_is list bound x is))

pub next_found : (list : List Grouped) (es : List Ordered) (g a bound : ℕ) (x : Grouped) (best : Option Ordered) → IsIndexOf list es → slice_get list bound ≡ Some x
    → IsFound es g a (Some (record { place = bound; span = x.span })) best → place_found best ≡ next_in list g a bound
next_found list es g a bound x best index is h = next_scanned list g a bound x (place_found best) is (found_by list es g a (Some (record { place = bound; span = x.span })) best index h)

-- ranges apart stand one after another in their order
pub chained : (list : List Grouped) (es : List Ordered) → IsIndexOf list es → AreApartInGroups list → IsChain es
chained list es index apart = record {
  nonempty = λ i e is. apart.nonempty e.place (range_of e) (index.entry i e is);
  apart = λ i j e f lt is isf s.
      let r = index.ordered.rises i j e f lt is isf in
      let x = index.entry i e is in
      let y = index.entry j f isf in
      let ne = apart.nonempty e.place (range_of e) x in
      let nf = apart.nonempty f.place (range_of f) y in
      let b = r.below s in
      let differ : (e.place ≡ f.place → ⊥) = λ q.
      let z : slice_get list f.place ≡ Some (range_of e) = subst (λ (n : ℕ). slice_get list n ≡ Some (range_of e)) q x in
      let w : range_of e ≡ range_of f = cc in
      let v : e.span.begin ≡ f.span.begin = ap (λ (u : Grouped). u.span.begin) w in
      let t = r.tie s v in omega arith
      in
      elim (apart.apart e.place f.place (range_of e) (range_of f) differ x y s) [ inl h ↦ h | inr h ↦ absurd (omega arith) ];
}
