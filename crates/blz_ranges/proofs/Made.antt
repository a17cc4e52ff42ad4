-- An accepted order makes an index.
use Rattle.std.proofs.Common.{◌≡◌, ℕ, zero, suc, ◌<◌, ◌≤◌, eqb, List, [], ◌∷◌, map, length, Some, refl, sym, ap, subst, arith, inl, inr, ◌⊎◌, ◌∙◌}
use Rattle.std.specs.List.{slice_get}
use Rattle.std.proofs.lemmas.Bool.{cases_Bool, cases_lt, eqb-true, eqb-false}
use Rattle.std.proofs.lemmas.List.{length-map}
use Rattle.std.proofs.lemmas.Option.{slice_get_within, slice_get-get_or}
use Rattle.blz_ranges.specs.declared.span.Span.{Span}
use Rattle.blz_bytes.specs.declared.orders.Key.{Key}
use Rattle.blz_bytes.specs.PairOrder.{key_at, IsOrder}
use Rattle.blz_ranges.specs.declared.grouped.Grouped.{Grouped}
use Rattle.blz_ranges.specs.declared.ordered.Ordered.{Ordered}
use Rattle.blz_ranges.specs.Groups.{grouped, grouped_at, no_range}
use Rattle.blz_ranges.specs.Keyed.{AreKeysOf, begin_key, group_key}
use Rattle.blz_ranges.specs.declared.skips.Skip.{Skip}
use Rattle.blz_ranges.specs.Skipping.{AreSkips}
use Rattle.blz_ranges.specs.Turned.{Alike, AreTurned, KeyUpTo, IsFalling}
use Rattle.blz_ranges.proofs.Turning.{falling}
use Rattle.blz_ranges.specs.Sorted.{reach_on, entry_of, in_order, Rises, Reached, Stands, range_of, IsIndexOf}

record Made (list : List Grouped) (places : List ℕ) (i : ℕ) (e : Ordered) : Type 0 where
  pub place_is : slice_get places i ≡ Some e.place
  pub range_is : range_of e ≡ grouped_at list e.place
  pub end_le : e.span.end ≤ e.reach

-- what a reach is
record Reaching (group reach m : ℕ) (x : Grouped) : Type 0 where
  pub end_le : x.span.end ≤ m
  pub on : x.group ≡ group → reach ≤ m
  pub which : ((x.group ≡ group) × (m ≡ reach)) ⊎ (m ≡ x.span.end)

reaching : (group reach : ℕ) (x : Grouped) → Reaching group reach (reach_on group reach x) x
reaching group reach x =
    elim (cases_Bool (eqb x.group group)) [
      | inl t ↦ rw t (record {
        end_le = omega arith;
        on = λ _. omega arith;
        which = elim (cases_lt reach x.span.end) [ inl lt ↦ inr (omega arith) | inr ge ↦ inl (eqb-true x.group group t, omega arith) ];
      })
      | inr f ↦ rw f (record { end_le = omega arith; on = λ q. absurd (eqb-false x.group group f q); which = inr refl })
    ]

made : (list : List Grouped) (group reach : ℕ) (places : List ℕ) (i : ℕ) (e : Ordered) → slice_get (in_order list group reach places) i ≡ Some e → Made list places i e
unfolding in_order
made list group reach [] i e is = absurd cc
made list group reach (p ∷ rest) zero e is =
    let x = grouped_at list p in
    let q : entry_of x p (reach_on group reach x) ≡ e = cc in
    subst (λ (y : Ordered). Made list (p ∷ rest) 0 y) q (record { place_is = refl; range_is = refl; end_le = (reaching group reach x).end_le })
made list group reach (p ∷ rest) (suc i) e is =
    let m = made list (grouped_at list p).group (reach_on group reach (grouped_at list p)) rest i e is in
    record { place_is = m.place_is; range_is = m.range_is; end_le = m.end_le }

-- the groups rise
abbrev Up : List Grouped → List ℕ → Type 0
Up list places = (i j p q : ℕ) → i ≤ j → slice_get places i ≡ Some p → slice_get places j ≡ Some q → (grouped_at list p).group ≤ (grouped_at list q).group

abbrev From : List Grouped → ℕ → List ℕ → Type 0
From list group places = (j q : ℕ) → slice_get places j ≡ Some q → group ≤ (grouped_at list q).group

up_rest : (list : List Grouped) (p : ℕ) (rest : List ℕ) → Up list (p ∷ rest) → Up list rest
up_rest list p rest up = λ i j a b le isa isb. up (suc i) (suc j) a b (omega arith) isa isb

from_rest : (list : List Grouped) (p : ℕ) (rest : List ℕ) → Up list (p ∷ rest) → From list (grouped_at list p).group rest
from_rest list p rest up = λ j q is. up 0 (suc j) p q (omega arith) refl is

-- the group of an entry is that of its range
group_of : (list : List Grouped) (places : List ℕ) (i : ℕ) (e : Ordered) → Made list places i e → e.group ≡ (grouped_at list e.place).group
group_of list places i e m = ap (λ (x : Grouped). x.group) m.range_is

start_le : (list : List Grouped) (group reach : ℕ) (places : List ℕ) (j : ℕ) (f : Ordered) → Up list places → From list group places → slice_get (in_order list group reach places) j ≡ Some f → f.group ≡ group → reach ≤ f.reach
unfolding in_order
start_le list group reach [] j f up from is s = absurd cc
start_le list group reach (p ∷ rest) zero f up from is s =
    let x = grouped_at list p in
    let q : entry_of x p (reach_on group reach x) ≡ f = cc in
    let r : reach_on group reach x ≡ f.reach = ap (λ (y : Ordered). y.reach) q in
    let d : x.group ≡ f.group = ap (λ (y : Ordered). y.group) q in
    let k = (reaching group reach x).on (d ∙ s) in
    omega arith
start_le list group reach (p ∷ rest) (suc j) f up from is s =
    let x = grouped_at list p in
    let m = made list x.group (reach_on group reach x) rest j f is in
    let a = from 0 p refl in
    let b = from_rest list p rest up j f.place m.place_is in
    let c = group_of list rest j f m in
    let t : x.group ≡ group = omega arith in
    let u : f.group ≡ x.group = omega arith in
    let k = (reaching group reach x).on t in
    let h = start_le list x.group (reach_on group reach x) rest j f (up_rest list p rest up) (from_rest list p rest up) is u in
    omega arith

end_within : (list : List Grouped) (group reach : ℕ) (places : List ℕ) (i j : ℕ) (e f : Ordered) → Up list places → i ≤ j → slice_get (in_order list group reach places) i ≡ Some e → slice_get (in_order list group reach places) j ≡ Some f → e.group ≡ f.group → e.span.end ≤ f.reach
unfolding in_order
end_within list group reach [] i j e f up le is isf s = absurd cc
end_within list group reach (p ∷ rest) zero zero e f up le is isf s = let q : e ≡ f = cc in subst (λ (x : Ordered). e.span.end ≤ x.reach) q (made list group reach (p ∷ rest) 0 e is).end_le
end_within list group reach (p ∷ rest) zero (suc j) e f up le is isf s =
    let x = grouped_at list p in
    let q : entry_of x p (reach_on group reach x) ≡ e = cc in
    let ends : x.span.end ≡ e.span.end = ap (λ (y : Ordered). y.span.end) q in
    let d : x.group ≡ e.group = ap (λ (y : Ordered). y.group) q in
    let k = (reaching group reach x).end_le in
    let h = start_le list x.group (reach_on group reach x) rest j f (up_rest list p rest up) (from_rest list p rest up) isf (omega arith) in
    omega arith
end_within list group reach (p ∷ rest) (suc i) zero e f up le is isf s = absurd (omega arith)
end_within list group reach (p ∷ rest) (suc i) (suc j) e f up le is isf s =
    end_within list (grouped_at list p).group (reach_on group reach (grouped_at list p)) rest i j e f (up_rest list p rest up) (omega arith) is isf s

at_front : (list : List Grouped) (group reach p : ℕ) (rest : List ℕ) (j g r : ℕ) → (grouped_at list p).group ≡ g → r ≡ (grouped_at list p).span.end → Reached (in_order list group reach (p ∷ rest)) j g r
unfolding in_order
at_front list group reach p rest j g r s e = record { at = 0; within = omega arith; entry = entry_of (grouped_at list p) p (reach_on group reach (grouped_at list p)); is = refl; same_group = s; reach_is = e }

-- the reach of an entry is the one at the start, or an end up to it
end_reached : (list : List Grouped) (group reach : ℕ) (places : List ℕ) (j : ℕ) (f : Ordered) → slice_get (in_order list group reach places) j ≡ Some f → ((f.group ≡ group) × (f.reach ≡ reach)) ⊎ Reached (in_order list group reach places) j f.group f.reach
unfolding in_order
end_reached list group reach [] j f is = absurd cc
end_reached list group reach (p ∷ rest) zero f is =
    let x = grouped_at list p in
    let q : entry_of x p (reach_on group reach x) ≡ f = cc in
    let r : reach_on group reach x ≡ f.reach = ap (λ (y : Ordered). y.reach) q in
    let d : x.group ≡ f.group = ap (λ (y : Ordered). y.group) q in
    elim (reaching group reach x).which [
      | inl h ↦ inl (sym d ∙ h.0, sym r ∙ h.1)
      | inr h ↦ inr (at_front list group reach p rest 0 f.group f.reach d (sym r ∙ h))
    ]
end_reached list group reach (p ∷ rest) (suc j) f is =
    let x = grouped_at list p in
    elim (end_reached list x.group (reach_on group reach x) rest j f is) [
      | inl h ↦ elim (reaching group reach x).which [
        | inl k ↦ inl (h.0 ∙ k.0, h.1 ∙ k.1)
        | inr k ↦ inr (at_front list group reach p rest (suc j) f.group f.reach (sym h.0) (h.1 ∙ k))
      ]
      | inr h ↦ inr (record { at = suc h.at; within = let w = h.within in omega arith; entry = h.entry; is = h.is; same_group = h.same_group; reach_is = h.reach_is })
    ]

length_in_order : (list : List Grouped) (group reach : ℕ) (places : List ℕ) → length (in_order list group reach places) ≡ length places
unfolding in_order
length_in_order list group reach [] = refl
length_in_order list group reach (p ∷ rest) = ap suc (length_in_order list (grouped_at list p).group (reach_on group reach (grouped_at list p)) rest)

stands : (list : List Grouped) (group reach : ℕ) (places : List ℕ) (i p : ℕ) → slice_get places i ≡ Some p → Stands (in_order list group reach places) p
unfolding in_order
stands list group reach [] i p is = absurd cc
stands list group reach (q ∷ rest) zero p is =
    let x = grouped_at list q in
    record { at = 0; entry = entry_of x q (reach_on group reach x); is = refl; place_is = cc }
stands list group reach (q ∷ rest) (suc i) p is =
    let r = stands list (grouped_at list q).group (reach_on group reach (grouped_at list q)) rest i p is in
    record { at = suc r.at; entry = r.entry; is = r.is; place_is = r.place_is }

up_from : (list : List Grouped) (keys : List Key) (places : List ℕ) → AreKeysOf keys list → IsFalling keys places → Up list places
up_from list keys places of order = λ i j p q le isp isq.
    elim (cases_lt i j) [
      | inl lt ↦ (of.rises p q (order.rises i j p q lt isp isq)).later
      | inr ge ↦
          let e : i ≡ j = omega arith in
          let there : slice_get places j ≡ Some p = subst (λ (n : ℕ). slice_get places n ≡ Some p) e isp in
          let same : p ≡ q = cc in
          let d : (grouped_at list p).group ≡ (grouped_at list q).group = ap (λ (n : ℕ). (grouped_at list n).group) same in
          omega arith
    ]

rises_as : (list : List Grouped) (keys : List Key) (e f : Ordered) → AreKeysOf keys list → range_of e ≡ grouped_at list e.place → range_of f ≡ grouped_at list f.place → KeyUpTo (key_at keys e.place) (key_at keys f.place) → (Alike (key_at keys e.place) (key_at keys f.place) → f.place < e.place) → Rises e f
rises_as list keys e f of p q up tie =
    let a : e.group ≡ (grouped_at list e.place).group = ap (λ (x : Grouped). x.group) p in
    let b : f.group ≡ (grouped_at list f.place).group = ap (λ (x : Grouped). x.group) q in
    let c : e.span.begin ≡ (grouped_at list e.place).span.begin = ap (λ (x : Grouped). x.span.begin) p in
    let d : f.span.begin ≡ (grouped_at list f.place).span.begin = ap (λ (x : Grouped). x.span.begin) q in
    let r = of.rises e.place f.place up in
    record {
      later = let k = r.later in omega arith;
      below = λ s. let k = r.below (sym a ∙ (s ∙ b)) in omega arith;
      tie = λ s t. tie (of.alike e.place f.place (sym a ∙ (s ∙ b)) (sym c ∙ (t ∙ d)));
    }

pub index_made : (list : List Grouped) (keys : List Key) (places : List ℕ) → AreKeysOf keys list → IsFalling keys places → IsIndexOf list (in_order list 0 0 places)
index_made list keys places of order = record {
  same = length_in_order list 0 0 places ∙ (order.same ∙ of.same);
  entry = λ i e is.
      let m = made list 0 0 places i e is in
      let lt : e.place < length list = let k = order.within i e.place m.place_is in let l = of.same in omega arith in
      slice_get-get_or list e.place no_range lt ∙ ap (λ (s : Grouped). Some s) (sym m.range_is);
  every = λ p s is.
      let lt : p < length keys = let k = slice_get_within list p s is in let l = of.same in omega arith in
      let r = order.every p lt in
      stands list 0 0 places r.at p r.is;
  ordered = record {
    rises = λ i j e f lt is isf.
        let m = made list 0 0 places i e is in
        let n = made list 0 0 places j f isf in
        rises_as list keys e f of m.range_is n.range_is (order.rises i j e.place f.place lt m.place_is n.place_is) (order.tie i j e.place f.place lt m.place_is n.place_is);
    reaches = λ i j e f le is isf s. end_within list 0 0 places i j e f (up_from list keys places of order) le is isf s;
    reached = λ j f is.
        elim (end_reached list 0 0 places j f is) [
          | inl z ↦ let m = made list 0 0 places j f is in let r = z.1 in record { at = j; within = omega arith; entry = f; is = is; same_group = refl; reach_is = let k = m.end_le in omega arith }
          | inr r ↦ r
        ];
  };
}

-- Keys by group and begin.
group_key_at : (list : List Grouped) (p : ℕ) → key_at (map group_key list) p ≡ group_key (grouped_at list p)
group_key_at [] p = refl
group_key_at (x ∷ rest) zero = refl
group_key_at (x ∷ rest) (suc p) = group_key_at rest p

pub group_keys_are : (list : List Grouped) → AreKeysOf (map group_key list) list
group_keys_are list = record {
  same = length-map list group_key;
  rises = λ p q b.
      let c : KeyUpTo (group_key (grouped_at list p)) (group_key (grouped_at list q)) =
      subst (λ (k : Key). KeyUpTo k (group_key (grouped_at list q))) (group_key_at list p) (subst (λ (k : Key). KeyUpTo (key_at (map group_key list) p) k) (group_key_at list q) b) in
      record { later = c.first; below = c.second };
  alike = λ p q s t. rw (group_key_at list p, group_key_at list q) (record { first = s; second = t });
}

-- Keys by the begins alone, where there is one group.
begin_key_at : (spans : List Span) (p : ℕ) → key_at (map begin_key spans) p ≡ begin_key (grouped_at (map (grouped 0) spans) p).span
begin_key_at [] p = refl
begin_key_at (x ∷ rest) zero = refl
begin_key_at (x ∷ rest) (suc p) = begin_key_at rest p

one_group_at : (spans : List Span) (p : ℕ) → (grouped_at (map (grouped 0) spans) p).group ≡ 0
one_group_at [] p = refl
one_group_at (x ∷ rest) zero = refl
one_group_at (x ∷ rest) (suc p) = one_group_at rest p

pub begin_keys_are : (spans : List Span) → AreKeysOf (map begin_key spans) (map (grouped 0) spans)
begin_keys_are spans = record {
  same = length-map spans begin_key ∙ sym (length-map spans (grouped 0));
  rises = λ p q b.
      let x = grouped_at (map (grouped 0) spans) p in
      let y = grouped_at (map (grouped 0) spans) q in
      let c : KeyUpTo (begin_key x.span) (begin_key y.span) =
      subst (λ (k : Key). KeyUpTo k (begin_key y.span)) (begin_key_at spans p) (subst (λ (k : Key). KeyUpTo (key_at (map begin_key spans) p) k) (begin_key_at spans q) b) in
      let u = one_group_at spans p in
      let v = one_group_at spans q in
      record { later = omega arith; below = λ _. c.first };
  alike = λ p q s t. rw (begin_key_at spans p, begin_key_at spans q) (record { first = t; second = refl });
}

pub keys_kept : (spans same : List Span) (keys : List Key) (list : List Grouped) → spans ≡ same → keys ≡ map begin_key spans → list ≡ map (grouped 0) same → AreKeysOf keys list
keys_kept spans same keys list e k l = rw (k, l, ← e) (begin_keys_are spans)

-- ---- the same for what stands in the code

pub order_made : (list : List Grouped) (keys : List Key) (places turned slice : List ℕ) (items : List Ordered) → AreKeysOf keys list → IsOrder keys places → AreTurned keys places turned → slice ≡ turned → items ≡ in_order list 0 0 slice → IsIndexOf list items
order_made list keys places turned slice items of order t e is = rw (is, e) (index_made list keys turned of (falling keys places turned order t))

pub index_kept : (list kept slice : List Grouped) (entries order : List Ordered) → kept ≡ list → slice ≡ list → entries ≡ order → IsIndexOf slice order → IsIndexOf kept entries
index_kept list kept slice entries order a b e i = rw (a, e) (rw b at i)

pub skips_kept : (entries order slice : List Ordered) (kept skips : List Skip) → entries ≡ order → slice ≡ order → kept ≡ skips → AreSkips slice skips → AreSkips entries kept
skips_kept entries order slice kept skips a b e i = rw (a, e) (rw b at i)
