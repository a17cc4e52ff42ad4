-- The calls of trees are a tree of calls.
use Rattle.std.proofs.Common.{◌≡◌, ℕ, suc, ◌+◌, List, [], ◌∷◌, ◌++◌, map, length, Option, Some, None, refl, sym, ap, subst, append_assoc, length-append, arith, inl, inr, ◌∙◌}
use Rattle.std.specs.List.{slice_get}
use Rattle.std.proofs.lemmas.Bool.{cases_Bool}
use Rattle.std.proofs.lemmas.List.{append-nil, length-map}
use Rattle.std.proofs.lemmas.Option.{slice_get_within}
use Rattle.blz_model.specs.Reads.{◌>>=◌}
use Rattle.blz_entry.specs.Folds.{fold_maybe}
use Rattle.blz_info.specs.Forest.{Info, Forest, Empty, Node, Grown}
use Rattle.blz_ranges.specs.declared.span.Span.{Span}
use Rattle.blz_functions.specs.declared.description.Description.{Description}
use Rattle.blz_ranges.specs.declared.grouped.Grouped.{Grouped}
use Rattle.blz_functions.specs.CallTree.{CallEntry, CallLists, IsTreeOf, RangedCall, is_call, calls_in, call_by, call_of, all_calls, calls_below, calls_of, calls_with, closed_trees, inlined, no_calls, tree_call, trees_below, with_call}
use Rattle.blz_functions.specs.Chain.{TreeCall, HasParent, IsTree, call_range, ranges_of}
use Rattle.blz_functions.specs.Describing.{Refer, undescribed, description_step}
use Rattle.blz_functions.specs.FunctionList.{is_function}
use Rattle.blz_functions.specs.Leaves.{UnitParts, ranges_in}
use Rattle.blz_ranges.specs.Owned.{Owned}
use Rattle.blz_ranges.proofs.ListEnds.{in_front, at_end, last_or}

-- what stands above a call to come
record Under (before : List TreeCall) (depth p : ℕ) : Type 0 where
  pub parent : TreeCall
  pub is : slice_get before p ≡ Some parent
  pub depth_is : depth ≡ suc parent.depth

abbrev Fits : List TreeCall → ℕ → Option ℕ → Type 0
Fits before depth None = depth ≡ 0
Fits before depth (Some p) = Under before depth p

still : (xs ys : List TreeCall) (depth : ℕ) (o : Option ℕ) → Fits xs depth o → Fits (xs ++ ys) depth o
still xs ys depth None h = h
still xs ys depth (Some p) h = record { parent = h.parent; is = in_front xs ys p h.parent h.is; depth_is = h.depth_is }

fits_top : (xs : List TreeCall) (depth : ℕ) (o : Option ℕ) → Fits xs depth o → o ≡ None → depth ≡ 0
fits_top xs depth None h e = h
fits_top xs depth (Some p) h e = absurd cc

fits_below : (xs : List TreeCall) (x : TreeCall) (o : Option ℕ) (p : ℕ) → Fits xs x.depth o → o ≡ Some p → HasParent (xs ++ x ∷ []) (length xs) p x
fits_below xs x None p h e = absurd cc
fits_below xs x (Some q) p h e =
    let f : q ≡ p = cc in
    let l = slice_get_within xs q h.parent h.is in
    record { parent = h.parent; is = ap (slice_get (xs ++ x ∷ [])) (sym f) ∙ in_front xs (x ∷ []) q h.parent h.is; depth = h.depth_is; before = omega arith }

pushed : (xs : List TreeCall) (x : TreeCall) → IsTree xs → Fits xs x.depth x.parent → IsTree (xs ++ x ∷ [])
pushed xs x tree fits = record {
  top = λ c y is none.
      elim (last_or xs x c y is) [
        | inl h ↦ tree.top c y h none
        | inr h ↦ sym (ap (λ (z : TreeCall). z.depth) h.1) ∙ fits_top xs x.depth x.parent fits (ap (λ (z : TreeCall). z.parent) h.1 ∙ none)
      ];
  below = λ c p y is some.
      elim (last_or xs x c y is) [
        | inl h ↦ let t = tree.below c p y h some in record { parent = t.parent; is = in_front xs (x ∷ []) p t.parent t.is; depth = t.depth; before = t.before }
        | inr h ↦
            let t = fits_below xs x x.parent p fits (ap (λ (z : TreeCall). z.parent) h.1 ∙ some) in
            let d : x.depth ≡ y.depth = ap (λ (z : TreeCall). z.depth) h.1 in
            record { parent = t.parent; is = t.is; depth = sym d ∙ t.depth; before = let b = t.before in let e = h.0 in omega arith }
      ];
}

map_append : (r : Info → List Span) (xs ys : List CallEntry) → map (inlined r) (xs ++ ys) ≡ map (inlined r) xs ++ map (inlined r) ys
map_append r [] ys = refl
map_append r (x ∷ xs) ys = ap (λ (z : List TreeCall). inlined r x ∷ z) (map_append r xs ys)

-- children, then the trees beside them
both : (r : Info → List Span) (start : List TreeCall) (inner beside : List CallEntry) → IsTree ((start ++ map (inlined r) inner) ++ map (inlined r) beside) → IsTree (start ++ map (inlined r) (inner ++ beside))
both r start inner beside h = subst IsTree (append_assoc start (map (inlined r) inner) (map (inlined r) beside) ∙ ap (λ (z : List TreeCall). start ++ z) (sym (map_append r inner beside))) h

grown_by : (r : Info → List Span) (start : List TreeCall) (n : ℕ) (inner : List CallEntry) → length start ≡ n → length (start ++ map (inlined r) inner) ≡ n + length inner
grown_by r start n inner e = let a = length-append start (map (inlined r) inner) in let b = length-map inner (inlined r) in omega arith

tree_on : (r : Info → List Span) (f : Forest) (before : List TreeCall) (depth : ℕ) (parent : Option ℕ) (n : ℕ) → IsTree before → Fits before depth parent → length before ≡ n → IsTree (before ++ map (inlined r) (calls_in depth parent n f))
unfolding calls_in
tree_on r Empty before depth parent n tree fits len = subst IsTree (sym (append-nil before)) tree
tree_on r (Node e closed kids beside) before depth parent n tree fits len =
    elim (cases_Bool (is_call e)) [
      | inl t ↦
          let x : TreeCall = record { depth = depth; parent = parent; ranges = r e } in
          let start : List TreeCall = before ++ x ∷ [] in
          let inner : List CallEntry = calls_in (depth + 1) (Some n) (n + 1) kids in
          let grown : IsTree start = pushed before x tree fits in
          let long : length start ≡ n + 1 = let a = length-append before (x ∷ []) in omega arith in
          let there : slice_get start n ≡ Some x = ap (slice_get start) (sym len) ∙ at_end before x in
          let under : Fits start (depth + 1) (Some n) = record { parent = x; is = there; depth_is = omega arith } in
          let k : IsTree (start ++ map (inlined r) inner) = tree_on r kids start (depth + 1) (Some n) (n + 1) grown under long in
          let l : IsTree ((start ++ map (inlined r) inner) ++ map (inlined r) (calls_in depth parent (n + 1 + length inner) beside)) =
          tree_on r beside (start ++ map (inlined r) inner) depth parent (n + 1 + length inner) k (still start (map (inlined r) inner) depth parent (still before (x ∷ []) depth parent fits)) (grown_by r start (n + 1) inner long) in
          let m : IsTree (start ++ map (inlined r) (inner ++ calls_in depth parent (n + 1 + length inner) beside)) = both r start inner (calls_in depth parent (n + 1 + length inner) beside) l in
          rw t (subst IsTree (append_assoc before (x ∷ []) (map (inlined r) (inner ++ calls_in depth parent (n + 1 + length inner) beside))) m)
      | inr g ↦ elim (cases_Bool (is_function e)) [
        | inl t ↦ rw (g, t) (tree_on r beside before depth parent n tree fits len)
        | inr h ↦
            let inner : List CallEntry = calls_in depth parent n kids in
            let k : IsTree (before ++ map (inlined r) inner) = tree_on r kids before depth parent n tree fits len in
            let l = tree_on r beside (before ++ map (inlined r) inner) depth parent (n + length inner) k (still before (map (inlined r) inner) depth parent fits) (grown_by r before n inner len) in
            rw (g, h) (both r before inner (calls_in depth parent (n + length inner) beside) l)
      ]
    ]

empty : IsTree []
empty = record { top = λ c x is e. absurd cc; below = λ c p x is e. absurd cc }

tree_of_calls : (r : Info → List Span) (f : Forest) → IsTree (map (inlined r) (calls_in 0 None 0 f))
tree_of_calls r f = tree_on r f [] 0 None 0 empty refl refl

-- ---- the calls of a function

abbrev or_empty : Option (List Span) → List Span
or_empty None = []
or_empty (Some ranges) = ranges

-- what an entry covers
abbrev ranges_told : Refer → UnitParts → Info → List Span
ranges_told refer u e = or_empty (fold_maybe (description_step refer u) undescribed e.attributes >>= λ (d : Description). ranges_in u d.ranges)

abbrev ranged : CallEntry → Description → List Span → RangedCall
ranged c d ranges = record { call = call_by d; depth = c.depth; parent = c.parent; ranges = ranges }

abbrev covering : CallEntry → List Span → TreeCall
covering c ranges = record { depth = c.depth; parent = c.parent; ranges = ranges }

by_ranges : (c : CallEntry) (d : Description) (o : Option (List Span)) (k : RangedCall) → (o >>= λ (ranges : List Span). Some (ranged c d ranges)) ≡ Some k → tree_call k ≡ covering c (or_empty o)
by_ranges c d None k h = absurd cc
by_ranges c d (Some ranges) k h = let e : ranged c d ranges ≡ k = cc in ap tree_call (sym e)

by_description : (u : UnitParts) (c : CallEntry) (o : Option Description) (k : RangedCall) → (o >>= λ (d : Description). ranges_in u d.ranges >>= λ (ranges : List Span). Some (ranged c d ranges)) ≡ Some k → tree_call k ≡ covering c (or_empty (o >>= λ (d : Description). ranges_in u d.ranges))
by_description u c None k h = absurd cc
by_description u c (Some d) k h = by_ranges c d (ranges_in u d.ranges) k h

call_inlined : (refer : Refer) (u : UnitParts) (c : CallEntry) (k : RangedCall) → call_of refer u c ≡ Some k → tree_call k ≡ inlined (ranges_told refer u) c
unfolding call_of
call_inlined refer u c k h = by_description u c (fold_maybe (description_step refer u) undescribed c.entry.attributes) k h

all_by : (t : TreeCall) (ts : List TreeCall) (o : Option RangedCall) (p : Option (List RangedCall)) (all : List RangedCall) → (o >>= λ (k : RangedCall). p >>= λ (ks : List RangedCall). Some (k ∷ ks)) ≡ Some all
    → ((k : RangedCall) → o ≡ Some k → tree_call k ≡ t) → ((ks : List RangedCall) → p ≡ Some ks → map tree_call ks ≡ ts) → map tree_call all ≡ t ∷ ts
all_by t ts None p all h f g = absurd cc
all_by t ts (Some k) None all h f g = absurd cc
all_by t ts (Some k) (Some ks) all h f g =
    let e : k ∷ ks ≡ all = cc in
    ap (map tree_call) (sym e) ∙ (ap (λ (x : TreeCall). x ∷ map tree_call ks) (f k refl) ∙ ap (λ (l : List TreeCall). t ∷ l) (g ks refl))

all_inlined : (refer : Refer) (u : UnitParts) (cs : List CallEntry) (ks : List RangedCall) → all_calls refer u cs ≡ Some ks → map tree_call ks ≡ map (inlined (ranges_told refer u)) cs
unfolding all_calls
all_inlined refer u [] ks h = let e : [] ≡ ks = cc in ap (map tree_call) (sym e)
all_inlined refer u (c ∷ cs) ks h =
    all_by (inlined (ranges_told refer u) c) (map (inlined (ranges_told refer u)) cs) (call_of refer u c) (all_calls refer u cs) ks h (λ k e. call_inlined refer u c k e) (λ rest e. all_inlined refer u cs rest e)

by_trees : (refer : Refer) (u : UnitParts) (o : Option Forest) (ks : List RangedCall) → (o >>= λ (trees : Forest). all_calls refer u (calls_in 0 None 0 trees)) ≡ Some ks → IsTree (map tree_call ks)
by_trees refer u None ks h = absurd cc
by_trees refer u (Some f) ks h = subst IsTree (sym (all_inlined refer u (calls_in 0 None 0 f) ks h)) (tree_of_calls (ranges_told refer u) f)

by_grown : (refer : Refer) (u : UnitParts) (o : Option Grown) (ks : List RangedCall) → (o >>= calls_below refer u) ≡ Some ks → IsTree (map tree_call ks)
by_grown refer u None ks h = absurd cc
by_grown refer u (Some g) ks h = by_trees refer u (closed_trees g) ks h

calls_tree : (refer : Refer) (u : UnitParts) (place : ℕ) (ks : List RangedCall) → calls_of refer u place ≡ Some ks → IsTree (map tree_call ks)
unfolding calls_of
calls_tree refer u place ks h = by_grown refer u (trees_below u place) ks h

listed_ranges : (l : CallLists) (ks : List RangedCall) → (calls_with l ks).ranges ≡ l.ranges ++ ranges_of (length l.calls) (map tree_call ks)
unfolding ranges_of
listed_ranges l [] = sym (append-nil l.ranges)
listed_ranges l (k ∷ ks) =
    let n = length l.calls in
    let own : List (Owned Grouped) = map (call_range k.depth n) k.ranges in
    let e : length (l.calls ++ k.call ∷ []) ≡ n + 1 = length-append l.calls (k.call ∷ []) in
    listed_ranges (with_call l k.call k.depth k.ranges) ks
    ∙ (ap (λ (m : ℕ). (l.ranges ++ own) ++ ranges_of m (map tree_call ks)) e ∙ append_assoc l.ranges own (ranges_of (n + 1) (map tree_call ks)))

listed_count : (l : CallLists) (ks : List RangedCall) → length (calls_with l ks).calls ≡ length l.calls + length (map tree_call ks)
listed_count l [] = omega arith
listed_count l (k ∷ ks) =
    let h = listed_count (with_call l k.call k.depth k.ranges) ks in
    let e : length (l.calls ++ k.call ∷ []) ≡ length l.calls + 1 = length-append l.calls (k.call ∷ []) in
    omega arith

pub calls_are_tree : (refer : Refer) (u : UnitParts) (place : ℕ) (ks : List RangedCall) → calls_of refer u place ≡ Some ks → IsTreeOf (calls_with no_calls ks) (map tree_call ks)
calls_are_tree refer u place ks h = record { ranges = listed_ranges no_calls ks; count = let k = listed_count no_calls ks in omega arith; is_tree = calls_tree refer u place ks h }
