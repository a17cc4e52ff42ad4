-- The chain of nested calls is the path of those that cover.
use Rattle.std.proofs.Common.{◌≡◌, ℕ, zero, suc, ◌+◌, ◌<◌, ◌≤◌, true, eqb, List, [], ◌∷◌, ◌++◌, map, length, Option, Some, None, refl, sym, ap, subst, arith, inl, inr, ◌⊎◌, ◌∙◌}
use Rattle.std.specs.Prelude.{option_map}
use Rattle.std.specs.List.{slice_get}
use Rattle.std.proofs.lemmas.Bool.{and_parts, and_from, eqb-true, eq-eqb, leb-true, ltb-true, le-leb, lt-ltb}
use Rattle.std.proofs.lemmas.Option.{slice_get_within, slice_get-map}
use Rattle.blz_ranges.specs.declared.span.Span.{Span}
use Rattle.blz_ranges.specs.declared.grouped.Grouped.{Grouped}
use Rattle.blz_ranges.specs.Best.{passes, IsBest}
use Rattle.blz_ranges.specs.Groups.{group_is, in_group, spans_of}
use Rattle.blz_ranges.specs.Owned.{Owned, items_of}
use Rattle.blz_ranges.proofs.BestOf.{best_is_best}
use Rattle.blz_functions.specs.Chain.{TreeCall, call_range, ranges_of, owner_found, at_depth, with_next, picked, chain, IsTree, CoveredBy, IsNested, Listed, IsPath}

-- ---- what is picked, for any pick that finds a covering call of each depth

-- a covering call of a depth
record At (calls : List TreeCall) (a depth c : ℕ) : Type 0 where
  pub covered : CoveredBy calls a c
  pub depth_is : covered.call.depth ≡ depth

abbrev IfPicked : List TreeCall → ℕ → ℕ → Option ℕ → Type 0
IfPicked calls a depth None = (c : ℕ) → At calls a depth c → ⊥
IfPicked calls a depth (Some c) = At calls a depth c

same_call : (calls : List TreeCall) (c : ℕ) (x y : TreeCall) → slice_get calls c ≡ Some x → slice_get calls c ≡ Some y → x ≡ y
same_call calls c x y p q = cc

-- the parent of a covering call covers too, one depth up
record Above (calls : List TreeCall) (a depth c : ℕ) : Type 0 where
  pub parent : ℕ
  pub call : TreeCall
  pub is : slice_get calls c ≡ Some call
  pub parent_is : call.parent ≡ Some parent
  pub at : At calls a depth parent

above : (calls : List TreeCall) (a depth c : ℕ) (o : Option ℕ) → IsTree calls → IsNested calls → (h : At calls a (suc depth) c) → h.covered.call.parent ≡ o → Above calls a depth c
above calls a depth c None tree nested h p = let z = tree.top c h.covered.call h.covered.is p in let d = h.depth_is in absurd (omega arith)
above calls a depth c (Some q) tree nested h p =
    let t = tree.below c q h.covered.call h.covered.is p in
    let w = nested.within a c q h.covered.call h.covered.is p h.covered in
    let e : w.call.depth ≡ t.parent.depth = ap (λ (x : TreeCall). x.depth) (same_call calls q w.call t.parent w.is t.is) in
    let d = h.depth_is in
    let f = t.depth in
    record { parent = q; call = h.covered.call; is = h.covered.is; parent_is = p; at = record { covered = w; depth_is = omega arith } }

has_no_parent : (calls : List TreeCall) (a c : ℕ) (o : Option ℕ) → IsTree calls → (h : At calls a 0 c) → h.covered.call.parent ≡ o → o ≡ None
has_no_parent calls a c None tree h p = refl
has_no_parent calls a c (Some q) tree h p = let t = tree.below c q h.covered.call h.covered.is p in let d = h.depth_is in let f = t.depth in absurd (omega arith)

-- only one call of a depth covers
unique : (calls : List TreeCall) (a depth c d : ℕ) → IsTree calls → IsNested calls → At calls a depth c → At calls a depth d → c ≡ d
unique calls a zero c d tree nested h k =
    let p = has_no_parent calls a c h.covered.call.parent tree h refl in
    let q = has_no_parent calls a d k.covered.call.parent tree k refl in
    nested.apart a c d h.covered.call k.covered.call h.covered.is k.covered.is (p ∙ sym q) h.covered k.covered
unique calls a (suc depth) c d tree nested h k =
    let p = above calls a depth c h.covered.call.parent tree nested h refl in
    let q = above calls a depth d k.covered.call.parent tree nested k refl in
    let e : p.parent ≡ q.parent = unique calls a depth p.parent q.parent tree nested p.at q.at in
    let f : p.call.parent ≡ q.call.parent = p.parent_is ∙ (ap (λ (n : ℕ). Some n) e ∙ sym q.parent_is) in
    nested.apart a c d p.call q.call p.is q.is f h.covered k.covered

-- the depth of a call is at most its number
depth_le : (calls : List TreeCall) (n c : ℕ) (x : TreeCall) (o : Option ℕ) → IsTree calls → c < n → slice_get calls c ≡ Some x → x.parent ≡ o → x.depth ≤ c
depth_le calls zero c x o tree lt is p = absurd (omega arith)
depth_le calls (suc n) c x None tree lt is p = let z = tree.top c x is p in omega arith
depth_le calls (suc n) c x (Some q) tree lt is p =
    let t = tree.below c q x is p in
    let b = t.before in
    let h = depth_le calls n q t.parent t.parent.parent tree (omega arith) t.is refl in
    let d = t.depth in
    omega arith

at_same : (calls : List TreeCall) (a m n c d : ℕ) → m ≡ n → c ≡ d → At calls a m c → At calls a n d
at_same calls a m n c d e f h = subst (λ (x : ℕ). At calls a n x) f (subst (λ (x : ℕ). At calls a x c) e h)

-- what is picked stands in its order
next_at : (calls : List TreeCall) (a depth i c : ℕ) (o : Option ℕ) (rest : List ℕ) → IfPicked calls a depth o → ((j d : ℕ) → slice_get rest j ≡ Some d → At calls a (depth + 1 + j) d) → slice_get (with_next o rest) i ≡ Some c → At calls a (depth + i) c
next_at calls a depth i c None rest picks h is = absurd cc
next_at calls a depth zero c (Some x) rest picks h is = let e : x ≡ c = cc in at_same calls a depth (depth + 0) x c (omega arith) e picks
next_at calls a depth (suc i) c (Some x) rest picks h is = at_same calls a (depth + 1 + i) (depth + suc i) c c (omega arith) refl (h i c is)

picked_at : (calls : List TreeCall) (a : ℕ) (pick : ℕ → Option ℕ) → ((k : ℕ) → IfPicked calls a k (pick k)) → (n depth i c : ℕ) → slice_get (picked pick n depth) i ≡ Some c → At calls a (depth + i) c
unfolding picked
picked_at calls a pick picks zero depth i c is = absurd cc
picked_at calls a pick picks (suc n) depth i c is = next_at calls a depth i c (pick depth) (picked pick n (depth + 1)) (picks depth) (λ j d isd. picked_at calls a pick picks n (depth + 1) j d isd) is

-- a covering call has covering ones above it at each depth
record SomeAt (calls : List TreeCall) (a depth : ℕ) : Type 0 where
  pub call : ℕ
  pub at : At calls a depth call

ancestor : (calls : List TreeCall) (a k j c : ℕ) → IsTree calls → IsNested calls → At calls a (k + j) c → SomeAt calls a k
ancestor calls a k zero c tree nested h = record { call = c; at = at_same calls a (k + 0) k c c (omega arith) refl h }
ancestor calls a k (suc j) c tree nested h =
    let g : At calls a (suc (k + j)) c = at_same calls a (k + suc j) (suc (k + j)) c c (omega arith) refl h in
    let p = above calls a (k + j) c g.covered.call.parent tree nested g refl in
    ancestor calls a k j p.parent tree nested p.at

-- every covering call is picked, where there are enough steps
here : (calls : List TreeCall) (a depth c : ℕ) (o : Option ℕ) (rest : List ℕ) → IsTree calls → IsNested calls → IfPicked calls a depth o → At calls a depth c → Listed (with_next o rest) c
here calls a depth c None rest tree nested picks h = absurd (picks c h)
here calls a depth c (Some x) rest tree nested picks h = record { at = 0; is = ap (λ (n : ℕ). Some n) (unique calls a depth x c tree nested picks h) }

later : (calls : List TreeCall) (a depth c : ℕ) (o : Option ℕ) (rest : List ℕ) → IfPicked calls a depth o → SomeAt calls a depth → Listed rest c → Listed (with_next o rest) c
later calls a depth c None rest picks some h = absurd (picks some.call some.at)
later calls a depth c (Some x) rest picks some h = record { at = suc h.at; is = h.is }

all_picked : (calls : List TreeCall) (a : ℕ) (pick : ℕ → Option ℕ) → IsTree calls → IsNested calls → ((k : ℕ) → IfPicked calls a k (pick k)) → (n depth j c : ℕ) → At calls a (depth + j) c → j < n → Listed (picked pick n depth) c
unfolding picked
all_picked calls a pick tree nested picks zero depth j c h lt = absurd (omega arith)
all_picked calls a pick tree nested picks (suc n) depth zero c h lt =
    here calls a depth c (pick depth) (picked pick n (depth + 1)) tree nested (picks depth) (at_same calls a (depth + 0) depth c c (omega arith) refl h)
all_picked calls a pick tree nested picks (suc n) depth (suc j) c h lt =
    later calls a depth c (pick depth) (picked pick n (depth + 1)) (picks depth) (ancestor calls a depth (suc j) c tree nested h)
    (all_picked calls a pick tree nested picks n (depth + 1) j c (at_same calls a (depth + suc j) (depth + 1 + j) c c (omega arith) refl h) (omega arith))

-- ---- the best range of a depth is one of a covering call

record Got {A B : Type 0} (f : A → B) (o : Option A) (y : B) : Type 0 where
  pub from : A
  pub is : o ≡ Some from
  pub to : f from ≡ y

got : {A B : Type 0} (f : A → B) (o : Option A) (y : B) → option_map f o ≡ Some y → Got f o y
got f None y h = absurd cc
got f (Some x) y h = record { from = x; is = refl; to = cc }

record Later {A : Type 0} (xs : List A) (x : A) : Type 0 where
  pub at : ℕ
  pub is : slice_get xs at ≡ Some x

either : (xs ys : List (Owned Grouped)) (i : ℕ) (e : Owned Grouped) → slice_get (xs ++ ys) i ≡ Some e → (slice_get xs i ≡ Some e) ⊎ Later ys e
either [] ys i e h = inr (record { at = i; is = h })
either (x ∷ xs) ys zero e h = inl h
either (x ∷ xs) ys (suc i) e h = either xs ys i e h

in_front : (xs ys : List (Owned Grouped)) (i : ℕ) (e : Owned Grouped) → slice_get xs i ≡ Some e → slice_get (xs ++ ys) i ≡ Some e
in_front [] ys i e h = absurd cc
in_front (x ∷ xs) ys zero e h = h
in_front (x ∷ xs) ys (suc i) e h = in_front xs ys i e h

behind : (xs ys : List (Owned Grouped)) (i : ℕ) (e : Owned Grouped) → slice_get ys i ≡ Some e → Later (xs ++ ys) e
behind [] ys i e h = record { at = i; is = h }
behind (x ∷ xs) ys i e h = let r = behind xs ys i e h in record { at = suc r.at; is = r.is }

-- the call of a range
record Source (n : ℕ) (calls : List TreeCall) (e : Owned Grouped) : Type 0 where
  pub index : ℕ
  pub call : TreeCall
  pub is : slice_get calls index ≡ Some call
  pub call_is : e.owner ≡ n + index
  pub depth_is : e.item.group ≡ call.depth
  pub place : ℕ
  pub at : slice_get call.ranges place ≡ Some e.item.span

source : (n : ℕ) (calls : List TreeCall) (i : ℕ) (e : Owned Grouped) → slice_get (ranges_of n calls) i ≡ Some e → Source n calls e
unfolding ranges_of
source n [] i e h = absurd cc
source n (c ∷ rest) i e h =
    elim (either (map (call_range c.depth n) c.ranges) (ranges_of (n + 1) rest) i e h) [
      | inl p ↦
          let g = got (call_range c.depth n) (slice_get c.ranges i) e (sym (slice_get-map (call_range c.depth n) c.ranges i) ∙ p) in
          record {
            index = 0;
            call = c;
            is = refl;
            call_is = let q : n ≡ e.owner = ap (λ (x : Owned Grouped). x.owner) g.to in omega arith;
            depth_is = sym (ap (λ (x : Owned Grouped). x.item.group) g.to);
            place = i;
            at = g.is ∙ ap (λ (s : Span). Some s) (ap (λ (x : Owned Grouped). x.item.span) g.to);
          }
      | inr p ↦
          let r = source (n + 1) rest p.at e p.is in
          record { index = suc r.index; call = r.call; is = r.is; call_is = let q = r.call_is in omega arith; depth_is = r.depth_is; place = r.place; at = r.at }
    ]

-- a range of a call stands in the list
listed : (n : ℕ) (calls : List TreeCall) (k : ℕ) (call : TreeCall) (place : ℕ) (s : Span) → slice_get calls k ≡ Some call → slice_get call.ranges place ≡ Some s → Later (ranges_of n calls) (call_range call.depth (n + k) s)
unfolding ranges_of
listed n [] k call place s is at = absurd cc
listed n (c ∷ rest) zero call place s is at =
    let e : c ≡ call = cc in
    let there : slice_get c.ranges place ≡ Some s = ap (λ (x : TreeCall). slice_get x.ranges place) e ∙ at in
    let mapped : slice_get (map (call_range c.depth n) c.ranges) place ≡ Some (call_range c.depth n s) = slice_get-map (call_range c.depth n) c.ranges place ∙ ap (option_map (call_range c.depth n)) there in
    let z : n ≡ n + 0 = omega arith in
    let same : call_range c.depth n s ≡ call_range call.depth (n + 0) s = ap (λ (x : TreeCall). call_range x.depth n s) e ∙ ap (λ (m : ℕ). call_range call.depth m s) z in
    record { at = place; is = in_front (map (call_range c.depth n) c.ranges) (ranges_of (n + 1) rest) place (call_range c.depth n s) mapped ∙ ap (λ (x : Owned Grouped). Some x) same }
listed n (c ∷ rest) (suc k) call place s is at =
    let r = listed (n + 1) rest k call place s is at in
    let z : n + 1 + k ≡ n + suc k = omega arith in
    behind (map (call_range c.depth n) c.ranges) (ranges_of (n + 1) rest) r.at (call_range call.depth (n + suc k) s) (r.is ∙ ap (λ (m : ℕ). Some (call_range call.depth m s)) z)

-- what stands at a place of the list, of its groups and of its spans
grouped_there : (ranges : List (Owned Grouped)) (p : ℕ) (e : Owned Grouped) → slice_get ranges p ≡ Some e → slice_get (items_of ranges) p ≡ Some e.item
grouped_there ranges p e is = slice_get-map (λ (x : Owned Grouped). x.item) ranges p ∙ ap (option_map (λ (x : Owned Grouped). x.item)) is

span_there : (ranges : List (Owned Grouped)) (p : ℕ) (e : Owned Grouped) → slice_get ranges p ≡ Some e → slice_get (spans_of (items_of ranges)) p ≡ Some e.item.span
span_there ranges p e is = slice_get-map (λ (x : Grouped). x.span) (items_of ranges) p ∙ ap (option_map (λ (x : Grouped). x.span)) (grouped_there ranges p e is)

record Item (ranges : List (Owned Grouped)) (p : ℕ) (s : Span) : Type 0 where
  pub range : Owned Grouped
  pub is : slice_get ranges p ≡ Some range
  pub span_is : range.item.span ≡ s

item : (ranges : List (Owned Grouped)) (p : ℕ) (s : Span) → slice_get (spans_of (items_of ranges)) p ≡ Some s → Item ranges p s
item [] p s is = absurd cc
item (e ∷ rest) zero s is = record { range = e; is = refl; span_is = cc }
item (e ∷ rest) (suc p) s is = let r = item rest p s is in record { range = r.range; is = r.is; span_is = r.span_is }

picks : (calls : List TreeCall) (a depth : ℕ) (o : Option ℕ) → IsBest (in_group (items_of (ranges_of 0 calls)) depth (passes a None)) (spans_of (items_of (ranges_of 0 calls))) o → IfPicked calls a depth (owner_found (ranges_of 0 calls) o)
picks calls a depth None h = λ c k.
    let v = k.covered in
    let r = listed 0 calls c v.call v.place v.span v.is v.at in
    let there = span_there (ranges_of 0 calls) r.at (call_range v.call.depth (0 + c) v.span) r.is in
    let deep : group_is depth (slice_get (items_of (ranges_of 0 calls)) r.at) ≡ true = ap (group_is depth) (grouped_there (ranges_of 0 calls) r.at (call_range v.call.depth (0 + c) v.span) r.is) ∙ eq-eqb v.call.depth depth k.depth_is in
    h r.at v.span there (and_from _ _ deep (and_from _ _ (le-leb v.span.begin a v.covers.from) (lt-ltb a v.span.end v.covers.below)))
picks calls a depth (Some p) h =
    let g = item (ranges_of 0 calls) p h.span h.at in
    let s = source 0 calls p g.range g.is in
    let t = and_parts _ _ h.passes in
    let deep : eqb g.range.item.group depth ≡ true = sym (ap (group_is depth) (grouped_there (ranges_of 0 calls) p g.range g.is)) ∙ t.0 in
    let d = eqb-true g.range.item.group depth deep in
    let c = and_parts _ _ t.1 in
    let number : s.index ≡ g.range.owner = let q = s.call_is in omega arith in
    let at : At calls a depth s.index = record {
      covered = record { call = s.call; is = s.is; span = h.span; place = s.place; at = s.at ∙ ap (λ (x : Span). Some x) g.span_is; covers = record { from = leb-true h.span.begin a c.0; below = ltb-true a h.span.end c.1 } };
      depth_is = let e = s.depth_is in omega arith;
    } in
    subst (λ (o : Option ℕ). IfPicked calls a depth o) (sym (ap (option_map (λ (e : Owned Grouped). e.owner)) g.is)) (at_same calls a depth depth s.index g.range.owner refl number at)

picked_by_best : (calls : List TreeCall) (a depth : ℕ) → IfPicked calls a depth (at_depth (ranges_of 0 calls) a depth)
picked_by_best calls a depth = picks calls a depth _ (best_is_best (in_group (items_of (ranges_of 0 calls)) depth (passes a None)) (spans_of (items_of (ranges_of 0 calls))))

pub chain_path : (calls : List TreeCall) (a : ℕ) → IsTree calls → IsNested calls → IsPath calls a (chain (ranges_of 0 calls) (length calls) a)
chain_path calls a tree nested =
    let pick : ℕ → Option ℕ = at_depth (ranges_of 0 calls) a in
    let picks : ((k : ℕ) → IfPicked calls a k (pick k)) = picked_by_best calls a in
    record {
      cover = λ i c is. (picked_at calls a pick picks (length calls) 0 i c is).covered;
      all = λ c h.
          let l = slice_get_within calls c h.call h.is in
          let d = depth_le calls (length calls) c h.call h.call.parent tree l h.is refl in
          let z : h.call.depth ≡ 0 + h.call.depth = omega arith in
          all_picked calls a pick tree nested picks (length calls) 0 h.call.depth c (at_same calls a h.call.depth (0 + h.call.depth) c c z refl (record { covered = h; depth_is = refl })) (omega arith);
      first = λ c is.
          let h = at_same calls a (0 + 0) 0 c c (omega arith) refl (picked_at calls a pick picks (length calls) 0 0 c is) in
          record { call = h.covered.call; is = h.covered.is; parent_is = has_no_parent calls a c h.covered.call.parent tree h refl };
      next = λ i c d isc isd.
          let h = picked_at calls a pick picks (length calls) 0 i c isc in
          let k = at_same calls a (0 + suc i) (suc (0 + i)) d d (omega arith) refl (picked_at calls a pick picks (length calls) 0 (suc i) d isd) in
          let p = above calls a (0 + i) d k.covered.call.parent tree nested k refl in
          let e : p.parent ≡ c = unique calls a (0 + i) p.parent c tree nested p.at h in
          record { call = p.call; is = p.is; parent_is = p.parent_is ∙ ap (λ (n : ℕ). Some n) e };
    }

-- the same for the ranges and the number of calls that are kept
pub chain_is_path : (ranges : List (Owned Grouped)) (n a : ℕ) (list : List ℕ) (calls : List TreeCall) → list ≡ chain ranges n a → ranges ≡ ranges_of 0 calls → n ≡ length calls → IsTree calls → IsNested calls → IsPath calls a list
chain_is_path ranges n a list calls e f g tree nested = rw (e, f, g) (chain_path calls a tree nested)
