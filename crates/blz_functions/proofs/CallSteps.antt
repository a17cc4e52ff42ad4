-- One entry more below a function, and the calls that were met.
use Rattle.std.proofs.Common.{◌≡◌, ℕ, ◌-◌, ◌<◌, ◌≤◌, Bool, true, false, eqb, cond, List, [], ◌∷◌, ◌++◌, length, take, Option, Some, None, refl, sym, ap, subst, ◌∙◌, arith, inl, inr, length-append}
use Rattle.std.specs.Prelude.{is_some, nat_lt}
use Rattle.std.specs.List.{slice_get}
use Rattle.std.proofs.lemmas.Bool.{ltb-false, eq-eqb}
use Rattle.blz_model.specs.Reads.{Read, ◌>>=◌}
use Rattle.blz_info.specs.Forest.{Info, Head, Close, Open, Forest, Empty, Node, Grown, leaf, grown_step, Leads}
use Rattle.blz_info.specs.Walks.{Walk, head_at, next_of, skipped_of}
use Rattle.blz_info.specs.declared.entries.Entry.{Entry}
use Rattle.blz_info.specs.declared.forms.value.AttrValue.{AttrValue}
use Rattle.blz_info.proofs.Preorder.{IfEnds}
use Rattle.blz_functions.specs.declared.levels.Above.{Above}
use Rattle.blz_functions.specs.declared.levels.Above.TheVariants.{Calls}
use Rattle.blz_functions.specs.CallTree.{CallLists, RangedCall, all_closed, children, calls_below, calls_of, trees_below, calls_with, calls_from, no_calls, lists_below, unit_calls}
use Rattle.blz_functions.specs.CallWalk.{below_tag, innermost, closed_level, levels_behind, call_depth, call_behind, call_met}
use Rattle.blz_functions.specs.declared.description.Description.{Description}
use Rattle.blz_functions.specs.Describing.{Refer, described_if}
use Rattle.blz_functions.specs.Leaves.{UnitParts, source_in}
use Rattle.blz_functions.proofs.Binds.{bind_same, bind_bind, bind_fails, bind_some}
use Rattle.blz_ranges.proofs.ListEnds.{at_end, before_end}
use Rattle.blz_functions.proofs.MetEntries.{MetZero, MetEntry, info_of, values_of, head_zero, head_entry, leads_on, description_if, described_entry, described_zero, met_next, stuck_next, end_next}
use Rattle.blz_functions.proofs.Trees.{IfOpen, AreClosed, trees_from, children_on, children_end, children_ends, closed_children, then_node}
use Rattle.blz_functions.proofs.WithTrees.{entry_adds, told, met_adds, with_trees, trees_are}

abbrev Place : Type 0
Place = CallLists × ℕ

abbrev none_place : Option Place
none_place = None

abbrev heads : UnitParts → ℕ → Option Head
heads u = head_at (source_in u)

-- ---- one level

-- the calls of the trees of a level that a zero ends, and the place behind it
abbrev closing : Refer → UnitParts → Above → CallLists → Grown → Option Place
closing refer u x l g = cond g.closed (with_trees refer u x l g.forest >>= told g.after) None

abbrev level_end : Refer → UnitParts → Above → Place → Option Place
level_end refer u x p = children (heads u) u.header.end p.1 >>= closing refer u x p.0

abbrev below_from : UnitParts → Bool → ℕ → Option Grown
below_from u = trees_from (heads u) u.header.end

by_head : (refer : Refer) (u : UnitParts) (x : Above) (l : CallLists) (at : ℕ) (h : Option Head) → at < u.header.end → heads u at ≡ h → level_end refer u x (l, at) ≡ (grown_step false h (below_from u) >>= closing refer u x l)
by_head refer u x l at h lt is = ap (λ (o : Option Grown). o >>= closing refer u x l) (children_on (heads u) u.header.end (leads_on u) at lt ∙ ap (λ (o : Option Head). grown_step false o (below_from u)) is)

level_zero : (refer : Refer) (u : UnitParts) (x : Above) (l : CallLists) (at next : ℕ) → at < u.header.end → heads u at ≡ Some (Close next) → level_end refer u x (l, at) ≡ told next l
unfolding with_trees
level_zero refer u x l at next lt is = by_head refer u x l at (Some (Close next)) lt is

level_stuck : (refer : Refer) (u : UnitParts) (x : Above) (l : CallLists) (at : ℕ) → at < u.header.end → heads u at ≡ None → level_end refer u x (l, at) ≡ None
level_stuck refer u x l at lt is = by_head refer u x l at None lt is

open_closing : (refer : Refer) (u : UnitParts) (x : Above) (l : CallLists) (o : Option Grown) → IfOpen o → (o >>= closing refer u x l) ≡ None
open_closing refer u x l None h = refl
open_closing refer u x l (Some g) h = ap (λ (b : Bool). cond b (with_trees refer u x l g.forest >>= told g.after) None) h

level_over : (refer : Refer) (u : UnitParts) (x : Above) (l : CallLists) (at : ℕ) → u.header.end ≤ at → level_end refer u x (l, at) ≡ None
level_over refer u x l at le = open_closing refer u x l (children (heads u) u.header.end at) (children_end (heads u) u.header.end at le)

-- what an entry of the level adds
abbrev adds : Refer → UnitParts → Above → CallLists → Info → Option CallLists
adds refer u x l e = entry_adds refer u (call_depth (Some x) e.tag) l e

leaf_by : (refer : Refer) (u : UnitParts) (x : Above) (l : CallLists) (e : Info) (closed : Bool) (forest : Forest) (after : ℕ)
    → cond closed (with_trees refer u x l (Node e true Empty forest) >>= told after) None ≡ (adds refer u x l e >>= λ (m : CallLists). cond closed (with_trees refer u x m forest >>= told after) None)
unfolding with_trees
leaf_by refer u x l e true forest after = bind_bind (adds refer u x l e) (λ (m : CallLists). with_trees refer u x m forest) (told after)
leaf_by refer u x l e false forest after = sym (bind_fails (adds refer u x l e) (λ (m : CallLists). none_place) (λ m. refl))

leaf_told : (refer : Refer) (u : UnitParts) (x : Above) (l : CallLists) (e : Info) (o : Option Grown) → ((o >>= λ (b : Grown). Some (leaf e b)) >>= closing refer u x l) ≡ (adds refer u x l e >>= λ (m : CallLists). o >>= closing refer u x m)
leaf_told refer u x l e None = sym (bind_fails (adds refer u x l e) (λ (m : CallLists). none_place) (λ m. refl))
leaf_told refer u x l e (Some b) = leaf_by refer u x l e b.closed b.forest b.after

level_leaf : (refer : Refer) (u : UnitParts) (x : Above) (l : CallLists) (e : Info) (at next : ℕ) → at < u.header.end → heads u at ≡ Some (Open false e next) → level_end refer u x (l, at) ≡ (adds refer u x l e >>= λ (m : CallLists). level_end refer u x (m, next))
level_leaf refer u x l e at next lt is = by_head refer u x l at (Some (Open false e next)) lt is ∙ leaf_told refer u x l e (children (heads u) u.header.end next)

-- the children of an entry, and the trees beside it
module _ (refer : Refer) (u : UnitParts) (x : Above) (l : CallLists) (e : Info) where
  abbrev inner : CallLists → Forest → Option CallLists
  inner m kids = with_trees refer u (below_tag x e.tag) m kids

  abbrev outer : CallLists → Forest → Option CallLists
  outer k beside = with_trees refer u x k beside

  no_kids : (kids : Forest) → None ≡ (adds refer u x l e >>= λ (m : CallLists). inner m kids >>= λ (k : CallLists). none_place)
  no_kids kids = sym (bind_fails (adds refer u x l e) (λ (m : CallLists). inner m kids >>= λ (k : CallLists). none_place) (λ m. bind_fails (inner m kids) (λ (k : CallLists). none_place) (λ k. refl)))

  both_by : (shut : Bool) (kids : Forest) (closed : Bool) (forest : Forest) (after : ℕ)
      → cond closed (with_trees refer u x l (Node e shut kids forest) >>= told after) None ≡ (adds refer u x l e >>= λ (m : CallLists). inner m kids >>= λ (k : CallLists). cond closed (outer k forest >>= told after) None)
  unfolding with_trees
  both_by shut kids true forest after =
      bind_bind (adds refer u x l e) (λ (m : CallLists). inner m kids >>= λ (k : CallLists). outer k forest) (told after)
      ∙ bind_same (adds refer u x l e) _ _ (λ (m : CallLists). bind_bind (inner m kids) (λ (k : CallLists). outer k forest) (told after))
  both_by shut kids false forest after = no_kids kids

  both_told : (kids : Grown) (o : Option Grown) → (then_node e kids o >>= closing refer u x l) ≡ (adds refer u x l e >>= λ (m : CallLists). inner m kids.forest >>= λ (k : CallLists). o >>= closing refer u x k)
  both_told kids None = no_kids kids.forest
  both_told kids (Some b) = both_by kids.closed kids.forest b.closed b.forest b.after

  open_node : (kids : Grown) (o : Option Grown) → IfOpen o → (then_node e kids o >>= closing refer u x l) ≡ None
  open_node kids None h = refl
  open_node kids (Some b) h = ap (λ (shut : Bool). cond shut (with_trees refer u x l (Node e kids.closed kids.forest b.forest) >>= told b.after) None) h

  kids_by : (kids : Forest) (closed : Bool) (after : ℕ) → let g : Grown = record { forest = kids; closed = closed; after = after } in
      (closed ≡ false → IfOpen (children (heads u) u.header.end after))
      → (then_node e g (children (heads u) u.header.end after) >>= closing refer u x l) ≡ (adds refer u x l e >>= λ (m : CallLists). closing refer u (below_tag x e.tag) m g >>= level_end refer u x)
  kids_by kids true after h =
      both_told (record { forest = kids; closed = true; after = after }) (children (heads u) u.header.end after)
      ∙ bind_same (adds refer u x l e) _ _ (λ (m : CallLists). sym (bind_bind (inner m kids) (told after) (level_end refer u x)))
  kids_by kids false after h = open_node (record { forest = kids; closed = false; after = after }) (children (heads u) u.header.end after) (h refl) ∙ sym (bind_fails (adds refer u x l e) (λ (m : CallLists). none_place) (λ m. refl))

  kids_told : (n : ℕ) (o : Option Grown) → IfEnds u.header.end false n o
      → ((o >>= λ (g : Grown). then_node e g (children (heads u) u.header.end g.after)) >>= closing refer u x l) ≡ (adds refer u x l e >>= λ (m : CallLists). (o >>= closing refer u (below_tag x e.tag) m) >>= level_end refer u x)
  kids_told n None ok = sym (bind_fails (adds refer u x l e) (λ (m : CallLists). none_place) (λ m. refl))
  kids_told n (Some g) ok = kids_by g.forest g.closed g.after (λ f. children_end (heads u) u.header.end g.after (ok.open_at_end f))

  level_node : (at next : ℕ) → at < u.header.end → heads u at ≡ Some (Open true e next) → level_end refer u x (l, at) ≡ (adds refer u x l e >>= λ (m : CallLists). level_end refer u (below_tag x e.tag) (m, next) >>= level_end refer u x)
  level_node at next lt is =
      let le : next ≤ u.header.end = (leads_on u at next lt (subst (λ (h : Option Head). Leads h next) (sym is) refl)).1 in
      by_head refer u x l at (Some (Open true e next)) lt is ∙ kids_told next (children (heads u) u.header.end next) (children_ends (heads u) u.header.end (leads_on u) next le)

-- ---- all levels

-- the calls of the levels that are open, and the place behind the function
unfoldable pub calls_rest : Refer → UnitParts → List Above → CallLists × ℕ → Option (CallLists × ℕ)
calls_rest refer u [] p = Some p
calls_rest refer u (x ∷ inside) p = calls_rest refer u inside p >>= level_end refer u x

rest_last : (refer : Refer) (u : UnitParts) (front : List Above) (x : Above) (p : CallLists × ℕ) → calls_rest refer u (front ++ x ∷ []) p ≡ (level_end refer u x p >>= calls_rest refer u front)
unfolding calls_rest
rest_last refer u [] x p = sym (bind_some (level_end refer u x p))
rest_last refer u (y ∷ front) x p =
    ap (λ (o : Option Place). o >>= level_end refer u y) (rest_last refer u front x p)
    ∙ bind_bind (level_end refer u x p) (calls_rest refer u front) (level_end refer u y)

-- the innermost of some levels, and those around it
pub record Innermost (levels : List Above) : Type 0 where
  pub front : List Above
  pub above : Above
  pub is : levels ≡ front ++ above ∷ []

pub innermost_of : (levels : List Above) → 0 < length levels → Innermost levels
innermost_of [] lt = absurd (omega arith)
innermost_of (x ∷ []) lt = record { front = []; above = x; is = refl }
innermost_of (x ∷ y ∷ rest) lt =
    let r = innermost_of (y ∷ rest) (omega arith) in
    record { front = x ∷ r.front; above = r.above; is = ap (λ (l : List Above). x ∷ l) r.is }

one_less : (front : List Above) (x : Above) → length (front ++ x ∷ []) - 1 ≡ length front
one_less front x = let k = length-append front (x ∷ []) in omega arith

pub innermost_is : (front : List Above) (x : Above) → innermost (front ++ x ∷ []) ≡ Some x
innermost_is front x = ap (slice_get (front ++ x ∷ [])) (one_less front x) ∙ at_end front x

closed_is : (front : List Above) (x : Above) → closed_level (front ++ x ∷ []) ≡ front
closed_is front x = ap (λ (n : ℕ). take n (front ++ x ∷ [])) (one_less front x) ∙ before_end front x

-- ---- one more entry

abbrev Rest : Refer → UnitParts → List Above → CallLists → ℕ → Option Place
Rest refer u levels l at = calls_rest refer u levels (l, at)

abbrev opened : List Above → Above → Bool → ℕ → List Above
opened levels x kids tag = cond kids (levels ++ below_tag x tag ∷ []) levels

entry_on : (refer : Refer) (u : UnitParts) (front : List Above) (x : Above) (l : CallLists) (kids : Bool) (e : Info) (at next : ℕ) → at < u.header.end → heads u at ≡ Some (Open kids e next)
    → Rest refer u (front ++ x ∷ []) l at ≡ (adds refer u x l e >>= λ (m : CallLists). Rest refer u (opened (front ++ x ∷ []) x kids e.tag) m next)
entry_on refer u front x l false e at next lt is =
    rest_last refer u front x (l, at)
    ∙ (ap (λ (o : Option Place). o >>= calls_rest refer u front) (level_leaf refer u x l e at next lt is)
    ∙ (bind_bind (adds refer u x l e) (λ (m : CallLists). level_end refer u x (m, next)) (calls_rest refer u front)
    ∙ bind_same (adds refer u x l e) _ _ (λ (m : CallLists). sym (rest_last refer u front x (m, next)))))
entry_on refer u front x l true e at next lt is =
    let y = below_tag x e.tag in
    rest_last refer u front x (l, at)
    ∙ (ap (λ (o : Option Place). o >>= calls_rest refer u front) (level_node refer u x l e at next lt is)
    ∙ (bind_bind (adds refer u x l e) (λ (m : CallLists). level_end refer u y (m, next) >>= level_end refer u x) (calls_rest refer u front)
    ∙ bind_same (adds refer u x l e) _ _ (λ (m : CallLists).
    bind_bind (level_end refer u y (m, next)) (level_end refer u x) (calls_rest refer u front)
    ∙ (bind_same (level_end refer u y (m, next)) _ _ (λ (p : Place). sym (rest_last refer u front x p)) ∙ sym (rest_last refer u (front ++ x ∷ []) y (m, next))))))

zero_on : (refer : Refer) (u : UnitParts) (front : List Above) (x : Above) (l : CallLists) (at next : ℕ) → at < u.header.end → heads u at ≡ Some (Close next) → Rest refer u (front ++ x ∷ []) l at ≡ Rest refer u front l next
zero_on refer u front x l at next lt is = rest_last refer u front x (l, at) ∙ ap (λ (o : Option Place). o >>= calls_rest refer u front) (level_zero refer u x l at next lt is)

stuck_on : (refer : Refer) (u : UnitParts) (front : List Above) (x : Above) (l : CallLists) (at : ℕ) → level_end refer u x (l, at) ≡ None → Rest refer u (front ++ x ∷ []) l at ≡ None
stuck_on refer u front x l at h = rest_last refer u front x (l, at) ∙ ap (λ (o : Option Place). o >>= calls_rest refer u front) h

-- by the values of its attributes
values_on : (refer : Refer) (u : UnitParts) (front : List Above) (x : Above) (l : CallLists) (kids : Bool) (info : List (ℕ × AttrValue) → Info) (tag at : ℕ) (o : Read (List (ℕ × AttrValue))) → at < u.header.end
    → ((r : List (ℕ × AttrValue)) → (info r).tag ≡ tag) → heads u at ≡ (o >>= λ (r : List (ℕ × AttrValue) × ℕ). Some (Open kids (info r.0) r.1))
    → Rest refer u (front ++ x ∷ []) l at ≡ (((o >>= λ (r : List (ℕ × AttrValue) × ℕ). description_if refer u (is_some (call_depth (Some x) tag)) (info r.0) r.1) >>= call_behind u l (call_depth (Some x) tag)) >>= calls_rest refer u (opened (front ++ x ∷ []) x kids tag))
values_on refer u front x l kids info tag at None lt t is = stuck_on refer u front x l at (level_stuck refer u x l at lt is)
values_on refer u front x l kids info tag at (Some r) lt t is =
    let depth = call_depth (Some x) tag in
    let levels : List Above = opened (front ++ x ∷ []) x kids tag in
    entry_on refer u front x l kids (info r.0) at r.1 lt is
    ∙ (ap (λ (n : ℕ). entry_adds refer u (call_depth (Some x) n) l (info r.0) >>= λ (m : CallLists). Rest refer u (opened (front ++ x ∷ []) x kids n) m r.1) (t r.0)
    ∙ (sym (bind_bind (entry_adds refer u depth l (info r.0)) (told r.1) (calls_rest refer u levels))
    ∙ ap (λ (o : Option Place). o >>= calls_rest refer u levels) (sym (met_adds refer u depth l (info r.0) r.1))))

behind_entry : (front : List Above) (x : Above) (e : Entry) → eqb e.code 0 ≡ false → levels_behind (front ++ x ∷ []) e ≡ opened (front ++ x ∷ []) x e.children e.tag
behind_entry front x e f = rw (f, innermost_is front x) refl

behind_zero : (front : List Above) (x : Above) (e : Entry) → e.code ≡ 0 → levels_behind (front ++ x ∷ []) e ≡ front
behind_zero front x e z = let t = eq-eqb e.code 0 z in rw t (closed_is front x)

met_entry : (refer : Refer) (u : UnitParts) (front : List Above) (x : Above) (l : CallLists) (d at : ℕ) (e : Entry) (w : Walk) → MetEntry (source_in u) d at e w
    → Rest refer u (front ++ x ∷ []) l at ≡ (call_met refer u l (call_depth (Some x) e.tag) e w >>= calls_rest refer u (levels_behind (front ++ x ∷ []) e))
unfolding call_met info_of
met_entry refer u front x l d at e w k =
    let a = k.abbreviation in
    let depth = call_depth (Some x) e.tag in
    let at_head : heads u at ≡ (values_of u a w.place >>= λ (r : List (ℕ × AttrValue) × ℕ). Some (Open e.children (info_of at e.code a r.0) r.1)) =
    head_entry u d at e w k ∙ ap (λ (b : Bool). values_of u a w.place >>= λ (r : List (ℕ × AttrValue) × ℕ). Some (Open b (info_of at e.code a r.0) r.1)) (sym k.children) in
    values_on refer u front x l e.children (info_of at e.code a) e.tag at (values_of u a w.place) k.below (λ r. sym k.tag) at_head
    ∙ (ap (λ (o : Option (Option Description × ℕ)). (o >>= call_behind u l depth) >>= calls_rest refer u (opened (front ++ x ∷ []) x e.children e.tag)) (sym (described_entry refer u (is_some depth) d at e w k))
    ∙ ap (λ (levels : List Above). (described_if refer u (is_some depth) e.code w >>= call_behind u l depth) >>= calls_rest refer u levels) (sym (behind_entry front x e k.nonzero)))

zero_adds : (u : UnitParts) (l : CallLists) (depth : Option ℕ) (n : ℕ) → call_behind u l depth (None, n) ≡ told n l
zero_adds u l None n = refl
zero_adds u l (Some depth) n = refl

met_zero : (refer : Refer) (u : UnitParts) (front : List Above) (x : Above) (l : CallLists) (d at : ℕ) (e : Entry) (w : Walk) → MetZero (source_in u) d at e w
    → Rest refer u (front ++ x ∷ []) l at ≡ (call_met refer u l (call_depth (Some x) e.tag) e w >>= calls_rest refer u (levels_behind (front ++ x ∷ []) e))
unfolding call_met
met_zero refer u front x l d at e w k =
    let depth = call_depth (Some x) e.tag in
    zero_on refer u front x l at w.place k.below (head_zero (source_in u) d at e w k)
    ∙ (ap (λ (levels : List Above). calls_rest refer u levels (l, w.place)) (sym (behind_zero front x e k.code_is))
    ∙ ap (λ (o : Option Place). o >>= calls_rest refer u (levels_behind (front ++ x ∷ []) e))
    (sym (ap (λ (o : Option (Option Description × ℕ)). o >>= call_behind u l depth) (described_zero refer u (is_some depth) d at e w k) ∙ zero_adds u l depth w.place)))

module _ (refer : Refer) (u : UnitParts) (levels : List Above) (l : CallLists) (w : Walk) (lt : 0 < length levels) (p : w.pending ≡ []) (s : w.source ≡ source_in u) where
  -- one entry more: what it adds, and then the rest
  pub one_more : (w1 : Walk) (e : Entry) → next_of w ≡ Some (Some e, w1)
      → calls_rest refer u levels (l, w.place) ≡ (call_met refer u l (call_depth (innermost levels) e.tag) e w1 >>= calls_rest refer u (levels_behind levels e))
  one_more w1 e n =
      let i = innermost_of levels lt in
      let step : calls_rest refer u (i.front ++ i.above ∷ []) (l, w.place) ≡ (call_met refer u l (call_depth (Some i.above) e.tag) e w1 >>= calls_rest refer u (levels_behind (i.front ++ i.above ∷ []) e)) =
      elim (met_next u w w1 e p s n) [
        | inl k ↦ met_zero refer u i.front i.above l w.depth w.place e w1 k
        | inr k ↦ met_entry refer u i.front i.above l w.depth w.place e w1 k
      ] in
      let same = step ∙ ap (λ (o : Option Above). call_met refer u l (call_depth o e.tag) e w1 >>= calls_rest refer u (levels_behind (i.front ++ i.above ∷ []) e)) (sym (innermost_is i.front i.above)) in
      subst (λ (ls : List Above). calls_rest refer u ls (l, w.place) ≡ (call_met refer u l (call_depth (innermost ls) e.tag) e w1 >>= calls_rest refer u (levels_behind ls e))) (sym i.is) same

  pub no_more : (w1 : Walk) → next_of w ≡ Some (None, w1) → calls_rest refer u levels (l, w.place) ≡ None
  no_more w1 n =
      let i = innermost_of levels lt in
      subst (λ (ls : List Above). calls_rest refer u ls (l, w.place) ≡ None) (sym i.is) (stuck_on refer u i.front i.above l w.place (level_over refer u i.above l w.place (end_next u w w1 p s n)))

  pub none_next : next_of w ≡ None → calls_rest refer u levels (l, w.place) ≡ None
  none_next n =
      let i = innermost_of levels lt in
      let k = stuck_next u w p s n in
      subst (λ (ls : List Above). calls_rest refer u ls (l, w.place) ≡ None) (sym i.is) (stuck_on refer u i.front i.above l w.place (level_stuck refer u i.above l w.place k.below k.head))

-- ---- the start and the end

abbrev pub first : CallLists × ℕ → Option CallLists
first p = Some p.0

first_told : (o : Option CallLists) (n : ℕ) → ((o >>= told n) >>= first) ≡ o
first_told None n = refl
first_told (Some l) n = refl

closed_lists : (refer : Refer) (u : UnitParts) (forest : Forest) (closed : Bool) (after : ℕ) → let g : Grown = record { forest = forest; closed = closed; after = after } in
    (closed ≡ true → all_closed forest ≡ true) → (closing refer u (Calls 0) no_calls g >>= first) ≡ lists_below refer u g
closed_lists refer u forest true after h =
    let c : all_closed forest ≡ true = h refl in
    first_told (with_trees refer u (Calls 0) no_calls forest) after ∙ (trees_are refer u forest 0 0 None no_calls ∙ rw c refl)
closed_lists refer u forest false after h = refl

all_lists : (refer : Refer) (u : UnitParts) (o : Option Grown) → AreClosed o → ((o >>= closing refer u (Calls 0) no_calls) >>= first) ≡ (o >>= lists_below refer u)
all_lists refer u None h = refl
all_lists refer u (Some g) h = closed_lists refer u g.forest g.closed g.after h

pub rest_start : (refer : Refer) (u : UnitParts) (at : ℕ) → (calls_rest refer u (Calls 0 ∷ []) (no_calls, at) >>= first) ≡ calls_from refer u at
unfolding calls_rest
rest_start refer u at = all_lists refer u (children (heads u) u.header.end at) (closed_children (heads u) u.header.end (leads_on u) at)

pub rest_end : (refer : Refer) (u : UnitParts) (levels : List Above) (l : CallLists) (at : ℕ) → nat_lt 0 (length levels) ≡ false → (calls_rest refer u levels (l, at) >>= first) ≡ Some l
unfolding calls_rest
rest_end refer u [] l at h = refl
rest_end refer u (x ∷ rest) l at h = absurd (let k = ltb-false 0 (length (x ∷ rest)) h in omega arith)

-- ---- an entry that is no call adds nothing

pub no_call : (refer : Refer) (u : UnitParts) (l : CallLists) (e : Entry) (w new : Walk) → skipped_of w ≡ Some (tt, new) → call_met refer u l None e w ≡ Some (l, new.place)
unfolding call_met described_if
no_call refer u l e w new h = rw h refl

pub no_call_broken : (refer : Refer) (u : UnitParts) (l : CallLists) (e : Entry) (w : Walk) → skipped_of w ≡ None → call_met refer u l None e w ≡ None
unfolding call_met described_if
no_call_broken refer u l e w h = rw h refl

-- ---- the function's own entry

pub calls_at : (refer : Refer) (u : UnitParts) (place : ℕ) → unit_calls refer u place ≡ (trees_below u place >>= lists_below refer u)
unfolding calls_of
calls_at refer u place = bind_bind (trees_below u place) (calls_below refer u) (λ (calls : List RangedCall). Some (calls_with no_calls calls))
