-- The trees below an entry, by what stands at their first place.
use Rattle.std.proofs.Common.{◌≡◌, ℕ, zero, suc, ◌-◌, ◌<◌, ◌≤◌, Bool, true, false, ltb, Option, Some, None, refl, ap, ◌∙◌, arith, inl, inr}
use Rattle.std.proofs.lemmas.Bool.{cases_Bool, cases_lt, ltb-true, le-ltb, lt-ltb, and_from, both_ways}
use Rattle.blz_model.specs.Reads.{◌>>=◌}
use Rattle.blz_info.specs.Forest.{Info, Head, Close, Open, Grown, node, leaf, grown_step, grown, Leads, LeadsOn}
use Rattle.blz_info.proofs.Preorder.{IfEnds, ends}
use Rattle.blz_functions.specs.CallTree.{all_closed, children}

-- ---- enough fuel is enough

abbrev pub then_node : Info → Grown → Option Grown → Option Grown
then_node e kids o = o >>= λ (b : Grown). Some (node e kids b)

abbrev Agree : ℕ → ℕ → (Bool → ℕ → Option Grown) → (Bool → ℕ → Option Grown) → Type 0
Agree at end f g = (t : Bool) (next : ℕ) → at < next → next ≤ end → f t next ≡ g t next

same_beside : (at end n : ℕ) (top : Bool) (e : Info) (f g : Bool → ℕ → Option Grown) (o : Option Grown) → at < n → IfEnds end false n o → Agree at end f g
    → (o >>= λ (kids : Grown). then_node e kids (f top kids.after)) ≡ (o >>= λ (kids : Grown). then_node e kids (g top kids.after))
same_beside at end n top e f g None lt ok h = refl
same_beside at end n top e f g (Some kids) lt ok h = ap (then_node e kids) (h top kids.after (omega (arith, ok.within)) ok.bound)

same_step : (at end : ℕ) (top : Bool) (o : Option Head) (f g : Bool → ℕ → Option Grown) → ((next : ℕ) → Leads o next → (at < next) × (next ≤ end)) → ((next : ℕ) → next ≤ end → IfEnds end false next (f false next)) → Agree at end f g
    → grown_step top o f ≡ grown_step top o g
same_step at end top None f g on ok h = refl
same_step at end true (Some (Close n)) f g on ok h = let l = on n refl in h true n l.0 l.1
same_step at end false (Some (Close n)) f g on ok h = refl
same_step at end top (Some (Open true e n)) f g on ok h =
    let l = on n refl in
    same_beside at end n top e f g (f false n) l.0 (ok n l.1) h ∙ ap (λ (o : Option Grown). o >>= λ (kids : Grown). then_node e kids (g top kids.after)) (h false n l.0 l.1)
same_step at end top (Some (Open false e n)) f g on ok h = let l = on n refl in ap (λ (o : Option Grown). o >>= λ (b : Grown). Some (leaf e b)) (h top n l.0 l.1)

enough : (head : ℕ → Option Head) (end : ℕ) → LeadsOn head end → (m n : ℕ) (top : Bool) (at : ℕ) → end - at < m → end - at < n → grown head end m top at ≡ grown head end n top at
unfolding grown
enough head end on zero n top at p q = absurd (omega arith)
enough head end on (suc m) zero top at p q = absurd (omega arith)
enough head end on (suc m) (suc n) top at p q =
    elim (cases_Bool (ltb at end)) [
      | inl t ↦
          let lt : at < end = ltb-true at end t in
          rw t (same_step at end top (head at) (λ t next. grown head end m t next) (λ t next. grown head end n t next) (λ next l. on at next lt l) (λ next le. ends head end on m false next le)
          (λ t next gt le. enough head end on m n t next (omega arith) (omega arith)))
      | inr f ↦ rw f refl
    ]

-- ---- the trees from a place on

abbrev pub trees_from : (ℕ → Option Head) → ℕ → Bool → ℕ → Option Grown
trees_from head end top at = grown head end (suc (end - at)) top at

-- by what stands at their first place
pub children_on : (head : ℕ → Option Head) (end : ℕ) → LeadsOn head end → (at : ℕ) → at < end → children head end at ≡ grown_step false (head at) (trees_from head end)
unfolding grown
children_on head end on at lt =
    let t = lt-ltb at end lt in
    rw t (same_step at end false (head at) (λ t next. grown head end (end - at) t next) (trees_from head end) (λ next l. on at next lt l) (λ next le. ends head end on (end - at) false next le)
    (λ t next gt le. enough head end on (end - at) (suc (end - next)) t next (omega arith) (omega arith)))

-- trees that no zero ends
abbrev pub IfOpen : Option Grown → Type 0
IfOpen None = Unit {0}
IfOpen (Some r) = r.closed ≡ false

past_end : (head : ℕ → Option Head) (end n : ℕ) (top : Bool) (at : ℕ) → end ≤ at → IfOpen (grown head end n top at)
unfolding grown
past_end head end zero top at le = tt
past_end head end (suc n) top at le = let f = le-ltb at end le in rw f refl

pub children_end : (head : ℕ → Option Head) (end at : ℕ) → end ≤ at → IfOpen (children head end at)
children_end head end at le = past_end head end (suc (end - at)) false at le

pub children_ends : (head : ℕ → Option Head) (end : ℕ) → LeadsOn head end → (at : ℕ) → at ≤ end → IfEnds end false at (children head end at)
children_ends head end on at le = ends head end on (suc (end - at)) false at le

-- ---- where a zero ends trees, each of their entries is closed

abbrev pub AreClosed : Option Grown → Type 0
AreClosed None = Unit {0}
AreClosed (Some r) = r.closed ≡ true → all_closed r.forest ≡ true

node_closed : (e : Info) (kids : Grown) (o : Option Grown) → AreClosed (Some kids) → (kids.closed ≡ false → IfOpen o) → AreClosed o → AreClosed (then_node e kids o)
unfolding all_closed
node_closed e kids None h k l = tt
node_closed e kids (Some b) h k l = λ q.
    elim (cases_Bool kids.closed) [
      | inl t ↦ and_from _ _ t (and_from _ _ (h t) (l q))
      | inr f ↦ absurd (both_ways b.closed (k f) q)
    ]

leaf_closed : (e : Info) (o : Option Grown) → AreClosed o → AreClosed (o >>= λ b. Some (leaf e b))
unfolding all_closed
leaf_closed e None h = tt
leaf_closed e (Some b) h = h

kids_closed : (end n : ℕ) (e : Info) (go : Bool → ℕ → Option Grown) (o : Option Grown) → IfEnds end false n o → AreClosed o → ((next : ℕ) → next ≤ end → AreClosed (go false next)) → ((next : ℕ) → end ≤ next → IfOpen (go false next))
    → AreClosed (o >>= λ (kids : Grown). then_node e kids (go false kids.after))
kids_closed end n e go None ok h ih past = tt
kids_closed end n e go (Some kids) ok h ih past = node_closed e kids (go false kids.after) h (λ f. past kids.after (ok.open_at_end f)) (ih kids.after ok.bound)

closed_step : (end at : ℕ) (o : Option Head) (go : Bool → ℕ → Option Grown) → ((next : ℕ) → Leads o next → (at < next) × (next ≤ end)) → ((next : ℕ) → next ≤ end → IfEnds end false next (go false next))
    → ((next : ℕ) → next ≤ end → AreClosed (go false next)) → ((next : ℕ) → end ≤ next → IfOpen (go false next)) → AreClosed (grown_step false o go)
unfolding all_closed
closed_step end at None go on h ih past = tt
closed_step end at (Some (Close n)) go on h ih past = λ _. refl
closed_step end at (Some (Open true e n)) go on h ih past = let l = on n refl in kids_closed end n e go (go false n) (h n l.1) (ih n l.1) ih past
closed_step end at (Some (Open false e n)) go on h ih past = let l = on n refl in leaf_closed e (go false n) (ih n l.1)

are_closed : (head : ℕ → Option Head) (end : ℕ) → LeadsOn head end → (n at : ℕ) → at ≤ end → AreClosed (grown head end n false at)
unfolding grown
are_closed head end on zero at le = tt
are_closed head end on (suc n) at le =
    elim (cases_Bool (ltb at end)) [
      | inl t ↦ rw t (closed_step end at (head at) (λ t next. grown head end n t next) (λ next l. on at next (ltb-true at end t) l) (λ next m. ends head end on n false next m) (λ next m. are_closed head end on n next m) (λ next p. past_end head end n false next p))
      | inr f ↦ rw f (λ q. absurd cc)
    ]

open_closed : (o : Option Grown) → IfOpen o → AreClosed o
open_closed None h = tt
open_closed (Some r) h = λ q. absurd (both_ways r.closed h q)

pub closed_children : (head : ℕ → Option Head) (end : ℕ) → LeadsOn head end → (at : ℕ) → AreClosed (children head end at)
closed_children head end on at =
    elim (cases_lt at end) [
      | inl lt ↦ are_closed head end on (suc (end - at)) at (omega arith)
      | inr le ↦ open_closed (children head end at) (children_end head end at le)
    ]
