-- The preorder of the forest is the flat list.
use Rattle.std.proofs.Common.{◌≡◌, ℕ, zero, suc, ◌+◌, ◌-◌, ◌<◌, ◌≤◌, Bool, true, false, cond, ltb, List, [], ◌∷◌, ◌++◌, Option, Some, None, refl, sym, ap, ◌∙◌, append_assoc, arith, inl, inr}
use Rattle.std.specs.Prelude.{option_map}
use Rattle.std.proofs.lemmas.Bool.{cases_Bool, cases_lt, ltb-true, ltb-false, le-ltb, lt-ltb}
use Rattle.std.proofs.lemmas.List.{append-nil}
use Rattle.blz_model.specs.Reads.{◌>>=◌}
use Rattle.blz_info.specs.Forest.{Info, Head, Close, Open, Grown, node, leaf, grown_step, grown, forest, preorder, flat_step, flat_in, flat, Leads, LeadsOn}

-- a step depends on the rest only where it leads
flat_same : (d : ℕ) (o : Option Head) (f g : ℕ → ℕ → Option (List (ℕ × Info))) → ((k next : ℕ) → Leads o next → f k next ≡ g k next) → flat_step d o f ≡ flat_step d o g
flat_same d None f g h = refl
flat_same d (Some (Close n)) f g h = h (d - 1) n refl
flat_same d (Some (Open true e n)) f g h = ap (λ (r : Option (List (ℕ × Info))). option_map (λ rest. (d, e) ∷ rest) r) (h (d + 1) n refl)
flat_same d (Some (Open false e n)) f g h = ap (λ (r : Option (List (ℕ × Info))). option_map (λ rest. (d, e) ∷ rest) r) (h d n refl)

-- enough fuel is enough
enough : (head : ℕ → Option Head) (end : ℕ) → LeadsOn head end → (m n d at : ℕ) → end - at < m → end - at < n → flat_in head end m d at ≡ flat_in head end n d at
unfolding flat_in
enough head end on zero n d at p q = absurd (omega arith)
enough head end on (suc m) zero d at p q = absurd (omega arith)
enough head end on (suc m) (suc n) d at p q =
    elim (cases_Bool (ltb at end)) [
      | inl t ↦
          let lt : at < end = ltb-true at end t in
          rw t (flat_same d (head at) (λ k next. flat_in head end m k next) (λ k next. flat_in head end n k next) (λ k next l.
          let go = on at next lt l in enough head end on m n k next (omega (arith, go)) (omega (arith, go))))
      | inr f ↦ rw f refl
    ]

-- one step of the walk
pub flat_on : (head : ℕ → Option Head) (end : ℕ) → LeadsOn head end → (d at : ℕ) → at < end → flat head end d at ≡ flat_step d (head at) (λ k next. flat head end k next)
unfolding flat flat_in
flat_on head end on d at lt =
    let t = lt-ltb at end lt in
    rw t (flat_same d (head at) (λ k next. flat_in head end (end - at) k next) (λ k next. flat head end k next) (λ k next l.
    let go = on at next lt l in enough head end on (end - at) (suc (end - next)) k next (omega (arith, go)) (omega arith)))

pub flat_end : (head : ℕ → Option Head) (end d at : ℕ) → end ≤ at → flat head end d at ≡ Some []
unfolding flat flat_in
flat_end head end d at le = let f = le-ltb at end le in rw f refl

-- what is read of trees, and then the rest of the walk
abbrev pub continued : (ℕ → Option Head) → ℕ → ℕ → Option Grown → Option (List (ℕ × Info))
continued head end d None = None
continued head end d (Some r) = option_map (λ rest. preorder d r.forest ++ rest) (flat head end (cond r.closed (d - 1) d) r.after)

-- where trees end
pub record Ends (end : ℕ) (top : Bool) (at : ℕ) (r : Grown) : Type 0 where
  pub within : at ≤ r.after
  pub bound : r.after ≤ end
  pub at_top : top ≡ true → r.closed ≡ false
  pub open_at_end : r.closed ≡ false → end ≤ r.after

abbrev pub IfEnds : ℕ → Bool → ℕ → Option Grown → Type 0
IfEnds end top at None = Unit {0}
IfEnds end top at (Some r) = Ends end top at r

bind_ends : (end at next : ℕ) (inner top : Bool) (o : Option Grown) (f : Grown → Option Grown) → IfEnds end inner next o → ((r : Grown) → Ends end inner next r → IfEnds end top at (f r)) → IfEnds end top at (o >>= f)
bind_ends end at next inner top None f h k = tt
bind_ends end at next inner top (Some r) f h k = k r h

farther : (end at next : ℕ) (top : Bool) (o : Option Grown) → at ≤ next → IfEnds end top next o → IfEnds end top at o
farther end at next top None le h = tt
farther end at next top (Some r) le h = record { within = omega (arith, h.within); bound = h.bound; at_top = h.at_top; open_at_end = h.open_at_end }

ends_step : (end at : ℕ) (top : Bool) (o : Option Head) (go : Bool → ℕ → Option Grown) → ((next : ℕ) → Leads o next → (at < next) × (next ≤ end)) → ((t : Bool) (next : ℕ) → next ≤ end → IfEnds end t next (go t next)) → IfEnds end top at (grown_step top o go)
ends_step end at top None go on h = tt
ends_step end at true (Some (Close n)) go on h = let l = on n refl in farther end at n true (go true n) (omega (arith, l)) (h true n (omega (arith, l)))
ends_step end at false (Some (Close n)) go on h = let l = on n refl in record { within = omega (arith, l); bound = omega (arith, l); at_top = λ e. absurd cc; open_at_end = λ e. absurd cc }
ends_step end at top (Some (Open true e n)) go on h =
    let l = on n refl in
    bind_ends end at n false top (go false n) (λ children. go top children.after >>= λ beside. Some (node e children beside)) (h false n (omega (arith, l))) (λ children k.
    bind_ends end at children.after top top (go top children.after) (λ beside. Some (node e children beside)) (h top children.after k.bound) (λ b m.
    record { within = omega (arith, k.within, m.within, l); bound = m.bound; at_top = m.at_top; open_at_end = m.open_at_end }))
ends_step end at top (Some (Open false e n)) go on h =
    let l = on n refl in
    bind_ends end at n top top (go top n) (λ beside. Some (leaf e beside)) (h top n (omega (arith, l))) (λ b m.
    record { within = omega (arith, m.within, l); bound = m.bound; at_top = m.at_top; open_at_end = m.open_at_end })

pub ends : (head : ℕ → Option Head) (end : ℕ) → LeadsOn head end → (n : ℕ) (top : Bool) (at : ℕ) → at ≤ end → IfEnds end top at (grown head end n top at)
unfolding grown
ends head end on zero top at le = tt
ends head end on (suc n) top at le =
    elim (cases_Bool (ltb at end)) [
      | inl t ↦ rw t (ends_step end at top (head at) (λ t next. grown head end n t next) (λ next l. on at next (ltb-true at end t) l) (λ t next m. ends head end on n t next m))
      | inr f ↦ rw f (record { within = omega arith; bound = le; at_top = λ e. refl; open_at_end = λ e. ltb-false at end f })
    ]

map_same : (o : Option (List (ℕ × Info))) → o ≡ option_map (λ rest. [] ++ rest) o
map_same None = refl
map_same (Some x) = refl

leaf_fused : (d : ℕ) (e : Info) (f : List (ℕ × Info)) (o : Option (List (ℕ × Info))) → option_map (λ rest. (d, e) ∷ rest) (option_map (λ rest. f ++ rest) o) ≡ option_map (λ rest. ((d, e) ∷ f) ++ rest) o
leaf_fused d e f None = refl
leaf_fused d e f (Some x) = refl

leaf_case : (head : ℕ → Option Head) (end d : ℕ) (e : Info) (o : Option Grown) → option_map (λ rest. (d, e) ∷ rest) (continued head end d o) ≡ continued head end d (o >>= λ b. Some (leaf e b))
leaf_case head end d e None = refl
leaf_case head end d e (Some r) = leaf_fused d e (preorder d r.forest) (flat head end (cond r.closed (d - 1) d) r.after)

node_fused : (d : ℕ) (e : Info) (f g : List (ℕ × Info)) (o : Option (List (ℕ × Info))) → option_map (λ rest. (d, e) ∷ rest) (option_map (λ rest. f ++ rest) (option_map (λ rest. g ++ rest) o)) ≡ option_map (λ rest. ((d, e) ∷ (f ++ g)) ++ rest) o
node_fused d e f g None = refl
node_fused d e f g (Some x) = ap (λ (y : List (ℕ × Info)). Some ((d, e) ∷ y)) (sym (append_assoc f g x))

beside_case : (head : ℕ → Option Head) (end d : ℕ) (e : Info) (children : Grown) (o : Option Grown) → option_map (λ rest. (d, e) ∷ rest) (option_map (λ rest. preorder (d + 1) children.forest ++ rest) (continued head end d o)) ≡ continued head end d (o >>= λ b. Some (node e children b))
beside_case head end d e children None = refl
beside_case head end d e children (Some r) = node_fused d e (preorder (d + 1) children.forest) (preorder d r.forest) (flat head end (cond r.closed (d - 1) d) r.after)

-- where children end, the walk goes on at the depth of their parent
back : (head : ℕ → Option Head) (end d at : ℕ) (closed : Bool) → (closed ≡ false → end ≤ at) → flat head end (cond closed (d + 1 - 1) (d + 1)) at ≡ flat head end d at
back head end d at true h = ap (λ n. flat head end n at) (omega arith)
back head end d at false h = flat_end head end (d + 1) at (h refl) ∙ sym (flat_end head end d at (h refl))

node_case : (head : ℕ → Option Head) (end d n : ℕ) (top : Bool) (e : Info) (go : Bool → ℕ → Option Grown) (o : Option Grown) → IfEnds end false n o
    → ((next : ℕ) → n ≤ next → next ≤ end → flat head end d next ≡ continued head end d (go top next))
    → option_map (λ rest. (d, e) ∷ rest) (continued head end (d + 1) o) ≡ continued head end d (o >>= λ children. go top children.after >>= λ b. Some (node e children b))
node_case head end d n top e go None ok h = refl
node_case head end d n top e go (Some children) ok h =
    let on = back head end d children.after children.closed ok.open_at_end ∙ h children.after ok.within ok.bound in
    ap (λ (o : Option (List (ℕ × Info))). option_map (λ rest. (d, e) ∷ rest) (option_map (λ rest. preorder (d + 1) children.forest ++ rest) o)) on ∙ beside_case head end d e children (go top children.after)

step_case : (head : ℕ → Option Head) (end d at : ℕ) (top : Bool) (o : Option Head) (go : Bool → ℕ → Option Grown) → (top ≡ true → d ≡ 0)
    → ((next : ℕ) → Leads o next → (at < next) × (next ≤ end))
    → ((t : Bool) (next : ℕ) → next ≤ end → IfEnds end t next (go t next))
    → ((t : Bool) (k next : ℕ) → at < next → next ≤ end → (t ≡ true → k ≡ 0) → flat head end k next ≡ continued head end k (go t next))
    → flat_step d o (λ k next. flat head end k next) ≡ continued head end d (grown_step top o go)
step_case head end d at top None go zero_top on h ih = refl
step_case head end d at true (Some (Close n)) go zero_top on h ih =
    let l = on n refl in
    let z : d ≡ 0 = zero_top refl in
    rw z (ih true 0 n (omega (arith, l)) (omega (arith, l)) (λ _. refl))
step_case head end d at false (Some (Close n)) go zero_top on h ih = map_same (flat head end (d - 1) n)
step_case head end d at top (Some (Open true e n)) go zero_top on h ih =
    let l = on n refl in
    ap (λ (r : Option (List (ℕ × Info))). option_map (λ rest. (d, e) ∷ rest) r) (ih false (d + 1) n (omega (arith, l)) (omega (arith, l)) (λ f. absurd cc))
    ∙ node_case head end d n top e go (go false n) (h false n (omega (arith, l))) (λ next p q. ih top d next (omega (arith, l)) q zero_top)
step_case head end d at top (Some (Open false e n)) go zero_top on h ih =
    let l = on n refl in
    ap (λ (r : Option (List (ℕ × Info))). option_map (λ rest. (d, e) ∷ rest) r) (ih top d n (omega (arith, l)) (omega (arith, l)) zero_top)
    ∙ leaf_case head end d e (go top n)

walked : (head : ℕ → Option Head) (end : ℕ) → LeadsOn head end → (n : ℕ) (top : Bool) (d at : ℕ) → at ≤ end → end - at < n → (top ≡ true → d ≡ 0) → flat head end d at ≡ continued head end d (grown head end n top at)
unfolding grown
walked head end on zero top d at le lt z = absurd (omega arith)
walked head end on (suc n) top d at le lt z =
    elim (cases_Bool (ltb at end)) [
      | inl t ↦
          let below : at < end = ltb-true at end t in
          flat_on head end on d at below ∙ rw t (step_case head end d at top (head at) (λ t next. grown head end n t next) z (λ next l. on at next below l) (λ t next m. ends head end on n t next m) (λ t k next p q zt. walked head end on n t k next q (omega arith) zt))
      | inr f ↦ flat_end head end d at (ltb-false at end f) ∙ rw f (sym (ap (λ (o : Option (List (ℕ × Info))). option_map (λ rest. [] ++ rest) o) (flat_end head end d at (ltb-false at end f))))
    ]

-- at the top nothing is left
whole : (head : ℕ → Option Head) (end at : ℕ) (o : Option Grown) → IfEnds end true at o → continued head end 0 o ≡ option_map (preorder 0) (option_map (λ g. g.forest) o)
whole head end at None h = refl
whole head end at (Some r) h =
    let e : flat head end (cond r.closed (0 - 1) 0) r.after ≡ Some [] = flat_end head end _ r.after (h.open_at_end (h.at_top refl)) in
    ap (λ (o : Option (List (ℕ × Info))). option_map (λ rest. preorder 0 r.forest ++ rest) o) e ∙ ap (λ (x : List (ℕ × Info)). Some x) (append-nil (preorder 0 r.forest))

past : (head : ℕ → Option Head) (end at : ℕ) → end ≤ at → option_map (preorder 0) (forest head end at) ≡ Some []
unfolding forest grown
past head end at le = let f = le-ltb at end le in rw f refl

pub walk_is_preorder : (head : ℕ → Option Head) (end at : ℕ) → LeadsOn head end → option_map (preorder 0) (forest head end at) ≡ flat head end 0 at
unfolding forest
walk_is_preorder head end at on =
    elim (cases_lt at end) [
      | inl lt ↦ sym (walked head end on (suc (end - at)) true 0 at (omega arith) (omega arith) (λ _. refl) ∙ whole head end at (grown head end (suc (end - at)) true at) (ends head end on (suc (end - at)) true at (omega arith)))
      | inr le ↦ past head end at le ∙ sym (flat_end head end 0 at le)
    ]
