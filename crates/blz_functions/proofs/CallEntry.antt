-- The entry of a function, whose calls are read.
use Rattle.std.proofs.Common.{◌≡◌, ℕ, ◌≤◌, Bool, true, false, eqb, cond, leb, List, [], Option, Some, None, refl, sym, ap, ◌∙◌, arith, inl, inr, ◌⊎◌}
use Rattle.std.specs.Prelude.{option_map, ◌&&◌, not}
use Rattle.std.proofs.lemmas.Bool.{eq-eqb, both_ways}
use Rattle.blz_error.specs.declared.kind.ErrorKind.{ErrorKind}
use Rattle.blz_error.specs.declared.kind.ErrorKind.TheVariants.{InvalidDwarf}
use Rattle.blz_model.specs.Part.{Part, Good, Broken}
use Rattle.blz_model.specs.Reads.{Read, ◌>>=◌}
use Rattle.blz_info.specs.Attributes.{passed}
use Rattle.blz_info.specs.Forest.{Info, Head, Close, Open}
use Rattle.blz_info.specs.Walks.{Source, Walk, head_at, walk_from, next_of, skipped_of}
use Rattle.blz_info.specs.declared.entries.Entry.{Entry}
use Rattle.blz_info.specs.declared.forms.value.AttrValue.{AttrValue}
use Rattle.blz_functions.specs.CallTree.{all_closed, calls_from, all_calls, calls_in, below_head, lists_below, no_calls, trees_below, unit_calls}
use Rattle.blz_functions.specs.Describing.{Refer}
use Rattle.blz_functions.specs.Leaves.{UnitParts, source_in}
use Rattle.blz_functions.proofs.CallSteps.{calls_at}
use Rattle.blz_functions.proofs.DescriptionSteps.{uleb_over}
use Rattle.blz_functions.proofs.MetEntries.{MetZero, MetEntry, cut_length, info_of, values_of, head_zero, head_entry, passed_is, met_next, stuck_next, end_next}

-- whether a place is among the entries of a unit
abbrev pub is_among : UnitParts → ℕ → Bool
is_among u place = leb u.header.entries place && leb place u.header.end

abbrev pub opened_at : UnitParts → ℕ → Part Walk
opened_at u place = cond (is_among u place) (Good (walk_from (source_in u) place)) (Broken InvalidDwarf)

-- a walk that begins at a place of a unit
pub record Begins (u : UnitParts) (place : ℕ) (e : Walk) : Type 0 where
  pub among : is_among u place ≡ true
  pub pending : e.pending ≡ []
  pub source_is : e.source ≡ source_in u
  pub place_is : e.place ≡ place

begins_by : (u : UnitParts) (place : ℕ) (e : Walk) (b : Bool) → is_among u place ≡ b → cond b (Good (walk_from (source_in u) place)) (Broken InvalidDwarf) ≡ Good e → Begins u place e
begins_by u place e true is h =
    let w : walk_from (source_in u) place ≡ e = cc in
    record { among = is; pending = sym (ap (λ (x : Walk). x.pending) w); source_is = sym (ap (λ (x : Walk). x.source) w); place_is = sym (ap (λ (x : Walk). x.place) w) }
begins_by u place e false is h = absurd cc

pub begins : (u : UnitParts) (place : ℕ) (e : Walk) → opened_at u place ≡ Good e → Begins u place e
begins u place e h = begins_by u place e (is_among u place) refl h

-- a place that is not among them
pub record Refused (u : UnitParts) (place : ℕ) (kind : ErrorKind) : Type 0 where
  pub outside : is_among u place ≡ false
  pub kind_is : kind ≡ InvalidDwarf

refused_by : (u : UnitParts) (place : ℕ) (kind : ErrorKind) (b : Bool) → is_among u place ≡ b → cond b (Good (walk_from (source_in u) place)) (Broken InvalidDwarf) ≡ Broken kind → Refused u place kind
refused_by u place kind true is h = absurd cc
refused_by u place kind false is h = record { outside = is; kind_is = cc }

pub refused : (u : UnitParts) (place : ℕ) (kind : ErrorKind) → opened_at u place ≡ Broken kind → Refused u place kind
refused u place kind h = refused_by u place kind (is_among u place) refl h

pub calls_outside : (refer : Refer) (u : UnitParts) (place : ℕ) → is_among u place ≡ false → unit_calls refer u place ≡ None
unfolding trees_below
calls_outside refer u place h = calls_at refer u place ∙ rw h refl

calls_by : (refer : Refer) (u : UnitParts) (place : ℕ) (h : Option Head) → is_among u place ≡ true → head_at (source_in u) place ≡ h → unit_calls refer u place ≡ (below_head (head_at (source_in u)) u.header.end h >>= lists_below refer u)
unfolding trees_below
calls_by refer u place h among is = calls_at refer u place ∙ rw (among, is) refl

-- ---- by what a walk meets there

head_over : (u : UnitParts) (place : ℕ) → u.header.end ≤ place → head_at (source_in u) place ≡ None
unfolding head_at
head_over u place le = let n = uleb_over (source_in u).section.bytes place (let k = cut_length u in omega arith) in rw n refl

abbrev walk_told : Walk → Option (Unit {0} × Walk) → Walk
walk_told z None = z
walk_told z (Some r) = r.1

abbrev skips : Source → ℕ → ℕ → Option (Unit {0} × Walk)
skips u d n = Some (tt {0}, record { source = u; place = n; pending = []; depth = d })

abbrev skips_to : Walk → Option (Unit {0} × Walk)
skips_to w = Some (tt {0}, w)

-- what passing over attributes tells
record Skipped (o : Option ℕ) (w : Walk) : Type 0 where
  pub at : o ≡ Some w.place
  pub pending : w.pending ≡ []

skipped_by : (u : Source) (d : ℕ) (o : Option ℕ) (w : Walk) → (o >>= skips u d) ≡ skips_to w → Skipped o w
skipped_by u d None w h = absurd cc
skipped_by u d (Some n) w h =
    let e = ap (walk_told w) h in
    record { at = ap (λ (x : Walk). Some x.place) e; pending = sym (ap (λ (x : Walk). x.pending) e) }

skipped_is : (w new : Walk) → skipped_of w ≡ skips_to new → Skipped (passed w.pending w.source.encoding w.source.base w.source.section w.place) new
unfolding skipped_of
skipped_is w new h = skipped_by w.source w.depth (passed w.pending w.source.encoding w.source.base w.source.section w.place) new h

pub skipped_pending : (w new : Walk) → skipped_of w ≡ skips_to new → new.pending ≡ []
skipped_pending w new h = (skipped_is w new h).pending

unskipped_by : (u : Source) (d : ℕ) (o : Option ℕ) → (o >>= skips u d) ≡ None → o ≡ None
unskipped_by u d None h = refl
unskipped_by u d (Some n) h = absurd cc

unskipped : (w : Walk) → skipped_of w ≡ None → passed w.pending w.source.encoding w.source.base w.source.section w.place ≡ None
unfolding skipped_of
unskipped w h = unskipped_by w.source w.depth (passed w.pending w.source.encoding w.source.base w.source.section w.place) h

-- the values of the attributes, by what passing over them tells
passed_values : (u : UnitParts) (d at : ℕ) (e : Entry) (w : Walk) → (m : MetEntry (source_in u) d at e w) → passed w.pending w.source.encoding w.source.base w.source.section w.place ≡ option_map (λ (r : List (ℕ × AttrValue) × ℕ). r.1) (values_of u m.abbreviation w.place)
passed_values u d at e w m = rw (m.pending, m.source_is) (passed_is m.abbreviation.specs (source_in u).encoding (source_in u).base (source_in u).section w.place)

no_values : (o : Read (List (ℕ × AttrValue))) → option_map (λ (r : List (ℕ × AttrValue) × ℕ). r.1) o ≡ None → o ≡ None
no_values None h = refl
no_values (Some r) h = absurd cc

head_by : (kids : Bool) (info : List (ℕ × AttrValue) → Info) (next : ℕ) (o : Read (List (ℕ × AttrValue))) → option_map (λ (r : List (ℕ × AttrValue) × ℕ). r.1) o ≡ Some next → (i : Info) × ((o >>= λ (r : List (ℕ × AttrValue) × ℕ). Some (Open kids (info r.0) r.1)) ≡ Some (Open kids i next))
head_by kids info next None h = absurd cc
head_by kids info next (Some r) h = let e : r.1 ≡ next = cc in (info r.0, ap (λ (n : ℕ). Some (Open kids (info r.0) n)) e)

module _ (refer : Refer) (u : UnitParts) (place : ℕ) (e : Walk) (b : Begins u place e) where
  pub calls_over : (w : Walk) → next_of e ≡ Some (None, w) → unit_calls refer u place ≡ None
  calls_over w n =
      let le = end_next u e w b.pending b.source_is n in
      calls_by refer u place None b.among (head_over u place (let k = b.place_is in omega arith))

  pub calls_stuck : next_of e ≡ None → unit_calls refer u place ≡ None
  calls_stuck n = calls_by refer u place None b.among (ap (head_at (source_in u)) (sym b.place_is) ∙ (stuck_next u e b.pending b.source_is n).head)

  met : (w : Walk) (x : Entry) → next_of e ≡ Some (Some x, w) → MetZero (source_in u) e.depth e.place x w ⊎ MetEntry (source_in u) e.depth e.place x w
  met w x n = met_next u e w x b.pending b.source_is n

  zero_head : (w : Walk) (x : Entry) → next_of e ≡ Some (Some x, w) → x.code ≡ 0 → head_at (source_in u) place ≡ Some (Close w.place)
  zero_head w x n z = ap (head_at (source_in u)) (sym b.place_is) ∙ elim (met w x n) [
    | inl k ↦ head_zero (source_in u) e.depth e.place x w k
    | inr k ↦ absurd (both_ways (eqb x.code 0) k.nonzero (eq-eqb x.code 0 z))
  ]

  pub calls_zero : (w : Walk) (x : Entry) → next_of e ≡ Some (Some x, w) → x.code ≡ 0 → unit_calls refer u place ≡ None
  calls_zero w x n z = calls_by refer u place (Some (Close w.place)) b.among (zero_head w x n z)

  unread_head : (w : Walk) (x : Entry) → next_of e ≡ Some (Some x, w) → skipped_of w ≡ None → (x.code ≡ 0 → ⊥) → head_at (source_in u) place ≡ None
  unread_head w x n s z = ap (head_at (source_in u)) (sym b.place_is) ∙ elim (met w x n) [
    | inl k ↦ absurd (z k.code_is)
    | inr k ↦
        let none = no_values (values_of u k.abbreviation w.place) (sym (passed_values u e.depth e.place x w k) ∙ unskipped w s) in
        head_entry u e.depth e.place x w k ∙ rw none refl
  ]

  pub calls_unread : (w : Walk) (x : Entry) → next_of e ≡ Some (Some x, w) → skipped_of w ≡ None → (x.code ≡ 0 → ⊥) → unit_calls refer u place ≡ None
  calls_unread w x n s z = calls_by refer u place None b.among (unread_head w x n s z)

  read_head : (w new : Walk) (x : Entry) → next_of e ≡ Some (Some x, w) → skipped_of w ≡ skips_to new → (x.code ≡ 0 → ⊥) → (i : Info) × (head_at (source_in u) e.place ≡ Some (Open x.children i new.place))
  read_head w new x n s z = elim (met w x n) [
    | inl k ↦ absurd (z k.code_is)
    | inr k ↦
        let r = head_by k.abbreviation.children (info_of e.place x.code k.abbreviation) new.place (values_of u k.abbreviation w.place) (sym (passed_values u e.depth e.place x w k) ∙ (skipped_is w new s).at) in
        (r.0, head_entry u e.depth e.place x w k ∙ (r.1 ∙ ap (λ (kids : Bool). Some (Open kids r.0 new.place)) (sym k.children)))
  ]

  pub calls_leaf : (w new : Walk) (x : Entry) → next_of e ≡ Some (Some x, w) → skipped_of w ≡ skips_to new → (x.code ≡ 0 → ⊥) → x.children ≡ false → unit_calls refer u place ≡ Some no_calls
  unfolding all_closed calls_in all_calls
  calls_leaf w new x n s z f =
      let r = read_head w new x n s z in
      calls_by refer u place (Some (Open false r.0 new.place)) b.among (ap (head_at (source_in u)) (sym b.place_is) ∙ (r.1 ∙ ap (λ (kids : Bool). Some (Open kids r.0 new.place)) f))

  pub calls_inside : (w new : Walk) (x : Entry) → next_of e ≡ Some (Some x, w) → skipped_of w ≡ skips_to new → (x.code ≡ 0 → ⊥) → x.children ≡ true → unit_calls refer u place ≡ calls_from refer u new.place
  calls_inside w new x n s z t =
      let r = read_head w new x n s z in
      calls_by refer u place (Some (Open true r.0 new.place)) b.among (ap (head_at (source_in u)) (sym b.place_is) ∙ (r.1 ∙ ap (λ (kids : Bool). Some (Open kids r.0 new.place)) t))

pub not_true : (b : Bool) → not b ≡ true → b ≡ false
not_true true h = absurd cc
not_true false h = refl

pub not_false : (b : Bool) → not b ≡ false → b ≡ true
not_false true h = refl
not_false false h = absurd cc
