-- An entry that a walk has met: what stands at its place, and its description.
use Rattle.std.proofs.Common.{◌≡◌, ℕ, ◌+◌, ◌-◌, ◌<◌, ◌≤◌, Bool, true, false, eqb, cond, List, [], ◌∷◌, length, take, length-take, Option, Some, None, refl, sym, ap, subst, ◌∙◌, arith, inl, inr, ◌⊎◌}
use Rattle.std.specs.Prelude.{is_some, option_map, nat_lt, pos}
use Rattle.std.proofs.lemmas.Bool.{cases_Bool, ltb-true, ltb-false, eqb-true}
use Rattle.blz_model.specs.LebNumbers.{uleb}
use Rattle.blz_model.specs.Reads.{Read, ◌>>=◌}
use Rattle.blz_info.specs.Abbrevs.{Abbrev, of_code}
use Rattle.blz_info.specs.Attributes.{attribute, attributes, passed}
use Rattle.blz_info.specs.Contents.{Contents}
use Rattle.blz_info.specs.declared.abbreviations.AttrSpec.{AttrSpec}
use Rattle.blz_info.specs.declared.encoding.Encoding.{Encoding}
use Rattle.blz_info.specs.declared.text.StrBase.{StrBase}
use Rattle.blz_info.specs.declared.forms.value.AttrValue.{AttrValue}
use Rattle.blz_info.specs.Forest.{Info, Head, Close, Open, LeadsOn}
use Rattle.blz_entry.specs.Folds.{fold_maybe}
use Rattle.blz_info.specs.Walks.{Source, Walk, head_at, next_of, entry_from, skipped_of}
use Rattle.blz_info.specs.declared.entries.Entry.{Entry}
use Rattle.blz_info.proofs.HeadsLead.{heads_lead_on}
use Rattle.blz_functions.specs.declared.description.Description.{Description}
use Rattle.blz_functions.specs.Describing.{Refer, undescribed, description_step, described, undescribed_to, described_to, described_if, specs_of}
use Rattle.blz_functions.specs.Leaves.{UnitParts, source_in}

-- what the entry is that a walk has met at a place, and where the walk stands behind its code
pub record MetZero (u : Source) (d at : ℕ) (e : Entry) (w : Walk) : Type 0 where
  pub below : at < u.end
  pub code_is : e.code ≡ 0
  pub read : uleb u.section.bytes at ≡ Some (0, w.place)
  pub source_is : w.source ≡ u
  pub pending : w.pending ≡ []
  pub depth : w.depth ≡ d - 1

pub record MetEntry (u : Source) (d at : ℕ) (e : Entry) (w : Walk) : Type 0 where
  pub below : at < u.end
  pub abbreviation : Abbrev
  pub read : uleb u.section.bytes at ≡ Some (e.code, w.place)
  pub nonzero : eqb e.code 0 ≡ false
  pub of : of_code e.code u.table ≡ Some abbreviation
  pub source_is : w.source ≡ u
  pub pending : w.pending ≡ abbreviation.specs
  pub tag : e.tag ≡ abbreviation.tag
  pub children : e.children ≡ abbreviation.children
  pub place_is : e.place ≡ at
  pub depth : w.depth ≡ cond abbreviation.children (d + 1) d

abbrev zero_at : Source → ℕ → ℕ → ℕ → Option (Option Entry × Walk)
zero_at u d at next = Some (Some (record { place = at; depth = pos d; code = 0; tag = 0; children = false }), record { source = u; place = next; pending = []; depth = d - 1 })

abbrev entry_at : Source → ℕ → ℕ → ℕ × ℕ → Abbrev → Option (Option Entry × Walk)
entry_at u d at code a = Some (Some (record { place = at; depth = pos d; code = code.0; tag = a.tag; children = a.children }), record { source = u; place = code.1; pending = a.specs; depth = cond a.children (d + 1) d })

abbrev entry_or : Entry → Option Entry → Entry
entry_or z None = z
entry_or z (Some e) = e

abbrev entry_in : Entry → Option (Option Entry × Walk) → Entry
entry_in z None = z
entry_in z (Some r) = entry_or z r.0

abbrev walk_in : Walk → Option (Option Entry × Walk) → Walk
walk_in z None = z
walk_in z (Some r) = r.1

abbrev has_entry : Option (Option Entry × Walk) → Bool
has_entry None = false
has_entry (Some r) = is_some r.0

pub different : true ≡ false → ⊥
different h = absurd cc

met_of : (u : Source) (d at : ℕ) (code : ℕ × ℕ) (o : Option Abbrev) (e : Entry) (w : Walk) → at < u.end → uleb u.section.bytes at ≡ Some code → eqb code.0 0 ≡ false → of_code code.0 u.table ≡ o → (o >>= entry_at u d at code) ≡ Some (Some e, w) → MetEntry u d at e w
met_of u d at code None e w lt read f of h = absurd cc
met_of u d at code (Some a) e w lt read f of h =
    let x : record { place = at; depth = pos d; code = code.0; tag = a.tag; children = a.children } ≡ e = ap (entry_in e) h in
    let y : record { source = u; place = code.1; pending = a.specs; depth = cond a.children (d + 1) d } ≡ w = ap (walk_in w) h in
    let made : MetEntry u d at (record { place = at; depth = pos d; code = code.0; tag = a.tag; children = a.children }) (record { source = u; place = code.1; pending = a.specs; depth = cond a.children (d + 1) d }) = record { below = lt; abbreviation = a; read = read; nonzero = f; of = of; source_is = refl; pending = refl; tag = refl; children = refl; place_is = refl; depth = refl } in
    subst (λ (z : Walk). MetEntry u d at e z) y (subst (λ (z : Entry). MetEntry u d at z (record { source = u; place = code.1; pending = a.specs; depth = cond a.children (d + 1) d })) x made)

met_zero : (u : Source) (d at : ℕ) (code : ℕ × ℕ) (e : Entry) (w : Walk) → at < u.end → uleb u.section.bytes at ≡ Some code → eqb code.0 0 ≡ true → zero_at u d at code.1 ≡ Some (Some e, w) → MetZero u d at e w
met_zero u d at code e w lt read t h =
    let z : code.0 ≡ 0 = eqb-true code.0 0 t in
    let x : record { place = at; depth = pos d; code = 0; tag = 0; children = false } ≡ e = ap (entry_in e) h in
    let y : record { source = u; place = code.1; pending = []; depth = d - 1 } ≡ w = ap (walk_in w) h in
    let made : MetZero u d at (record { place = at; depth = pos d; code = 0; tag = 0; children = false }) (record { source = u; place = code.1; pending = []; depth = d - 1 }) = record { below = lt; code_is = refl; read = read ∙ ap (λ (n : ℕ). Some (n, code.1)) z; source_is = refl; pending = refl; depth = refl } in
    subst (λ (v : Walk). MetZero u d at e v) y (subst (λ (v : Entry). MetZero u d at v (record { source = u; place = code.1; pending = []; depth = d - 1 })) x made)

met_code : (u : Source) (d at : ℕ) (o : Read ℕ) (e : Entry) (w : Walk) → at < u.end → uleb u.section.bytes at ≡ o → (o >>= λ (code : ℕ × ℕ). cond (eqb code.0 0) (zero_at u d at code.1) (of_code code.0 u.table >>= entry_at u d at code)) ≡ Some (Some e, w) → MetZero u d at e w ⊎ MetEntry u d at e w
met_code u d at None e w lt read h = absurd cc
met_code u d at (Some code) e w lt read h =
    elim (cases_Bool (eqb code.0 0)) [
      | inl t ↦ inl (met_zero u d at code e w lt read t (rw t at h))
      | inr f ↦ inr (met_of u d at code (of_code code.0 u.table) e w lt read f refl (rw f at h))
    ]

pub met : (u : Source) (d at : ℕ) (e : Entry) (w : Walk) → entry_from u d at ≡ Some (Some e, w) → MetZero u d at e w ⊎ MetEntry u d at e w
unfolding entry_from
met u d at e w h =
    elim (cases_Bool (nat_lt at u.end)) [
      | inl t ↦ met_code u d at (uleb u.section.bytes at) e w (ltb-true at u.end t) refl (rw t at h)
      | inr f ↦ absurd (different (sym (ap has_entry (rw f at h))))
    ]

-- ---- what stands at its place

unfoldable pub info_of : ℕ → ℕ → Abbrev → List (ℕ × AttrValue) → Info
info_of at code a values = record { place = at; code = code; tag = a.tag; children = a.children; attributes = values }

abbrev pub values_of : UnitParts → Abbrev → ℕ → Read (List (ℕ × AttrValue))
values_of u a at = attributes a.specs (source_in u).encoding (source_in u).base (source_in u).section at

pub head_zero : (u : Source) (d at : ℕ) (e : Entry) (w : Walk) → MetZero u d at e w → head_at u at ≡ Some (Close w.place)
unfolding head_at
head_zero u d at e w m = rw m.read refl

pub head_entry : (u : UnitParts) (d at : ℕ) (e : Entry) (w : Walk) → (m : MetEntry (source_in u) d at e w)
    → head_at (source_in u) at ≡ (values_of u m.abbreviation w.place >>= λ (r : List (ℕ × AttrValue) × ℕ). Some (Open m.abbreviation.children (info_of at e.code m.abbreviation r.0) r.1))
unfolding head_at info_of
head_entry u d at e w m = rw (m.read, m.nonzero, m.of) refl

-- what stands at each place of a unit leads on
abbrev pub On : UnitParts → Type 0
On u = LeadsOn (head_at (source_in u)) u.header.end

length-take_le : (n : ℕ) (xs : List ℕ) → length (take n xs) ≤ n
length-take_le n xs = simp length-take (omega arith)

pub cut_length : (u : UnitParts) → length (source_in u).section.bytes ≤ u.header.end
cut_length u = length-take_le u.header.end u.sections.info.bytes

pub leads_on : (u : UnitParts) → On u
leads_on u = heads_lead_on (source_in u) (cut_length u)

-- ---- its description

-- passing over attributes is reading them
look : {A : Type 0} (o : Option A) → (o ≡ None) ⊎ ((x : A) × (o ≡ Some x))
look None = inl refl
look (Some x) = inr (x, refl)

again : (name : ℕ) (v : AttrValue) (o : Read (List (ℕ × AttrValue))) → option_map (λ (r : List (ℕ × AttrValue) × ℕ). r.1) o ≡ option_map (λ (r : List (ℕ × AttrValue) × ℕ). r.1) (o >>= λ (others : List (ℕ × AttrValue) × ℕ). Some ((name, v) ∷ others.0, others.1))
again name v None = refl
again name v (Some x) = refl

pub passed_is : (specs : List AttrSpec) (z : Encoding) (base : StrBase) (s : Contents) (at : ℕ) → passed specs z base s at ≡ option_map (λ (r : List (ℕ × AttrValue) × ℕ). r.1) (attributes specs z base s at)
unfolding passed attributes
passed_is [] z base s at = refl
passed_is (a ∷ rest) z base s at =
    elim (look (attribute a z base s at)) [
      | inl e ↦ rw e refl
      | inr p ↦ rw (p.1, passed_is rest z base s p.0.1) (again a.name p.0.0 (attributes rest z base s p.0.1))
    ]

abbrev skip_to : Source → ℕ → ℕ → Option (Unit {0} × Walk)
skip_to u d n = Some (tt, record { source = u; place = n; pending = []; depth = d })

abbrev at_value : List (ℕ × AttrValue) × ℕ → Option (Option Description × ℕ)
at_value r = undescribed_to r.1

placed : (u : Source) (d : ℕ) (o : Read (List (ℕ × AttrValue))) → ((option_map (λ (r : List (ℕ × AttrValue) × ℕ). r.1) o >>= λ (n : ℕ). skip_to u d n) >>= λ (r : Unit {0} × Walk). undescribed_to r.1.place) ≡ (o >>= at_value)
placed u d None = refl
placed u d (Some r) = refl

skipped_at : (u v : Source) (specs pending : List AttrSpec) (d at : ℕ) → v ≡ u → pending ≡ specs → (skipped_of (record { source = v; place = at; pending = pending; depth = d }) >>= λ (r : Unit {0} × Walk). undescribed_to r.1.place) ≡ (attributes specs u.encoding u.base u.section at >>= at_value)
unfolding skipped_of
skipped_at u v specs pending d at e f = rw (e, f, passed_is specs u.encoding u.base u.section at) (placed u d (attributes specs u.encoding u.base u.section at))

one_told : (o : Option Description) (n : ℕ) → ((o >>= λ (b : Description). Some (b, n)) >>= λ (d : Description × ℕ). described_to d.1 d.0) ≡ (o >>= described_to n)
one_told None n = refl
one_told (Some b) n = refl

abbrev told_by : Refer → UnitParts → List (ℕ × AttrValue) × ℕ → Option (Option Description × ℕ)
told_by refer u r = fold_maybe (description_step refer u) undescribed r.0 >>= described_to r.1

told_values : (refer : Refer) (u : UnitParts) (o : Read (List (ℕ × AttrValue))) → ((o >>= λ (r : List (ℕ × AttrValue) × ℕ). fold_maybe (description_step refer u) undescribed r.0 >>= λ (b : Description). Some (b, r.1)) >>= λ (d : Description × ℕ). described_to d.1 d.0) ≡ (o >>= told_by refer u)
told_values refer u None = refl
told_values refer u (Some r) = one_told (fold_maybe (description_step refer u) undescribed r.0) r.1

-- the description of an entry where it is wanted, by its attributes
abbrev pub description_if : Refer → UnitParts → Bool → Info → ℕ → Option (Option Description × ℕ)
description_if refer u wanted i n = cond wanted (fold_maybe (description_step refer u) undescribed i.attributes >>= described_to n) (undescribed_to n)

pub described_entry : (refer : Refer) (u : UnitParts) (wanted : Bool) (d at : ℕ) (e : Entry) (w : Walk) → (m : MetEntry (source_in u) d at e w)
    → described_if refer u wanted e.code w ≡ (values_of u m.abbreviation w.place >>= λ (r : List (ℕ × AttrValue) × ℕ). description_if refer u wanted (info_of at e.code m.abbreviation r.0) r.1)
unfolding described_if described info_of
described_entry refer u true d at e w m = rw (m.nonzero, m.of) (told_values refer u (values_of u m.abbreviation w.place))
described_entry refer u false d at e w m = skipped_at (source_in u) w.source m.abbreviation.specs w.pending w.depth w.place m.source_is m.pending

pub described_zero : (refer : Refer) (u : UnitParts) (wanted : Bool) (d at : ℕ) (e : Entry) (w : Walk) → MetZero (source_in u) d at e w → described_if refer u wanted e.code w ≡ undescribed_to w.place
unfolding described_if attributes
described_zero refer u true d at e w m = rw m.code_is (skipped_at (source_in u) w.source [] w.pending w.depth w.place m.source_is m.pending)
described_zero refer u false d at e w m = skipped_at (source_in u) w.source [] w.pending w.depth w.place m.source_is m.pending

-- ---- the walk

next_at : (src : Source) (pending : List AttrSpec) (d at : ℕ) → pending ≡ [] → next_of (record { source = src; place = at; pending = pending; depth = d }) ≡ entry_from src d at
unfolding next_of passed
next_at src pending d at p = rw p refl

pub next_is : (u : Source) (w : Walk) → w.pending ≡ [] → w.source ≡ u → next_of w ≡ entry_from u w.depth w.place
next_is u w p s = next_at w.source w.pending w.depth w.place p ∙ ap (λ (x : Source). entry_from x w.depth w.place) s

pub met_next : (u : UnitParts) (w w1 : Walk) (e : Entry) → w.pending ≡ [] → w.source ≡ source_in u → next_of w ≡ Some (Some e, w1) → MetZero (source_in u) w.depth w.place e w1 ⊎ MetEntry (source_in u) w.depth w.place e w1
met_next u w w1 e p s n = met (source_in u) w.depth w.place e w1 (sym (next_is (source_in u) w p s) ∙ n)

-- the attributes that have not been read
pub met_specs : (u : UnitParts) (w w1 : Walk) (e : Entry) → w.pending ≡ [] → w.source ≡ source_in u → next_of w ≡ Some (Some e, w1) → w1.pending ≡ specs_of u e.code
met_specs u w w1 e p s n =
    elim (met_next u w w1 e p s n) [
      | inl k ↦ rw k.code_is k.pending
      | inr k ↦ rw (k.nonzero, k.of) k.pending
    ]

-- ---- the end, and a place where no entry can be read

none_of : (u : Source) (d at : ℕ) (code : ℕ × ℕ) (o : Option Abbrev) (w : Walk) → (o >>= entry_at u d at code) ≡ Some (None, w) → ⊥
none_of u d at code None w h = absurd cc
none_of u d at code (Some a) w h = different (ap has_entry h)

none_code : (u : Source) (d at : ℕ) (o : Read ℕ) (w : Walk) → (o >>= λ (code : ℕ × ℕ). cond (eqb code.0 0) (zero_at u d at code.1) (of_code code.0 u.table >>= entry_at u d at code)) ≡ Some (None, w) → ⊥
none_code u d at None w h = absurd cc
none_code u d at (Some code) w h =
    elim (cases_Bool (eqb code.0 0)) [
      | inl t ↦ different (ap has_entry (rw t at h))
      | inr f ↦ none_of u d at code (of_code code.0 u.table) w (rw f at h)
    ]

pub ended : (u : Source) (d at : ℕ) (w : Walk) → entry_from u d at ≡ Some (None, w) → u.end ≤ at
unfolding entry_from
ended u d at w h =
    elim (cases_Bool (nat_lt at u.end)) [
      | inl t ↦ absurd (none_code u d at (uleb u.section.bytes at) w (rw t at h))
      | inr f ↦ ltb-false at u.end f
    ]

stuck_of : (u : Source) (d at : ℕ) (code : ℕ × ℕ) (o : Option Abbrev) → (o >>= entry_at u d at code) ≡ None → o ≡ None
stuck_of u d at code None h = refl
stuck_of u d at code (Some a) h = absurd cc

abbrev head_of : Source → ℕ → ℕ × ℕ → Option Head
head_of u at code = cond (eqb code.0 0) (Some (Close code.1)) (of_code code.0 u.table >>= λ (a : Abbrev). attributes a.specs u.encoding u.base u.section code.1 >>= λ (values : List (ℕ × AttrValue) × ℕ). Some (Open a.children (record { place = at; code = code.0; tag = a.tag; children = a.children; attributes = values.0 }) values.1))

stuck_code : (u : Source) (d at : ℕ) (o : Read ℕ) → (o >>= λ (code : ℕ × ℕ). cond (eqb code.0 0) (zero_at u d at code.1) (of_code code.0 u.table >>= entry_at u d at code)) ≡ None → (o >>= head_of u at) ≡ None
stuck_code u d at None h = refl
stuck_code u d at (Some code) h =
    elim (cases_Bool (eqb code.0 0)) [
      | inl t ↦ absurd (different (ap is_some (rw t at h)))
      | inr f ↦ let n = stuck_of u d at code (of_code code.0 u.table) (rw f at h) in rw (f, n) refl
    ]

pub record Stuck (u : Source) (at : ℕ) : Type 0 where
  pub below : at < u.end
  pub head : head_at u at ≡ None

stuck : (u : Source) (d at : ℕ) → entry_from u d at ≡ None → Stuck u at
unfolding entry_from head_at
stuck u d at h =
    elim (cases_Bool (nat_lt at u.end)) [
      | inl t ↦ record { below = ltb-true at u.end t; head = stuck_code u d at (uleb u.section.bytes at) (rw t at h) }
      | inr f ↦ absurd (different (ap is_some (rw f at h)))
    ]

pub stuck_next : (u : UnitParts) (w : Walk) → w.pending ≡ [] → w.source ≡ source_in u → next_of w ≡ None → Stuck (source_in u) w.place
stuck_next u w p s n = stuck (source_in u) w.depth w.place (sym (next_is (source_in u) w p s) ∙ n)

pub end_next : (u : UnitParts) (w w1 : Walk) → w.pending ≡ [] → w.source ≡ source_in u → next_of w ≡ Some (None, w1) → u.header.end ≤ w.place
end_next u w w1 p s n = ended (source_in u) w.depth w.place w1 (sym (next_is (source_in u) w p s) ∙ n)
