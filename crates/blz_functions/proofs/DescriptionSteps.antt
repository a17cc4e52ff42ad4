-- The steps of a loop over the attributes of an entry.
use Rattle.std.proofs.Common.{◌≡◌, ℕ, Bool, true, false, eqb, inl, inr, ◌≤◌, List, [], ◌∷◌, length, Option, Some, None, refl, sym, ap, subst, ◌∙◌, arith}
use Rattle.std.specs.Prelude.{◌||◌, ◌⊎◌}
use Rattle.blz_model.specs.Reads.{Read, ◌>>=◌}
use Rattle.blz_info.specs.Attributes.{attribute, attributes}
use Rattle.blz_entry.specs.Folds.{fold_maybe}
use Rattle.blz_entry.specs.RangeLists.{range_step}
use Rattle.blz_info.specs.Wanted.{Wanted, is_wanted, wanted_in, wanted_of}
use Rattle.blz_entry.specs.declared.ranges.RangeAttributes.{RangeAttributes}
use Rattle.blz_info.specs.Walks.{Source, Walk}
use Rattle.blz_model.specs.LebNumbers.{uleb}
use Rattle.blz_info.proofs.Ahead.{Past, uleb_past}
use Rattle.blz_entry.proofs.RootSteps.{apart}
use Rattle.std.proofs.lemmas.Bool.{cases_Bool, eqb-true}
use Rattle.blz_info.specs.declared.abbreviations.AttrSpec.{AttrSpec}
use Rattle.blz_info.specs.declared.text.StrPlace.{StrPlace}
use Rattle.blz_info.specs.declared.forms.value.AttrValue.{AttrValue}
use Rattle.blz_functions.specs.declared.description.CallSite.{CallSite}
use Rattle.blz_functions.specs.declared.description.Description.{Description}
use Rattle.blz_functions.specs.declared.referred.Visited.TheVariants.{Named}
use Rattle.blz_functions.specs.Describing.{Refer, tells_range, tells_site, with_call_site, description_step, described}
use Rattle.blz_functions.specs.Leaves.{UnitParts, range_step_in, source_in}
use Rattle.blz_functions.specs.Naming.{name_step, is_name, visit_from, visit_end, linkage_of, name_behind, told_name, link_behind}

-- what stands at a place as the value of an attribute
abbrev pub value_at : UnitParts → AttrSpec → ℕ → Option (AttrValue × ℕ)
value_at u spec at = attribute spec (source_in u).encoding (source_in u).base (source_in u).section at

abbrev at_place : ℕ → Description → Option (Description × ℕ)
at_place n d = Some (d, n)

abbrev in_front : ℕ × AttrValue → List (ℕ × AttrValue) × ℕ → Option (List (ℕ × AttrValue) × ℕ)
in_front a r = Some (a ∷ r.0, r.1)

abbrev folds : (Description → ℕ × AttrValue → Option Description) → Description → List (ℕ × AttrValue) × ℕ → Option (Description × ℕ)
folds step d r = fold_maybe step d r.0 >>= at_place r.1

one_more : (step : Description → ℕ × AttrValue → Option Description) (d e : Description) (a : ℕ × AttrValue) (o : Option (List (ℕ × AttrValue) × ℕ)) → step d a ≡ Some e → ((o >>= in_front a) >>= folds step d) ≡ (o >>= folds step e)
one_more step d e a None h = refl
one_more step d e a (Some r) h = rw h refl

no_more : (step : Description → ℕ × AttrValue → Option Description) (d : Description) (a : ℕ × AttrValue) (o : Option (List (ℕ × AttrValue) × ℕ)) → step d a ≡ None → ((o >>= in_front a) >>= folds step d) ≡ None
no_more step d a None h = refl
no_more step d a (Some r) h = rw h refl

pub described_on : (refer : Refer) (u : UnitParts) (d e : Description) (spec : AttrSpec) (rest : List AttrSpec) (at next : ℕ) (v : AttrValue) → value_at u spec at ≡ Some (v, next) → description_step refer u d (spec.name, v) ≡ Some e → described refer u d (spec ∷ rest) at ≡ described refer u e rest next
unfolding described attributes
described_on refer u d e spec rest at next v read step = rw read (one_more (description_step refer u) d e (spec.name, v) (attributes rest (source_in u).encoding (source_in u).base (source_in u).section next) step)

pub described_unread : (refer : Refer) (u : UnitParts) (d : Description) (spec : AttrSpec) (rest : List AttrSpec) (at : ℕ) → value_at u spec at ≡ None → described refer u d (spec ∷ rest) at ≡ None
unfolding described attributes
described_unread refer u d spec rest at read = rw read refl

pub described_broken : (refer : Refer) (u : UnitParts) (d : Description) (spec : AttrSpec) (rest : List AttrSpec) (at next : ℕ) (v : AttrValue) → value_at u spec at ≡ Some (v, next) → description_step refer u d (spec.name, v) ≡ None → described refer u d (spec ∷ rest) at ≡ None
unfolding described attributes
described_broken refer u d spec rest at next v read step = rw read (no_more (description_step refer u) d (spec.name, v) (attributes rest (source_in u).encoding (source_in u).base (source_in u).section next) step)

pub described_end : (refer : Refer) (u : UnitParts) (d : Description) (at : ℕ) → described refer u d [] at ≡ Some (d, at)
unfolding described attributes
described_end refer u d at = refl

-- the same for an entry that is referred to

pub visit_on : (u : UnitParts) (spec : AttrSpec) (rest : List AttrSpec) (name : Option StrPlace) (link : Option AttrValue) (at next : ℕ) (v : AttrValue) → value_at u spec at ≡ Some (v, next) → linkage_of u spec.name v ≡ None → visit_from u (spec ∷ rest) name link at ≡ visit_from u rest (name_behind u spec.name v name) (link_behind spec.name v link) next
unfolding visit_from
visit_on u spec rest name link at next v read none = rw (read, none) refl

pub visit_named : (u : UnitParts) (spec : AttrSpec) (rest : List AttrSpec) (name : Option StrPlace) (link : Option AttrValue) (at next : ℕ) (v : AttrValue) (found : StrPlace) → value_at u spec at ≡ Some (v, next) → linkage_of u spec.name v ≡ Some found → visit_from u (spec ∷ rest) name link at ≡ Some (Named found)
unfolding visit_from
visit_named u spec rest name link at next v found read is = rw (read, is) refl

pub visit_unread : (u : UnitParts) (spec : AttrSpec) (rest : List AttrSpec) (name : Option StrPlace) (link : Option AttrValue) (at : ℕ) → value_at u spec at ≡ None → visit_from u (spec ∷ rest) name link at ≡ None
unfolding visit_from
visit_unread u spec rest name link at read = rw read refl

-- ---- an attribute that is not wanted changes nothing

-- a name that is none of those that are wanted
record IsOther (n : ℕ) : Type 0 where
  name : eqb n 0x03 ≡ false
  low : eqb n 0x11 ≡ false
  high : eqb n 0x12 ≡ false
  origin : eqb n 0x31 ≡ false
  specification : eqb n 0x47 ≡ false
  ranges : eqb n 0x55 ≡ false
  column : eqb n 0x57 ≡ false
  file : eqb n 0x58 ≡ false
  line : eqb n 0x59 ≡ false
  linkage : eqb n 0x6e ≡ false
  mips : eqb n 0x2007 ≡ false

is_other : (n : ℕ) → is_wanted n ≡ false → IsOther n
unfolding is_wanted
is_other n h = record {
  name = apart n 0x03 h refl;
  low = apart n 0x11 h refl;
  high = apart n 0x12 h refl;
  origin = apart n 0x31 h refl;
  specification = apart n 0x47 h refl;
  ranges = apart n 0x55 h refl;
  column = apart n 0x57 h refl;
  file = apart n 0x58 h refl;
  line = apart n 0x59 h refl;
  linkage = apart n 0x6e h refl;
  mips = apart n 0x2007 h refl;
}

other_name : (refer : Refer) (u : UnitParts) (name : Option StrPlace) (n : ℕ) (v : AttrValue) → IsOther n → name_step refer u name (n, v) ≡ Some name
unfolding name_step
other_name refer u name n v h = rw (h.linkage, h.mips, h.name, h.origin, h.specification) refl

other_ranges : (u : UnitParts) (r : RangeAttributes) (n : ℕ) (v : AttrValue) → IsOther n → range_step_in u r (n, v) ≡ Some r
unfolding range_step_in range_step
other_ranges u r n v h = rw (h.low, h.high, h.ranges) refl

other_site : (version : ℕ) (s : CallSite) (n : ℕ) (v : AttrValue) → IsOther n → with_call_site version s (n, v) ≡ s
other_site version s n v h = rw (h.file, h.line, h.column) refl

other_step : (refer : Refer) (u : UnitParts) (d : Description) (n : ℕ) (v : AttrValue) → is_wanted n ≡ false → description_step refer u d (n, v) ≡ Some d
unfolding description_step
other_step refer u d n v h =
    let other = is_other n h in
    rw (other_name refer u d.name n v other, other_ranges u d.ranges n v other, other_site u.header.version d.site n v other) refl

other_linkage : (u : UnitParts) (n : ℕ) (v : AttrValue) → IsOther n → linkage_of u n v ≡ None
other_linkage u n v h = rw (h.linkage, h.mips) refl

other_behind : (u : UnitParts) (n : ℕ) (v : AttrValue) (old : Option StrPlace) → IsOther n → name_behind u n v old ≡ old
other_behind u n v old h = rw h.name refl

other_link : (n : ℕ) (v : AttrValue) (old : Option AttrValue) → IsOther n → link_behind n v old ≡ old
other_link n v old h = rw (h.origin, h.specification) refl

-- ---- up to the next attribute that is wanted

look : {A : Type 0} (o : Option A) → (o ≡ None) ⊎ ((x : A) × (o ≡ Some x))
look None = inl refl
look (Some x) = inr (x, refl)

some_is : {A : Type 0} {x y : A} → Some x ≡ Some y → x ≡ y
some_is h = cc

-- what two of them that are one have in common
same_met : {x y : Option (ℕ × AttrValue)} {xs ys : List AttrSpec} {m n : ℕ} → ◌≡◌ {A = Option Wanted} (Some (x, (xs, m))) (Some (y, (ys, n))) → (x ≡ y) × (xs ≡ ys) × (m ≡ n)
same_met h =
    let k = some_is h in
    (ap (λ (r : Wanted). r.0) k, ap (λ (r : Wanted). r.1.0) k, ap (λ (r : Wanted). r.1.1) k)

same_found : {a n : ℕ} {v w : AttrValue} → ◌≡◌ {A = Option (ℕ × AttrValue)} (Some (a, v)) (Some (n, w)) → (a ≡ n) × (v ≡ w)
same_found h = let k = some_is h in (ap (λ (r : ℕ × AttrValue). r.0) k, ap (λ (r : ℕ × AttrValue). r.1) k)

not_met : {f : ℕ × AttrValue} → None ≡ Some f → ⊥
not_met h = cc

abbrev pub wanted_at : UnitParts → List AttrSpec → ℕ → Option Wanted
wanted_at u specs at = wanted_in specs (source_in u).encoding (source_in u).base (source_in u).section at

pub described_more : (refer : Refer) (u : UnitParts) (d e : Description) (specs rest : List AttrSpec) (at next n : ℕ) (v : AttrValue) → wanted_at u specs at ≡ Some (Some (n, v), (rest, next)) → description_step refer u d (n, v) ≡ Some e → described refer u d specs at ≡ described refer u e rest next
unfolding wanted_in
described_more refer u d e [] rest at next n v h step = absurd (not_met (same_met h).0)
described_more refer u d e (a ∷ others) rest at next n v h step = elim (look (value_at u a at)) [
  | inl none ↦ absurd (let k = rw none at h in cc)
  | inr read ↦ elim (cases_Bool (is_wanted a.name)) [
    | inl wanted ↦
        let k = rw (read.1, wanted) at h in
        let met = same_met k in
        let same_name : a.name ≡ n = (same_found met.0).0 in
        let same_value : read.0.0 ≡ v = (same_found met.0).1 in
        let is : description_step refer u d (a.name, read.0.0) ≡ Some e = rw (same_name, same_value) step in
        described_on refer u d e a others at read.0.1 read.0.0 read.1 is ∙ rw (met.1, met.2) refl
    | inr other ↦
        let k = rw (read.1, other) at h in
        described_on refer u d d a others at read.0.1 read.0.0 read.1 (other_step refer u d a.name read.0.0 other) ∙ described_more refer u d e others rest read.0.1 next n v k step
  ]
]

pub described_fails : (refer : Refer) (u : UnitParts) (d : Description) (specs rest : List AttrSpec) (at next n : ℕ) (v : AttrValue) → wanted_at u specs at ≡ Some (Some (n, v), (rest, next)) → description_step refer u d (n, v) ≡ None → described refer u d specs at ≡ None
unfolding wanted_in
described_fails refer u d [] rest at next n v h step = absurd (not_met (same_met h).0)
described_fails refer u d (a ∷ others) rest at next n v h step = elim (look (value_at u a at)) [
  | inl none ↦ absurd (let k = rw none at h in cc)
  | inr read ↦ elim (cases_Bool (is_wanted a.name)) [
    | inl wanted ↦
        let k = rw (read.1, wanted) at h in
        let met = same_met k in
        let same_name : a.name ≡ n = (same_found met.0).0 in
        let same_value : read.0.0 ≡ v = (same_found met.0).1 in
        let is : description_step refer u d (a.name, read.0.0) ≡ None = rw (same_name, same_value) step in
        described_broken refer u d a others at read.0.1 read.0.0 read.1 is
    | inr other ↦
        let k = rw (read.1, other) at h in
        described_on refer u d d a others at read.0.1 read.0.0 read.1 (other_step refer u d a.name read.0.0 other) ∙ described_fails refer u d others rest read.0.1 next n v k step
  ]
]

pub described_none : (refer : Refer) (u : UnitParts) (d : Description) (specs : List AttrSpec) (at : ℕ) → wanted_at u specs at ≡ None → described refer u d specs at ≡ None
unfolding wanted_in
described_none refer u d [] at h = absurd cc
described_none refer u d (a ∷ others) at h = elim (look (value_at u a at)) [
  | inl none ↦ described_unread refer u d a others at none
  | inr read ↦ elim (cases_Bool (is_wanted a.name)) [
    | inl wanted ↦ absurd (let k = rw (read.1, wanted) at h in cc)
    | inr other ↦
        let k = rw (read.1, other) at h in
        described_on refer u d d a others at read.0.1 read.0.0 read.1 (other_step refer u d a.name read.0.0 other) ∙ described_none refer u d others read.0.1 k
  ]
]

pub described_over : (refer : Refer) (u : UnitParts) (d : Description) (specs rest : List AttrSpec) (at next : ℕ) → wanted_at u specs at ≡ Some (None, (rest, next)) → described refer u d specs at ≡ Some (d, next)
unfolding wanted_in
described_over refer u d [] rest at next h = let same : at ≡ next = (same_met h).2 in rw same (described_end refer u d next)
described_over refer u d (a ∷ others) rest at next h = elim (look (value_at u a at)) [
  | inl none ↦ absurd (let k = rw none at h in cc)
  | inr read ↦ elim (cases_Bool (is_wanted a.name)) [
    | inl wanted ↦ absurd (let k = rw (read.1, wanted) at h in not_met (sym (same_met k).0))
    | inr other ↦
        let k = rw (read.1, other) at h in
        described_on refer u d d a others at read.0.1 read.0.0 read.1 (other_step refer u d a.name read.0.0 other) ∙ described_over refer u d others rest read.0.1 next k
  ]
]

-- the same for an entry that is referred to

visit_past : (u : UnitParts) (a : AttrSpec) (others : List AttrSpec) (name : Option StrPlace) (link : Option AttrValue) (at next : ℕ) (v : AttrValue) → value_at u a at ≡ Some (v, next) → is_wanted a.name ≡ false → visit_from u (a ∷ others) name link at ≡ visit_from u others name link next
visit_past u a others name link at next v read h =
    let other = is_other a.name h in
    visit_on u a others name link at next v read (other_linkage u a.name v other) ∙ rw (other_behind u a.name v name other, other_link a.name v link other) refl

pub visit_more : (u : UnitParts) (specs rest : List AttrSpec) (name : Option StrPlace) (link : Option AttrValue) (at next n : ℕ) (v : AttrValue) → wanted_at u specs at ≡ Some (Some (n, v), (rest, next)) → linkage_of u n v ≡ None → visit_from u specs name link at ≡ visit_from u rest (name_behind u n v name) (link_behind n v link) next
unfolding wanted_in
visit_more u [] rest name link at next n v h none = absurd (not_met (same_met h).0)
visit_more u (a ∷ others) rest name link at next n v h none = elim (look (value_at u a at)) [
  | inl unread ↦ absurd (let k = rw unread at h in cc)
  | inr read ↦ elim (cases_Bool (is_wanted a.name)) [
    | inl wanted ↦
        let k = rw (read.1, wanted) at h in
        let met = same_met k in
        let same_name : a.name ≡ n = (same_found met.0).0 in
        let same_value : read.0.0 ≡ v = (same_found met.0).1 in
        let is : linkage_of u a.name read.0.0 ≡ None = rw (same_name, same_value) none in
        visit_on u a others name link at read.0.1 read.0.0 read.1 is ∙ rw (same_name, same_value, met.1, met.2) refl
    | inr other ↦
        let k = rw (read.1, other) at h in
        visit_past u a others name link at read.0.1 read.0.0 read.1 other ∙ visit_more u others rest name link read.0.1 next n v k none
  ]
]

pub visit_found : (u : UnitParts) (specs rest : List AttrSpec) (name : Option StrPlace) (link : Option AttrValue) (at next n : ℕ) (v : AttrValue) (found : StrPlace) → wanted_at u specs at ≡ Some (Some (n, v), (rest, next)) → linkage_of u n v ≡ Some found → visit_from u specs name link at ≡ Some (Named found)
unfolding wanted_in
visit_found u [] rest name link at next n v found h is = absurd (not_met (same_met h).0)
visit_found u (a ∷ others) rest name link at next n v found h is = elim (look (value_at u a at)) [
  | inl unread ↦ absurd (let k = rw unread at h in cc)
  | inr read ↦ elim (cases_Bool (is_wanted a.name)) [
    | inl wanted ↦
        let k = rw (read.1, wanted) at h in
        let met = same_met k in
        let same_name : a.name ≡ n = (same_found met.0).0 in
        let same_value : read.0.0 ≡ v = (same_found met.0).1 in
        let known : linkage_of u a.name read.0.0 ≡ Some found = rw (same_name, same_value) is in
        visit_named u a others name link at read.0.1 read.0.0 found read.1 known
    | inr other ↦
        let k = rw (read.1, other) at h in
        visit_past u a others name link at read.0.1 read.0.0 read.1 other ∙ visit_found u others rest name link read.0.1 next n v found k is
  ]
]

pub visit_none : (u : UnitParts) (specs : List AttrSpec) (name : Option StrPlace) (link : Option AttrValue) (at : ℕ) → wanted_at u specs at ≡ None → visit_from u specs name link at ≡ None
unfolding wanted_in
visit_none u [] name link at h = absurd cc
visit_none u (a ∷ others) name link at h = elim (look (value_at u a at)) [
  | inl unread ↦ visit_unread u a others name link at unread
  | inr read ↦ elim (cases_Bool (is_wanted a.name)) [
    | inl wanted ↦ absurd (let k = rw (read.1, wanted) at h in cc)
    | inr other ↦
        let k = rw (read.1, other) at h in
        visit_past u a others name link at read.0.1 read.0.0 read.1 other ∙ visit_none u others name link read.0.1 k
  ]
]

visit_last : (u : UnitParts) (name : Option StrPlace) (link : Option AttrValue) (at : ℕ) → visit_from u [] name link at ≡ Some (visit_end name link)
unfolding visit_from
visit_last u name link at = refl

pub visit_over : (u : UnitParts) (specs rest : List AttrSpec) (name : Option StrPlace) (link : Option AttrValue) (at next : ℕ) → wanted_at u specs at ≡ Some (None, (rest, next)) → visit_from u specs name link at ≡ Some (visit_end name link)
unfolding wanted_in
visit_over u [] rest name link at next h = visit_last u name link at
visit_over u (a ∷ others) rest name link at next h = elim (look (value_at u a at)) [
  | inl unread ↦ absurd (let k = rw unread at h in cc)
  | inr read ↦ elim (cases_Bool (is_wanted a.name)) [
    | inl wanted ↦ absurd (let k = rw (read.1, wanted) at h in not_met (sym (same_met k).0))
    | inr other ↦
        let k = rw (read.1, other) at h in
        visit_past u a others name link at read.0.1 read.0.0 read.1 other ∙ visit_over u others rest name link read.0.1 next k
  ]
]

-- a name whose text is looked for later is the name behind its attribute
pub name_told : (u : UnitParts) (n : ℕ) (v : AttrValue) (old : Option StrPlace) → is_name n ≡ true → name_behind u n v old ≡ told_name u (Some v) old
name_told u n v old is = rw is refl

pub name_kept : (u : UnitParts) (n : ℕ) (v : AttrValue) (old : Option StrPlace) → is_name n ≡ false → name_behind u n v old ≡ old
name_kept u n v old is = rw is refl

-- ---- what a walk over wanted attributes reads

abbrev walk_to : Source → ℕ → List AttrSpec → ℕ → Walk
walk_to u at pending d = record { source = u; place = at; pending = pending; depth = d }

abbrev walks_on : Source → ℕ → Wanted → Option (Option (ℕ × AttrValue) × Walk)
walks_on u d r = Some (r.0, walk_to u r.1.1 r.1.0 d)

abbrev found_by : Option (ℕ × AttrValue) → Option (Option (ℕ × AttrValue) × Walk) → Option (ℕ × AttrValue)
found_by f None = f
found_by f (Some r) = r.0

abbrev walk_of_step : Walk → Option (Option (ℕ × AttrValue) × Walk) → Walk
walk_of_step w None = w
walk_of_step w (Some r) = r.1

abbrev met : Option (ℕ × AttrValue) → List AttrSpec → ℕ → Option Wanted
met f pending at = Some (f, (pending, at))

read_by : (u : Source) (found : Option (ℕ × AttrValue)) (d : ℕ) (o : Option Wanted) (new : Walk) → (o >>= walks_on u d) ≡ Some (found, new) → o ≡ met found new.pending new.place
read_by u found d None new h = absurd cc
read_by u found d (Some r) new h =
    let x : r.0 ≡ found = ap (found_by found) h in
    let y : walk_to u r.1.1 r.1.0 d ≡ new = ap (walk_of_step new) h in
    let pending : r.1.0 ≡ new.pending = ap (λ (w : Walk). w.pending) y in
    let place : r.1.1 ≡ new.place = ap (λ (w : Walk). w.place) y in
    ap (λ (f : Option (ℕ × AttrValue)). met f r.1.0 r.1.1) x ∙ ap (λ (p : List AttrSpec). met found p r.1.1) pending ∙ ap (met found new.pending) place

wanted_read : (u : UnitParts) (found : Option (ℕ × AttrValue)) (src : Source) (at d : ℕ) (pending : List AttrSpec) (new : Walk) → src ≡ source_in u → wanted_of (walk_to src at pending d) ≡ Some (found, new) → wanted_at u pending at ≡ met found new.pending new.place
unfolding wanted_of
wanted_read u found src at d pending new s h = read_by (source_in u) found d (wanted_at u pending at) new (rw s at h)

pub read_one : (u : UnitParts) (found : Option (ℕ × AttrValue)) (w new : Walk) → w.source ≡ source_in u → wanted_of w ≡ Some (found, new) → wanted_at u w.pending w.place ≡ Some (found, (new.pending, new.place))
read_one u found w new s h = wanted_read u found w.source w.place w.depth w.pending new s h

unread_by : (u : Source) (d : ℕ) (o : Option Wanted) → (o >>= walks_on u d) ≡ None → o ≡ None
unread_by u d None h = refl
unread_by u d (Some r) h = absurd cc

wanted_unread : (u : UnitParts) (src : Source) (at d : ℕ) (pending : List AttrSpec) → src ≡ source_in u → wanted_of (walk_to src at pending d) ≡ None → wanted_at u pending at ≡ None
unfolding wanted_of
wanted_unread u src at d pending s h = unread_by (source_in u) d (wanted_at u pending at) (rw s at h)

pub read_none : (u : UnitParts) (w : Walk) → w.source ≡ source_in u → wanted_of w ≡ None → wanted_at u w.pending w.place ≡ None
read_none u w s h = wanted_unread u w.source w.place w.depth w.pending s h

-- ---- no number stands past the bytes

none_over : (bytes : List ℕ) (at : ℕ) (o : Read ℕ) → length bytes ≤ at → Past bytes at o → o ≡ None
none_over bytes at None le h = refl
none_over bytes at (Some r) le h = absurd (omega (arith, h.0, h.1))

pub uleb_over : (bytes : List ℕ) (at : ℕ) → length bytes ≤ at → uleb bytes at ≡ None
uleb_over bytes at le = none_over bytes at (uleb bytes at) le (uleb_past bytes at)

-- ---- an attribute changes one part of a description

either : (a b : Bool) → (a || b) ≡ true → (a ≡ true) ⊎ (b ≡ true)
either true b h = inl refl
either false b h = inr h

pub neither : (a b : Bool) → (a || b) ≡ false → (a ≡ false) × (b ≡ false)
neither true b h = absurd cc
neither false b h = (refl, h)

one_of : (name a b c : ℕ) (P : ℕ → Type 0) → (eqb name a || (eqb name b || eqb name c)) ≡ true → P a → P b → P c → P name
one_of name a b c P h x y z = elim (either (eqb name a) (eqb name b || eqb name c) h) [
  | inl e ↦ subst P (sym (eqb-true name a e)) x
  | inr k ↦ elim (either (eqb name b) (eqb name c) k) [
    | inl e ↦ subst P (sym (eqb-true name b e)) y
    | inr e ↦ subst P (sym (eqb-true name c e)) z
  ]
]

abbrev with_ranges : Description → RangeAttributes → Option Description
with_ranges d r = Some (record { name = d.name; ranges = r; site = d.site })

abbrev with_name : Description → Option StrPlace → Option Description
with_name d name = Some (record { name = name; ranges = d.ranges; site = d.site })

pub range_alone : (refer : Refer) (u : UnitParts) (d : Description) (name : ℕ) (v : AttrValue) → tells_range name ≡ true → description_step refer u d (name, v) ≡ (range_step_in u d.ranges (name, v) >>= with_ranges d)
unfolding description_step name_step
range_alone refer u d name v h = one_of name 0x11 0x12 0x55 (λ (n : ℕ). description_step refer u d (n, v) ≡ (range_step_in u d.ranges (n, v) >>= with_ranges d)) h refl refl refl

pub site_alone : (refer : Refer) (u : UnitParts) (d : Description) (name : ℕ) (v : AttrValue) → tells_site name ≡ true → description_step refer u d (name, v) ≡ Some (record { name = d.name; ranges = d.ranges; site = with_call_site u.header.version d.site (name, v) })
unfolding description_step name_step range_step_in range_step
site_alone refer u d name v h = one_of name 0x58 0x59 0x57 (λ (n : ℕ). description_step refer u d (n, v) ≡ Some (record { name = d.name; ranges = d.ranges; site = with_call_site u.header.version d.site (n, v) })) h refl refl refl

named : (d : Description) (o : Option (Option StrPlace)) → (o >>= λ (n : Option StrPlace). Some d.ranges >>= λ (r : RangeAttributes). Some (record { name = n; ranges = r; site = d.site })) ≡ (o >>= with_name d)
named d None = refl
named d (Some n) = refl

pub name_alone : (refer : Refer) (u : UnitParts) (d : Description) (name : ℕ) (v : AttrValue) → tells_range name ≡ false → tells_site name ≡ false → description_step refer u d (name, v) ≡ (name_step refer u d.name (name, v) >>= with_name d)
unfolding description_step range_step_in range_step
name_alone refer u d name v h k =
    let a = neither (eqb name 0x11) (eqb name 0x12 || eqb name 0x55) h in
    let b = neither (eqb name 0x12) (eqb name 0x55) a.1 in
    let s = neither (eqb name 0x58) (eqb name 0x59 || eqb name 0x57) k in
    let t = neither (eqb name 0x59) (eqb name 0x57) s.1 in
    rw (a.0, b.0, b.1, s.0, t.0, t.1) (named d (name_step refer u d.name (name, v)))
