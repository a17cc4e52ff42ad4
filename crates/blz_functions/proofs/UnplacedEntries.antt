-- A function that covers no address and refers to no entry is not listed.
use Rattle.std.proofs.Common.{◌≡◌, ℕ, true, false, eqb, List, [], ◌∷◌, Option, Some, None, refl, ap, ◌∙◌, inl, inr}
use Rattle.std.proofs.lemmas.Bool.{cases_Bool, eqb-true}
use Rattle.blz_model.specs.Reads.{Read, ◌>>=◌}
use Rattle.blz_info.specs.Attributes.{passed}
use Rattle.blz_info.specs.Walks.{Walk, skipped_of}
use Rattle.blz_info.specs.Wanted.{is_placing, any_placing}
use Rattle.blz_info.specs.declared.abbreviations.AttrSpec.{AttrSpec}
use Rattle.blz_info.specs.declared.entries.Entry.{Entry}
use Rattle.blz_info.specs.declared.text.StrPlace.{StrPlace}
use Rattle.blz_info.specs.declared.forms.value.AttrValue.{AttrValue}
use Rattle.blz_entry.specs.RangeLists.{range_step, ranges_of}
use Rattle.blz_functions.specs.declared.description.Description.{Description}
use Rattle.blz_functions.specs.Describing.{Refer, no_ranges, undescribed, with_call_site, description_step, described, described_if}
use Rattle.blz_functions.specs.FunctionList.{Lists, is_function_tag, lists_added, entry_met}
use Rattle.blz_functions.specs.Leaves.{UnitParts, string_in, range_step_in, ranges_in, source_in}
use Rattle.blz_functions.specs.Naming.{is_linkage_name, is_name, or_else, name_step}
use Rattle.blz_functions.proofs.DescriptionSteps.{neither, value_at, described_on, described_end}
use Rattle.blz_functions.proofs.MetEntries.{MetEntry}

apart : (n k : ℕ) → is_placing n ≡ false → is_placing k ≡ true → eqb n k ≡ false
apart n k h placing = elim (cases_Bool (eqb n k)) [
  | inl same ↦ absurd (let e = eqb-true n k same in let q = rw e at h in cc)
  | inr other ↦ other
]

-- ---- one attribute

name_of : (refer : Refer) (u : UnitParts) (name : Option StrPlace) (n : ℕ) (v : AttrValue) → is_placing n ≡ false → (m : Option StrPlace) × (name_step refer u name (n, v) ≡ Some m)
unfolding name_step is_placing
name_of refer u name n v h =
    elim (cases_Bool (is_linkage_name n)) [
      | inl t ↦ (or_else (string_in u v) name, rw t refl)
      | inr f ↦ elim (cases_Bool (is_name n)) [
        | inl t ↦ (or_else name (string_in u v), rw (f, t) refl)
        | inr g ↦ (name, rw (f, g, apart n 0x31 h refl, apart n 0x47 h refl) refl)
      ]
    ]

-- a description without ranges
record IsUnranged (o : Option Description) : Type 0 where
  description : Description
  is : o ≡ Some description
  ranges : description.ranges ≡ no_ranges

step_of : (refer : Refer) (u : UnitParts) (d : Description) (n : ℕ) (v : AttrValue) → is_placing n ≡ false → d.ranges ≡ no_ranges → IsUnranged (description_step refer u d (n, v))
unfolding description_step range_step_in range_step is_placing
step_of refer u d n v h r =
    let m = name_of refer u d.name n v h in
    record {
      description = record { name = m.0; ranges = d.ranges; site = with_call_site u.header.version d.site (n, v) };
      is = rw (m.1, apart n 0x11 h refl, apart n 0x12 h refl, apart n 0x55 h refl) refl;
      ranges = r;
    }

-- ---- all attributes

-- the same with the place behind them
record IsTold (o : Option (Description × ℕ)) (n : ℕ) : Type 0 where
  description : Description
  is : o ≡ Some (description, n)
  ranges : description.ranges ≡ no_ranges

abbrev passed_in : UnitParts → List AttrSpec → ℕ → Option ℕ
passed_in u specs at = passed specs (source_in u).encoding (source_in u).base (source_in u).section at

told_one : (refer : Refer) (u : UnitParts) (d : Description) (a : AttrSpec) (rest : List AttrSpec) (at n : ℕ) (o : Read AttrValue) → value_at u a at ≡ o → (o >>= λ v. passed_in u rest v.1) ≡ Some n → is_placing a.name ≡ false → d.ranges ≡ no_ranges
    → ((e : Description) (next : ℕ) → passed_in u rest next ≡ Some n → e.ranges ≡ no_ranges → IsTold (described refer u e rest next) n)
    → IsTold (described refer u d (a ∷ rest) at) n
told_one refer u d a rest at n None read h other r on = absurd cc
told_one refer u d a rest at n (Some v) read h other r on =
    let s = step_of refer u d a.name v.0 other r in
    let k = on s.description v.1 h s.ranges in
    record { description = k.description; is = described_on refer u d s.description a rest at v.1 v.0 read s.is ∙ k.is; ranges = k.ranges }

told : (refer : Refer) (u : UnitParts) (specs : List AttrSpec) (d : Description) (at n : ℕ) → passed_in u specs at ≡ Some n → any_placing specs ≡ false → d.ranges ≡ no_ranges → IsTold (described refer u d specs at) n
unfolding passed
told refer u [] d at n h none r =
    let e : at ≡ n = cc in
    record { description = d; is = described_end refer u d at ∙ ap (λ (m : ℕ). Some (d, m)) e; ranges = r }
told refer u (a ∷ rest) d at n h none r =
    let k = neither (is_placing a.name) (any_placing rest) none in
    told_one refer u d a rest at n (value_at u a at) refl h k.0 r (λ e next p q. told refer u rest e next n p k.1 q)

-- ---- an entry that was met

abbrev place_in : ℕ → Option (Unit {0} × Walk) → ℕ
place_in z None = z
place_in z (Some r) = r.1.place

abbrev behind : Walk → ℕ → Option (Unit {0} × Walk)
behind w at = Some (tt, record { source = w.source; place = at; pending = []; depth = w.depth })

passes_to : (w v : Walk) (o : Option ℕ) → (o >>= behind w) ≡ Some (tt {0}, v) → o ≡ Some v.place
passes_to w v None h = absurd cc
passes_to w v (Some at) h = ap (λ (n : ℕ). Some n) (ap (place_in at) h)

passes : (w v : Walk) → skipped_of w ≡ Some (tt {0}, v) → passed w.pending w.source.encoding w.source.base w.source.section w.place ≡ Some v.place
unfolding skipped_of
passes w v h = passes_to w v (passed w.pending w.source.encoding w.source.base w.source.section w.place) h

pub unplaced : (refer : Refer) (u : UnitParts) (l : Lists) (d at : ℕ) (e : Entry) (m v : Walk) → MetEntry (source_in u) d at e m → is_function_tag e.tag ≡ true → any_placing m.pending ≡ false → skipped_of m ≡ Some (tt {0}, v) → entry_met refer u l e m ≡ Some (l, v.place)
unfolding entry_met described_if lists_added ranges_in ranges_of
unplaced refer u l d at e m v k t none s =
    let p : passed_in u k.abbreviation.specs m.place ≡ Some v.place = rw (k.pending, k.source_is) at (passes m v s) in
    let b = told refer u k.abbreviation.specs undescribed m.place v.place p (rw k.pending at none) refl in
    rw (t, k.nonzero, k.of, b.is, b.ranges) refl
