-- The root from the attributes that are wanted, which are read twice.
use Rattle.std.proofs.Common.{◌≡◌, ◌∙◌, ℕ, true, false, cond, eqb, List, Option, Some, None, refl, inl, inr, ap}
use Rattle.std.proofs.lemmas.Bool.{cases_Bool, eqb-true}
use Rattle.blz_model.specs.Reads.{Read, ◌>>=◌}
use Rattle.blz_model.specs.LebNumbers.{uleb}
use Rattle.blz_info.specs.Abbrevs.{Abbrev, of_code}
use Rattle.blz_info.specs.Attributes.{attributes}
use Rattle.blz_entry.specs.Folds.{fold_maybe, over_pending}
use Rattle.blz_entry.specs.RangeLists.{range_step}
use Rattle.blz_entry.specs.Roots.{noted_step, nothing_noted, root_attributes, root_from, root_of, root_step, with_names, based}
use Rattle.blz_info.specs.Walks.{Source, Walk, opened, source_of}
use Rattle.blz_info.specs.Wanted.{is_wanted}
use Rattle.blz_entry.specs.declared.root.RootValues.{RootValues}
use Rattle.blz_entry.specs.declared.root.UnitRoot.{UnitRoot}
use Rattle.blz_info.specs.declared.section.Sections.{Sections}
use Rattle.blz_info.specs.declared.units.UnitHeader.{UnitHeader}
use Rattle.blz_info.specs.declared.forms.value.AttrValue.{AttrValue}

-- ---- an attribute that is not wanted changes nothing

-- one that is wanted has another name
pub apart : (n k : ℕ) → is_wanted n ≡ false → is_wanted k ≡ true → eqb n k ≡ false
apart n k h wanted = elim (cases_Bool (eqb n k)) [
  | inl same ↦ absurd (let e = eqb-true n k same in let q = rw e at h in cc)
  | inr other ↦ other
]

pub noted_ignores : (r : RootValues) (n : ℕ) (v : AttrValue) → is_wanted n ≡ false → noted_step r (n, v) ≡ Some r
unfolding is_wanted
noted_ignores r n v h =
    rw (apart n 0x03 h refl, apart n 0x10 h refl, apart n 0x13 h refl, apart n 0x1b h refl, apart n 0x72 h refl, apart n 0x73 h refl, apart n 0x74 h refl) refl

pub root_ignores : (s : Sections) (h : UnitHeader) (r : UnitRoot) (n : ℕ) (v : AttrValue) → is_wanted n ≡ false → root_step s h r (n, v) ≡ Some r
unfolding root_step range_step is_wanted
root_ignores s h r n v k = rw (apart n 0x11 k refl, apart n 0x12 k refl, apart n 0x55 k refl) refl

-- ---- the attributes of the entry that was opened

abbrev values_of : Walk → Option (List (ℕ × AttrValue))
values_of w = attributes w.pending w.source.encoding w.source.base w.source.section w.place >>= λ r. Some r.0

by_abbreviation : (u : Source) (at : ℕ) (o : Option Abbrev) → (o >>= λ a. attributes a.specs u.encoding u.base u.section at >>= λ r. Some r.0) ≡ ((o >>= λ a. Some (record { source = u; place = at; pending = a.specs; depth = 0 })) >>= values_of)
by_abbreviation u at None = refl
by_abbreviation u at (Some a) = refl

by_code : (u : Source) (o : Read ℕ) → (o >>= λ code. cond (eqb code.0 0) None (of_code code.0 u.table >>= λ a. attributes a.specs u.encoding u.base u.section code.1 >>= λ r. Some r.0)) ≡ ((o >>= λ code. cond (eqb code.0 0) None (of_code code.0 u.table >>= λ a. Some (record { source = u; place = code.1; pending = a.specs; depth = 0 }))) >>= values_of)
by_code u None = refl
by_code u (Some code) = elim (cases_Bool (eqb code.0 0)) [
  | inl none ↦ rw none refl
  | inr some ↦ rw some (by_abbreviation u code.1 (of_code code.0 u.table))
]

opened_values : (u : Source) (at : ℕ) → root_attributes u at ≡ (opened u at >>= values_of)
unfolding root_attributes opened
opened_values u at = by_code u (uleb u.section.bytes at)

abbrev by_values : Sections → UnitHeader → Option (List (ℕ × AttrValue)) → Option UnitRoot
by_values s h o = o >>= λ values. fold_maybe noted_step nothing_noted values >>= λ noted_values. root_from s h values noted_values

root_by : (s : Sections) (h : UnitHeader) (table : List Abbrev) → root_of s h table ≡ by_values s h (opened (source_of s h table) h.entries >>= values_of)
unfolding root_of
root_by s h table = ap (by_values s h) (opened_values (source_of s h table) h.entries)

pub root_none : (s : Sections) (h : UnitHeader) (table : List Abbrev) → opened (source_of s h table) h.entries ≡ None → root_of s h table ≡ None
root_none s h table none = root_by s h table ∙ rw none refl

-- ---- from what was read

abbrev noted_in : Read (List (ℕ × AttrValue)) → Option RootValues
noted_in o = o >>= λ r. fold_maybe noted_step nothing_noted r.0

abbrev root_in : Sections → UnitHeader → Read (List (ℕ × AttrValue)) → Option UnitRoot
root_in s h o = by_values s h (o >>= λ r. Some r.0)

unread : (s : Sections) (h : UnitHeader) (o : Read (List (ℕ × AttrValue))) → noted_in o ≡ None → root_in s h o ≡ None
unread s h None e = refl
unread s h (Some r) e = rw e refl

split : (s : Sections) (h : UnitHeader) (o : Read (List (ℕ × AttrValue))) (n : RootValues) → noted_in o ≡ Some n → s.split ≡ true → root_in s h o ≡ Some (with_names s h n (based s h n))
split s h None n e is = absurd cc
split s h (Some r) n e is = rw (e, is) refl

ranged : (s : Sections) (h : UnitHeader) (o : Read (List (ℕ × AttrValue))) (n : RootValues) → noted_in o ≡ Some n → s.split ≡ false → root_in s h o ≡ (o >>= λ r. fold_maybe (root_step s h) (with_names s h n (based s h n)) r.0)
ranged s h None n e is = absurd cc
ranged s h (Some r) n e is = rw (e, is) refl

abbrev read_in : Walk → Read (List (ℕ × AttrValue))
read_in w = attributes w.pending w.source.encoding w.source.base w.source.section w.place

pub root_unread : (s : Sections) (h : UnitHeader) (table : List Abbrev) (w : Walk) → opened (source_of s h table) h.entries ≡ Some w → over_pending noted_step nothing_noted w ≡ None → root_of s h table ≡ None
root_unread s h table w opens none = root_by s h table ∙ rw opens (unread s h (read_in w) none)

pub root_split : (s : Sections) (h : UnitHeader) (table : List Abbrev) (w : Walk) (n : RootValues) → opened (source_of s h table) h.entries ≡ Some w → over_pending noted_step nothing_noted w ≡ Some n → s.split ≡ true → root_of s h table ≡ Some (with_names s h n (based s h n))
root_split s h table w n opens noted is = root_by s h table ∙ rw opens (split s h (read_in w) n noted is)

pub root_ranged : (s : Sections) (h : UnitHeader) (table : List Abbrev) (w : Walk) (n : RootValues) → opened (source_of s h table) h.entries ≡ Some w → over_pending noted_step nothing_noted w ≡ Some n → s.split ≡ false → root_of s h table ≡ over_pending (root_step s h) (with_names s h n (based s h n)) w
root_ranged s h table w n opens noted is = root_by s h table ∙ rw opens (ranged s h (read_in w) n noted is)
