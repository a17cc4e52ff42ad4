-- What is read from sections does not depend on where they lie in memory.
use Rattle.std.proofs.Common.{◌≡◌, ℕ, zero, suc, ◌+◌, Bool, true, false, List, [], ◌++◌, Option, Some, None, refl, ap}
use Rattle.std.specs.Option.{option_to_list}
use Rattle.std.specs.Prelude.{if◌then◌else◌, ◌==◌}
use Rattle.blz_model.specs.Reads.{◌>>=◌}
use Rattle.blz_entry.specs.AddressIndexes.{address_of, value_address}
use Rattle.blz_entry.specs.RangeLists.{range_offset, range_step, range_entry_at, coded_entry_at, coded_entry, base_of_index, both_by_index, begin_by_index, is_end, base_behind, spelled, list_length, spans_in, spans_from, ranges_by, ranges_of}
use Rattle.blz_entry.specs.StringPlaces.{string_of, indexed_string, sup_string}
use Rattle.blz_entry.specs.declared.ranges.RangeAttributes.{RangeAttributes}
use Rattle.blz_entry.specs.declared.root.UnitRoot.{UnitRoot}
use Rattle.blz_info.specs.declared.section.Section.{Section}
use Rattle.blz_info.specs.declared.section.Sections.{Sections}
use Rattle.blz_ranges.specs.declared.span.Span.{Span}
use Rattle.blz_info.specs.declared.text.StrPlace.{StrPlace}
use Rattle.blz_info.specs.declared.units.UnitHeader.{UnitHeader}
use Rattle.blz_info.specs.declared.forms.value.AttrValue.{AttrValue}
use Rattle.blz_info.specs.declared.forms.value.AttrValue.TheVariants.{SupStr}
use Rattle.blz_info.specs.FileSections.{sections_view}
use Rattle.blz_functions.specs.Leaves.{lying}

sup_same : (o : Option Section) (offset : ℕ) (s : Sections) → s.sup_strings ≡ o → sup_string s.sup_strings offset ≡ sup_string (lying (sections_view s)).sup_strings offset
sup_same None offset s e = rw e refl
sup_same (Some x) offset s e = rw e refl

pub string_lying : (s : Sections) (h : UnitHeader) (root : UnitRoot) (v : AttrValue) → string_of s h root v ≡ string_of (lying (sections_view s)) h root v
unfolding string_of indexed_string
string_lying s h root (SupStr offset) = ap (λ (o : Option StrPlace). if s.sup then None else o) (sup_same s.sup_strings offset s refl)
string_lying s h root _ = refl

pub range_step_lying : (s : Sections) (h : UnitHeader) (root : UnitRoot) (r : RangeAttributes) (name : ℕ) (v : AttrValue) → range_step s h root r (name, v) ≡ range_step (lying (sections_view s)) h root r (name, v)
unfolding range_step value_address address_of range_offset
range_step_lying s h root r name v = refl

same_step : {E : Type 0} (b : Bool) (front : List Span) (o : Option (E × ℕ)) (f g : E × ℕ → Option (List Span)) → ((e : E × ℕ) → f e ≡ g e) → (if b then Some front else (o >>= f)) ≡ (if b then Some front else (o >>= g))
same_step true front o f g h = refl
same_step false front None f g h = refl
same_step false front (Some e) f g h = h e

spans_lying : (s : Sections) (h : UnitHeader) (root : UnitRoot) (n base : ℕ) (front : List Span) (at : ℕ) → spans_in s h root n base front at ≡ spans_in (lying (sections_view s)) h root n base front at
unfolding spans_in range_entry_at coded_entry_at coded_entry base_of_index both_by_index begin_by_index address_of
spans_lying s h root zero base front at = refl
spans_lying s h root (suc n) base front at = same_step (at == list_length s h) front (range_entry_at s h root at) _ _ (λ e. ap (λ (r : Option (List Span)). if is_end e.0 then Some front else r) (spans_lying s h root n (base_behind base e.0) (front ++ option_to_list (spelled h.version h.address_size base e.0)) e.1))

list_lying : (s : Sections) (h : UnitHeader) (root : UnitRoot) (r : RangeAttributes) (o : Option ℕ) → ranges_by o r s h root ≡ ranges_by o r (lying (sections_view s)) h root
unfolding spans_from
list_lying s h root r None = refl
list_lying s h root r (Some offset) = spans_lying s h root (list_length s h + 1) root.low_pc [] offset

pub ranges_lying : (s : Sections) (h : UnitHeader) (root : UnitRoot) (r : RangeAttributes) → ranges_of r s h root ≡ ranges_of r (lying (sections_view s)) h root
unfolding ranges_of
ranges_lying s h root r = list_lying s h root r r.ranges_offset
