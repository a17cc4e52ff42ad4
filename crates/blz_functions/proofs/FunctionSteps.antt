-- One entry more of a unit, and the functions that were met.
use Rattle.std.proofs.Common.{◌≡◌, ℕ, ◌+◌, ◌-◌, ◌<◌, Bool, true, false, cond, List, [], ◌∷◌, Option, Some, None, refl, sym, ap, ◌∙◌, arith, inl, inr}
use Rattle.std.specs.Prelude.{option_map}
use Rattle.blz_model.specs.Reads.{Read, ◌>>=◌}
use Rattle.blz_info.specs.Abbrevs.{Abbrev}
use Rattle.blz_ranges.specs.declared.span.Span.{Span}
use Rattle.blz_info.specs.declared.forms.value.AttrValue.{AttrValue}
use Rattle.blz_info.specs.declared.entries.Entry.{Entry}
use Rattle.blz_info.specs.Forest.{Info, Head, Open, flat_step}
use Rattle.blz_entry.specs.Folds.{fold_maybe}
use Rattle.blz_info.specs.Walks.{Walk, head_at, next_of}
use Rattle.blz_info.proofs.Preorder.{flat_on, flat_end}
use Rattle.blz_functions.specs.declared.description.Description.{Description}
use Rattle.blz_functions.specs.Describing.{Refer, undescribed, description_step, described_to}
use Rattle.blz_functions.specs.FunctionList.{RangedFunction, function_by, function_of, is_function, is_function_tag, functions_among, entries_from, infos, Lists, with_ranges, lists_with, lists_added, lists_from, function_behind, entry_met}
use Rattle.blz_functions.specs.Leaves.{UnitParts, ranges_in, source_in}
use Rattle.blz_functions.proofs.MetEntries.{MetZero, MetEntry, info_of, values_of, head_zero, head_entry, On, leads_on, description_if, described_entry, described_zero, met_next, stuck_next, end_next}

abbrev then_lists : Refer → UnitParts → Lists → List (ℕ × Info) → Option Lists
then_lists refer u l es = functions_among refer u (infos es) >>= λ (fs : List RangedFunction). Some (lists_with l fs)

flat_open : (u : UnitParts) (d : ℕ) (b : Bool) (i : Info) (next : ℕ) → flat_step d (Some (Open b i next)) (λ k n. entries_from u k n) ≡ option_map (λ (rest : List (ℕ × Info)). (d, i) ∷ rest) (entries_from u (cond b (d + 1) d) next)
flat_open u d true i next = refl
flat_open u d false i next = refl

from_zero : (refer : Refer) (u : UnitParts) (l : Lists) (d at : ℕ) (e : Entry) (w : Walk) → On u → (source_in u).end ≡ u.header.end → MetZero (source_in u) d at e w → lists_from refer u l d at ≡ lists_from refer u l w.depth w.place
unfolding lists_from
from_zero refer u l d at e w on end m =
    let lt : at < u.header.end = let k = m.below in omega arith in
    let f : entries_from u d at ≡ entries_from u (d - 1) w.place = flat_on (head_at (source_in u)) u.header.end on d at lt ∙ ap (λ (h : Option Head). flat_step d h (λ k n. entries_from u k n)) (head_zero (source_in u) d at e w m) in
    rw (f, m.depth) refl

-- the same for an entry, by its attributes
by_values : Refer → UnitParts → Lists → ℕ → ℕ → ℕ → Abbrev → List (ℕ × AttrValue) × ℕ → Option Lists
by_values refer u l d at code a r = option_map (λ (rest : List (ℕ × Info)). (d, info_of at code a r.0) ∷ rest) (entries_from u (cond a.children (d + 1) d) r.1) >>= then_lists refer u l

step_values : (refer : Refer) (u : UnitParts) (l : Lists) (d at code : ℕ) (a : Abbrev) (o : Read (List (ℕ × AttrValue))) → (flat_step d (o >>= λ (r : List (ℕ × AttrValue) × ℕ). Some (Open a.children (info_of at code a r.0) r.1)) (λ k n. entries_from u k n) >>= then_lists refer u l) ≡ (o >>= by_values refer u l d at code a)
unfolding by_values
step_values refer u l d at code a None = refl
step_values refer u l d at code a (Some r) = ap (λ (x : Option (List (ℕ × Info))). x >>= then_lists refer u l) (flat_open u d a.children (info_of at code a r.0) r.1)

from_entry : (refer : Refer) (u : UnitParts) (l : Lists) (d at : ℕ) (e : Entry) (w : Walk) → On u → (source_in u).end ≡ u.header.end → (m : MetEntry (source_in u) d at e w) → lists_from refer u l d at ≡ (values_of u m.abbreviation w.place >>= by_values refer u l d at e.code m.abbreviation)
unfolding lists_from
from_entry refer u l d at e w on end m =
    let lt : at < u.header.end = let k = m.below in omega arith in
    let f : entries_from u d at ≡ flat_step d (head_at (source_in u) at) (λ k n. entries_from u k n) = flat_on (head_at (source_in u)) u.header.end on d at lt in
    ap (λ (x : Option (List (ℕ × Info))). x >>= then_lists refer u l) (f ∙ ap (λ (h : Option Head). flat_step d h (λ k n. entries_from u k n)) (head_entry u d at e w m))
    ∙ step_values refer u l d at e.code m.abbreviation (values_of u m.abbreviation w.place)

-- an entry that is no function
other_on : (refer : Refer) (u : UnitParts) (l : Lists) (i : Info) (d : ℕ) (o : Option (List (ℕ × Info))) → is_function i ≡ false → (option_map (λ (rest : List (ℕ × Info)). (d, i) ∷ rest) o >>= then_lists refer u l) ≡ (o >>= then_lists refer u l)
unfolding functions_among
other_on refer u l i d None f = refl
other_on refer u l i d (Some es) f = rw f refl

with_rest : (l : Lists) (f : RangedFunction) (o : Option (List RangedFunction)) → ((o >>= λ (fs : List RangedFunction). Some (f ∷ fs)) >>= λ (fs : List RangedFunction). Some (lists_with l fs)) ≡ (o >>= λ (fs : List RangedFunction). Some (lists_with (with_ranges l f.function f.ranges) fs))
with_rest l f None = refl
with_rest l f (Some fs) = refl

-- a function
function_on : (refer : Refer) (u : UnitParts) (l : Lists) (i : Info) (d : ℕ) (f : RangedFunction) (o : Option (List (ℕ × Info))) → is_function i ≡ true → function_of refer u i ≡ Some f → (option_map (λ (rest : List (ℕ × Info)). (d, i) ∷ rest) o >>= then_lists refer u l) ≡ (o >>= then_lists refer u (with_ranges l f.function f.ranges))
unfolding functions_among
function_on refer u l i d f None t is = refl
function_on refer u l i d f (Some es) t is = rw (t, is) (with_rest l f (functions_among refer u (infos es)))

function_fails : (refer : Refer) (u : UnitParts) (l : Lists) (i : Info) (d : ℕ) (o : Option (List (ℕ × Info))) → is_function i ≡ true → function_of refer u i ≡ None → (option_map (λ (rest : List (ℕ × Info)). (d, i) ∷ rest) o >>= then_lists refer u l) ≡ None
unfolding functions_among
function_fails refer u l i d None t is = refl
function_fails refer u l i d (Some es) t is = rw (t, is) refl

-- ---- one more entry

-- the lists from a place on, with what an entry before it added
abbrev pub lists_behind : Refer → UnitParts → ℕ → Lists × ℕ → Option Lists
lists_behind refer u d p = lists_from refer u p.0 d p.1

-- a function by its description and its ranges
abbrev added_by : UnitParts → Lists → ℕ → ℕ → Option Description → Option (Lists × ℕ)
added_by u l at next o = (o >>= described_to next) >>= function_behind u l at

ranged : (refer : Refer) (u : UnitParts) (l : Lists) (d at code : ℕ) (a : Abbrev) (r : List (ℕ × AttrValue) × ℕ) (b : Description) (q : Option (List Span)) → is_function_tag a.tag ≡ true → fold_maybe (description_step refer u) undescribed r.0 ≡ Some b → ranges_in u b.ranges ≡ q
    → by_values refer u l d at code a r ≡ (added_by u l at r.1 (Some b) >>= lists_behind refer u (cond a.children (d + 1) d))
unfolding by_values lists_from lists_added function_of info_of
ranged refer u l d at code a r b None t f is =
    let made : function_of refer u (info_of at code a r.0) ≡ None = rw (f, is) refl in
    function_fails refer u l (info_of at code a r.0) d (entries_from u (cond a.children (d + 1) d) r.1) t made ∙ rw is refl
ranged refer u l d at code a r b (Some rs) t f is =
    let made : function_of refer u (info_of at code a r.0) ≡ Some (record { function = function_by at b; ranges = rs }) = rw (f, is) refl in
    function_on refer u l (info_of at code a r.0) d (record { function = function_by at b; ranges = rs }) (entries_from u (cond a.children (d + 1) d) r.1) t made ∙ rw is refl

folded : (refer : Refer) (u : UnitParts) (l : Lists) (d at code : ℕ) (a : Abbrev) (r : List (ℕ × AttrValue) × ℕ) (f : Option Description) → is_function_tag a.tag ≡ true → fold_maybe (description_step refer u) undescribed r.0 ≡ f
    → by_values refer u l d at code a r ≡ (added_by u l at r.1 f >>= lists_behind refer u (cond a.children (d + 1) d))
unfolding by_values function_of info_of
folded refer u l d at code a r None t is =
    let made : function_of refer u (info_of at code a r.0) ≡ None = rw is refl in
    function_fails refer u l (info_of at code a r.0) d (entries_from u (cond a.children (d + 1) d) r.1) t made
folded refer u l d at code a r (Some b) t is = ranged refer u l d at code a r b (ranges_in u b.ranges) t is refl

one_read : (refer : Refer) (u : UnitParts) (l : Lists) (d at code : ℕ) (a : Abbrev) (r : List (ℕ × AttrValue) × ℕ) (wanted : Bool) → is_function_tag a.tag ≡ wanted
    → by_values refer u l d at code a r ≡ ((description_if refer u wanted (info_of at code a r.0) r.1 >>= function_behind u l at) >>= lists_behind refer u (cond a.children (d + 1) d))
unfolding by_values lists_from info_of
one_read refer u l d at code a r true t = folded refer u l d at code a r (fold_maybe (description_step refer u) undescribed r.0) t refl
one_read refer u l d at code a r false t = other_on refer u l (info_of at code a r.0) d (entries_from u (cond a.children (d + 1) d) r.1) t

all_read : (refer : Refer) (u : UnitParts) (l : Lists) (d at code : ℕ) (a : Abbrev) (o : Read (List (ℕ × AttrValue))) (wanted : Bool) → is_function_tag a.tag ≡ wanted
    → (o >>= by_values refer u l d at code a) ≡ (((o >>= λ (r : List (ℕ × AttrValue) × ℕ). description_if refer u wanted (info_of at code a r.0) r.1) >>= function_behind u l at) >>= lists_behind refer u (cond a.children (d + 1) d))
all_read refer u l d at code a None wanted t = refl
all_read refer u l d at code a (Some r) wanted t = one_read refer u l d at code a r wanted t

entry_step : (refer : Refer) (u : UnitParts) (l : Lists) (d at : ℕ) (e : Entry) (w : Walk) → On u → MetEntry (source_in u) d at e w → lists_from refer u l d at ≡ (entry_met refer u l e w >>= lists_behind refer u w.depth)
unfolding entry_met
entry_step refer u l d at e w on k =
    let a = k.abbreviation in
    let wanted : is_function_tag a.tag ≡ is_function_tag e.tag = ap is_function_tag (sym k.tag) in
    from_entry refer u l d at e w on refl k ∙ (all_read refer u l d at e.code a (values_of u a w.place) (is_function_tag e.tag) wanted
    ∙ rw (described_entry refer u (is_function_tag e.tag) d at e w k, k.place_is, k.depth) refl)

zero_step : (refer : Refer) (u : UnitParts) (l : Lists) (d at : ℕ) (e : Entry) (w : Walk) → On u → MetZero (source_in u) d at e w → lists_from refer u l d at ≡ (entry_met refer u l e w >>= lists_behind refer u w.depth)
unfolding entry_met
zero_step refer u l d at e w on k = from_zero refer u l d at e w on refl k ∙ rw (described_zero refer u (is_function_tag e.tag) d at e w k) refl

-- one entry more: what it adds, and then the rest
pub one_more : (refer : Refer) (u : UnitParts) (l : Lists) (w w1 : Walk) (e : Entry) → w.pending ≡ [] → w.source ≡ source_in u → next_of w ≡ Some (Some e, w1) → lists_from refer u l w.depth w.place ≡ (entry_met refer u l e w1 >>= lists_behind refer u w1.depth)
one_more refer u l w w1 e p s n =
    let on = leads_on u in
    elim (met_next u w w1 e p s n) [
      | inl k ↦ zero_step refer u l w.depth w.place e w1 on k
      | inr k ↦ entry_step refer u l w.depth w.place e w1 on k
    ]

pub no_more : (refer : Refer) (u : UnitParts) (l : Lists) (w w1 : Walk) → w.pending ≡ [] → w.source ≡ source_in u → next_of w ≡ Some (None, w1) → lists_from refer u l w.depth w.place ≡ Some l
unfolding lists_from functions_among
no_more refer u l w w1 p s n = rw (flat_end (head_at (source_in u)) u.header.end w.depth w.place (end_next u w w1 p s n)) refl

pub none_next : (refer : Refer) (u : UnitParts) (l : Lists) (w : Walk) → w.pending ≡ [] → w.source ≡ source_in u → next_of w ≡ None → lists_from refer u l w.depth w.place ≡ None
unfolding lists_from
none_next refer u l w p s n =
    let on = leads_on u in
    let k = stuck_next u w p s n in
    let f : entries_from u w.depth w.place ≡ None = flat_on (head_at (source_in u)) u.header.end on w.depth w.place k.below ∙ ap (λ (h : Option Head). flat_step w.depth h (λ k n. entries_from u k n)) k.head in
    rw f refl
