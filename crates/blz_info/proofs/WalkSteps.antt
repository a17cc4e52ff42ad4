-- A call on a walk is a step of the list of entries.
use Rattle.std.proofs.Common.{◌≡◌, ℕ, ◌+◌, ◌≤◌, Bool, true, false, cond, ltb, eqb, List, [], ◌∷◌, ◌++◌, length, take, Option, Some, None, refl, sym, ap, ◌∙◌, arith, inl, inr, append_assoc}
use Rattle.std.specs.Prelude.{map, option_map, pos, ◌⊎◌}
use Rattle.std.proofs.lemmas.Bool.{cases_Bool, ltb-true, ltb-false}
use Rattle.std.proofs.lemmas.Option.{some_pair_parts}
use Rattle.std.proofs.lemmas.List.{append-nil, length-take}
use Rattle.blz_error.specs.declared.kind.ErrorKind.TheVariants.{InvalidDwarf}
use Rattle.blz_model.specs.LebNumbers.{uleb}
use Rattle.blz_model.specs.Part.{Good, Broken}
use Rattle.blz_model.specs.Reads.{Read, ◌>>=◌}
use Rattle.blz_info.specs.Abbrevs.{Abbrev, of_code}
use Rattle.blz_info.specs.Attributes.{passed, attributes}
use Rattle.blz_info.specs.Forest.{Info, Head, Open, Forest, forest, preorder, flat_step, flat}
use Rattle.blz_info.specs.Listing.{entry_of, listed_from, rest_of, trees_of}
use Rattle.blz_info.specs.Walks.{Source, Walk, walk_from, source_of, head_at, entry_from, next_of}
use Rattle.blz_info.specs.declared.section.Sections.{Sections}
use Rattle.blz_info.specs.declared.units.UnitHeader.{UnitHeader}
use Rattle.blz_info.specs.declared.entries.Entry.{Entry}
use Rattle.blz_info.specs.declared.forms.value.AttrValue.{AttrValue}
use Rattle.blz_info.proofs.HeadsLead.{heads_lead_on}
use Rattle.blz_info.proofs.Preorder.{flat_on, flat_end, walk_is_preorder}

abbrev pub Listing : Type 0
Listing = Option (List (Entry × List (ℕ × AttrValue)))

look : {A : Type 0} (o : Option A) → (o ≡ None) ⊎ ((x : A) × (o ≡ Some x))
look None = inl refl
look (Some x) = inr (x, refl)

-- the entries from an entry on, whose attributes are read first
abbrev pub with_values : Entry → Walk → Listing
with_values e w = attributes w.pending w.source.encoding w.source.base w.source.section w.place >>= λ values. option_map (λ es. (e, values.0) ∷ es) (listed_from w.source w.depth values.1)

-- what a call gave, before the rest
abbrev pub follow : Option Entry → Walk → Listing
follow None w = Some []
follow (Some e) w = cond (eqb e.code 0) (rest_of w) (with_values e w)

mapped : (d : ℕ) (i : Info) (o : Option (List (ℕ × Info))) → option_map (map entry_of) (option_map (λ rest. (d, i) ∷ rest) o) ≡ option_map (λ es. entry_of (d, i) ∷ es) (option_map (map entry_of) o)
mapped d i None = refl
mapped d i (Some x) = refl

by_flag : (u : Source) (d : ℕ) (children : Bool) (i : Info) (n : ℕ) → option_map (map entry_of) (flat_step d (Some (Open children i n)) (λ k n. flat (head_at u) u.end k n)) ≡ option_map (λ es. entry_of (d, i) ∷ es) (listed_from u (cond children (d + 1) d) n)
by_flag u d true i n = mapped d i (flat (head_at u) u.end (d + 1) n)
by_flag u d false i n = mapped d i (flat (head_at u) u.end d n)

abbrev opened : ℕ → ℕ → Abbrev → Read (List (ℕ × AttrValue)) → Option Head
opened at code a o = o >>= λ values. Some (Open a.children (record { place = at; code = code; tag = a.tag; children = a.children; attributes = values.0 }) values.1)

at_entry : (u : Source) (d at code : ℕ) (a : Abbrev) (o : Read (List (ℕ × AttrValue))) → option_map (map entry_of) (flat_step d (opened at code a o) (λ k n. flat (head_at u) u.end k n)) ≡ (o >>= λ values. option_map (λ es. (record { place = at; depth = pos d; code = code; tag = a.tag; children = a.children }, values.0) ∷ es) (listed_from u (cond a.children (d + 1) d) values.1))
at_entry u d at code a None = refl
at_entry u d at code a (Some v) = by_flag u d a.children (record { place = at; code = code; tag = a.tag; children = a.children; attributes = v.0 }) v.1

same_pair : {A B : Type 0} (a x : A) (b y : B) → ◌≡◌ {A = Option (A × B)} (Some (a, b)) (Some (x, y)) → (a ≡ x) × (b ≡ y)
same_pair a x b y e = some_pair_parts a x b y e

from_place : (u : Source) (d at : ℕ) (r : Option Entry) (new : Walk) → length u.section.bytes ≤ u.end → entry_from u d at ≡ Some (r, new) → listed_from u d at ≡ follow r new
unfolding entry_from head_at rest_of passed
from_place u d at r new cut h =
    elim (cases_Bool (ltb at u.end)) [
      | inl t ↦
          let on = ap (option_map (map entry_of)) (flat_on (head_at u) u.end (heads_lead_on u cut) d at (ltb-true _ _ t)) in
          elim (look (uleb u.section.bytes at)) [
            | inl e ↦ absurd (let k = rw (t, e) at h in cc)
            | inr p ↦ elim (cases_Bool (eqb p.0.0 0)) [
              | inl z ↦
                  let k = same_pair _ _ _ _ (rw (t, p.1, z) at h) in
                  on ∙ rw (p.1, z, ← k.0, ← k.1) refl
              | inr nz ↦ elim (look (of_code p.0.0 u.table)) [
                | inl e ↦ absurd (let k = rw (t, p.1, nz, e) at h in cc)
                | inr q ↦
                    let k = same_pair _ _ _ _ (rw (t, p.1, nz, q.1) at h) in
                    on ∙ rw (p.1, nz, q.1, ← k.0, ← k.1, nz) (at_entry u d at p.0.0 q.0 (attributes q.0.specs u.encoding u.base u.section p.0.1))
              ]
            ]
          ]
      | inr f ↦
          let k = same_pair _ _ _ _ (rw f at h) in
          ap (option_map (map entry_of)) (flat_end (head_at u) u.end d at (ltb-false _ _ f)) ∙ rw (← k.0) refl
    ]

-- one call is one step of the list
pub goes : (w : Walk) (r : Option Entry) (new : Walk) → length w.source.section.bytes ≤ w.source.end → next_of w ≡ Some (r, new) → rest_of w ≡ follow r new
unfolding next_of rest_of
goes w r new cut h =
    elim (look (passed w.pending w.source.encoding w.source.base w.source.section w.place)) [
      | inl e ↦ absurd (let k = rw e at h in cc)
      | inr p ↦ rw p.1 (from_place w.source w.depth p.0 r new cut (rw p.1 at h))
    ]

stuck_at : (u : Source) (d at : ℕ) → length u.section.bytes ≤ u.end → entry_from u d at ≡ None → listed_from u d at ≡ None
unfolding entry_from head_at
stuck_at u d at cut h =
    elim (cases_Bool (ltb at u.end)) [
      | inl t ↦
          let on = ap (option_map (map entry_of)) (flat_on (head_at u) u.end (heads_lead_on u cut) d at (ltb-true _ _ t)) in
          elim (look (uleb u.section.bytes at)) [
            | inl e ↦ on ∙ rw e refl
            | inr p ↦ elim (cases_Bool (eqb p.0.0 0)) [
              | inl z ↦ absurd (let k = rw (t, p.1, z) at h in cc)
              | inr nz ↦ elim (look (of_code p.0.0 u.table)) [
                | inl e ↦ on ∙ rw (p.1, nz, e) refl
                | inr q ↦ absurd (let k = rw (t, p.1, nz, q.1) at h in cc)
              ]
            ]
          ]
      | inr f ↦ absurd (let k = rw f at h in cc)
    ]

-- where there is no step, there is no list
pub stuck : (w : Walk) → length w.source.section.bytes ≤ w.source.end → next_of w ≡ None → rest_of w ≡ None
unfolding next_of rest_of
stuck w cut h =
    elim (look (passed w.pending w.source.encoding w.source.base w.source.section w.place)) [
      | inl e ↦ rw e refl
      | inr p ↦ rw p.1 (stuck_at w.source w.depth p.0 cut (rw p.1 at h))
    ]

-- behind the attributes that were read
pub rest_behind : (w : Walk) → w.pending ≡ [] → rest_of w ≡ listed_from w.source w.depth w.place
unfolding rest_of passed
rest_behind w e = rw e refl

-- ---- a loop that has listed some entries

abbrev pub behind_front : List (Entry × List (ℕ × AttrValue)) → Listing → Listing
behind_front front read = option_map (λ es. front ++ es) read

pub list_more : (front : List (Entry × List (ℕ × AttrValue))) (x : Entry × List (ℕ × AttrValue)) (rest total : Listing) → behind_front front (option_map (λ es. x ∷ es) rest) ≡ total → behind_front (front ++ x ∷ []) rest ≡ total
list_more front x None total h = h
list_more front x (Some es) total h = ap (λ (ys : List (Entry × List (ℕ × AttrValue))). Some ys) (append_assoc front (x ∷ []) es) ∙ h

pub list_end : (front : List (Entry × List (ℕ × AttrValue))) (total : Listing) → behind_front front (Some []) ≡ total → total ≡ Some front
list_end front total h = sym h ∙ ap (λ (ys : List (Entry × List (ℕ × AttrValue))). Some ys) (append-nil front)

pub passes_over : (front : List (Entry × List (ℕ × AttrValue))) (e : Entry) (w new : Walk) (r : Option Entry) (total : Listing) → length w.source.section.bytes ≤ w.source.end → next_of w ≡ Some (r, new) → r ≡ Some e → eqb e.code 0 ≡ true → behind_front front (rest_of w) ≡ total → behind_front front (rest_of new) ≡ total
passes_over front e w new r total cut h is z so = let g = goes w r new cut h in rw (g, is, z) at so

pub keeps : (front : List (Entry × List (ℕ × AttrValue))) (e : Entry) (w new after : Walk) (r : Option Entry) (values : List (ℕ × AttrValue)) (total : Listing) → length w.source.section.bytes ≤ w.source.end → next_of w ≡ Some (r, new) → r ≡ Some e → eqb e.code 0 ≡ false
    → attributes new.pending new.source.encoding new.source.base new.source.section new.place ≡ Some (values, after.place) → after.pending ≡ [] → after.source ≡ new.source → after.depth ≡ new.depth → behind_front front (rest_of w) ≡ total → behind_front (front ++ (e, values) ∷ []) (rest_of after) ≡ total
keeps front e w new after r values total cut h is nz read all source depth so =
    let g = goes w r new cut h in
    let later = rest_behind after all in
    rw (later, source, depth) (list_more front (e, values) (listed_from new.source new.depth after.place) total (rw (g, is, nz, read) at so))

pub unread : (front : List (Entry × List (ℕ × AttrValue))) (e : Entry) (w new : Walk) (r : Option Entry) (total : Listing) → length w.source.section.bytes ≤ w.source.end → next_of w ≡ Some (r, new) → r ≡ Some e → eqb e.code 0 ≡ false → behind_front front (rest_of w) ≡ total → attributes new.pending new.source.encoding new.source.base new.source.section new.place ≡ None → total ≡ None
unread front e w new r total cut h is nz so none = let g = goes w r new cut h in sym (rw (g, is, nz, none) at so)

pub no_step : (front : List (Entry × List (ℕ × AttrValue))) (w : Walk) (total : Listing) → length w.source.section.bytes ≤ w.source.end → next_of w ≡ None → behind_front front (rest_of w) ≡ total → total ≡ None
no_step front w total cut h so = let g = stuck w cut h in sym (rw g at so)

pub all_given : (front : List (Entry × List (ℕ × AttrValue))) (w new : Walk) (r : Option Entry) (total : Listing) → length w.source.section.bytes ≤ w.source.end → next_of w ≡ Some (r, new) → r ≡ None → behind_front front (rest_of w) ≡ total → total ≡ Some front
all_given front w new r total cut h is so = let g = goes w r new cut h in list_end front total (rw (g, is) at so)

-- ---- from the first entry on

fused : (o : Option Forest) → option_map (map entry_of) (option_map (preorder 0) o) ≡ option_map (λ f. map entry_of (preorder 0 f)) o
fused None = refl
fused (Some f) = refl

pub trees_listed : (u : Source) (at : ℕ) → length u.section.bytes ≤ u.end → rest_of (walk_from u at) ≡ trees_of u at
trees_listed u at cut =
    rest_behind (walk_from u at) refl ∙ ap (option_map (map entry_of)) (sym (walk_is_preorder (head_at u) u.end at (heads_lead_on u cut))) ∙ fused (forest (head_at u) u.end at)

pub unit_listed : (s : Sections) (h : UnitHeader) (table : List Abbrev) (at : ℕ) → rest_of (walk_from (source_of s h table) at) ≡ trees_of (source_of s h table) at
unit_listed s h table at = trees_listed (source_of s h table) at (length-take-bound h.end s.info.bytes.now)
  where
    length-take-bound : (n : ℕ) (xs : List ℕ) → length (take n xs) ≤ n
    length-take-bound n xs = omega (arith, length-take n xs)

pub walk_made : (b : Bool) (w e : Walk) → cond b (Good w) (Broken InvalidDwarf) ≡ Good e → e ≡ w
walk_made true w e h = cc
walk_made false w e h = absurd cc
