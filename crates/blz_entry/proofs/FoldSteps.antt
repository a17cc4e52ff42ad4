-- One turn of a loop that makes a step of each attribute that is wanted, where no other one changes anything.
use Rattle.std.proofs.Common.{◌≡◌, ◌∙◌, ℕ, false, List, [], ◌∷◌, Option, Some, None, refl, inl, inr}
use Rattle.std.specs.Prelude.{if◌then◌else◌}
use Rattle.std.proofs.lemmas.Bool.{cases_Bool}
use Rattle.blz_model.specs.Reads.{Read, ◌>>=◌}
use Rattle.blz_info.specs.Contents.{Contents}
use Rattle.blz_info.specs.Attributes.{attribute, attributes}
use Rattle.blz_entry.specs.Folds.{fold_maybe, over_attributes, over_pending}
use Rattle.blz_info.specs.Walks.{Walk}
use Rattle.blz_info.specs.Wanted.{Wanted, is_wanted, wanted_in, wanted_of}
use Rattle.blz_info.specs.declared.abbreviations.AttrSpec.{AttrSpec}
use Rattle.blz_info.specs.declared.encoding.Encoding.{Encoding}
use Rattle.blz_info.specs.declared.text.StrBase.{StrBase}
use Rattle.blz_info.specs.declared.forms.value.AttrValue.{AttrValue}

-- an attribute before others
abbrev with_first : ℕ × AttrValue → Read (List (ℕ × AttrValue)) → Read (List (ℕ × AttrValue))
with_first a o = o >>= λ r. Some (a ∷ r.0, r.1)

abbrev steps_over : {S : Type 0} → (S → ℕ × AttrValue → Option S) → S → Read (List (ℕ × AttrValue)) → Option S
steps_over step s o = o >>= λ r. fold_maybe step s r.0

abbrev nothing : {S : Type 0} → S → Option S
nothing t = None

nothing_behind : {S : Type 0} (o : Option S) → None ≡ (o >>= nothing)
nothing_behind None = refl
nothing_behind (Some t) = refl

first_step : {S : Type 0} (step : S → ℕ × AttrValue → Option S) (s : S) (a : ℕ × AttrValue) (o : Read (List (ℕ × AttrValue))) → steps_over step s (with_first a o) ≡ (step s a >>= λ t. steps_over step t o)
first_step step s a None = nothing_behind (step s a)
first_step step s a (Some r) = refl

-- a step of the attribute that was found, and those behind it
abbrev from_found : {S : Type 0} → (S → ℕ × AttrValue → Option S) → S → Encoding → StrBase → Contents → Option (ℕ × AttrValue) → List AttrSpec → ℕ → Option S
from_found step s e base c None rest next = Some s
from_found step s e base c (Some a) rest next = step s a >>= λ t. over_attributes step t rest e base c next

abbrev from_wanted : {S : Type 0} → (S → ℕ × AttrValue → Option S) → S → Encoding → StrBase → Contents → Option Wanted → Option S
from_wanted step s e base c o = o >>= λ r. from_found step s e base c r.0 r.1.0 r.1.1

first_over : {S : Type 0} (step : S → ℕ × AttrValue → Option S) (ignores : (s : S) (n : ℕ) (v : AttrValue) → is_wanted n ≡ false → step s (n, v) ≡ Some s) (s : S) (a : AttrSpec) (rest : List AttrSpec) (e : Encoding) (base : StrBase) (c : Contents) (o : Read AttrValue)
    → ((n : ℕ) → over_attributes step s rest e base c n ≡ from_wanted step s e base c (wanted_in rest e base c n))
    → steps_over step s (o >>= λ v. with_first (a.name, v.0) (attributes rest e base c v.1)) ≡ from_wanted step s e base c (o >>= λ v. if is_wanted a.name then Some (Some (a.name, v.0), (rest, v.1)) else wanted_in rest e base c v.1)
first_over step ignores s a rest e base c None later = refl
first_over step ignores s a rest e base c (Some v) later = elim (cases_Bool (is_wanted a.name)) [
  | inl wanted ↦ rw wanted (first_step step s (a.name, v.0) (attributes rest e base c v.1))
  | inr other ↦
      let same = ignores s a.name v.0 other in
      rw other (first_step step s (a.name, v.0) (attributes rest e base c v.1) ∙ rw same (later v.1))
]

over_wanted : {S : Type 0} (step : S → ℕ × AttrValue → Option S) (ignores : (s : S) (n : ℕ) (v : AttrValue) → is_wanted n ≡ false → step s (n, v) ≡ Some s) (s : S) (specs : List AttrSpec) (e : Encoding) (base : StrBase) (c : Contents) (at : ℕ) → over_attributes step s specs e base c at ≡ from_wanted step s e base c (wanted_in specs e base c at)
unfolding attributes wanted_in
over_wanted step ignores s [] e base c at = refl
over_wanted step ignores s (a ∷ rest) e base c at = first_over step ignores s a rest e base c (attribute a e base c at) (λ n. over_wanted step ignores s rest e base c n)

-- the same of a walk
abbrev from_walk : {S : Type 0} → (S → ℕ × AttrValue → Option S) → S → Option (ℕ × AttrValue) → Walk → Option S
from_walk step s None new = Some s
from_walk step s (Some a) new = step s a >>= λ t. over_pending step t new

walk_on : {S : Type 0} (step : S → ℕ × AttrValue → Option S) (s : S) (w : Walk) (found : Option (ℕ × AttrValue)) (rest : List AttrSpec) (next : ℕ) → from_found step s w.source.encoding w.source.base w.source.section found rest next ≡ from_walk step s found (record { source = w.source; place = next; pending = rest; depth = w.depth })
walk_on step s w None rest next = refl
walk_on step s w (Some a) rest next = refl

abbrev walk_behind : Walk → Wanted → Option (Option (ℕ × AttrValue) × Walk)
walk_behind w r = Some (r.0, record { source = w.source; place = r.1.1; pending = r.1.0; depth = w.depth })

abbrev from_step : {S : Type 0} → (S → ℕ × AttrValue → Option S) → S → Option (ℕ × AttrValue) × Walk → Option S
from_step step s r = from_walk step s r.0 r.1

walk_by : {S : Type 0} (step : S → ℕ × AttrValue → Option S) (s : S) (w : Walk) (o : Option Wanted) → from_wanted step s w.source.encoding w.source.base w.source.section o ≡ ((o >>= walk_behind w) >>= from_step step s)
walk_by step s w None = refl
walk_by step s w (Some r) = walk_on step s w r.0 r.1.0 r.1.1

over_walk : {S : Type 0} (step : S → ℕ × AttrValue → Option S) (ignores : (s : S) (n : ℕ) (v : AttrValue) → is_wanted n ≡ false → step s (n, v) ≡ Some s) (s : S) (w : Walk) → over_pending step s w ≡ (wanted_of w >>= from_step step s)
unfolding wanted_of
over_walk step ignores s w =
    over_wanted step ignores s w.pending w.source.encoding w.source.base w.source.section w.place
    ∙ walk_by step s w (wanted_in w.pending w.source.encoding w.source.base w.source.section w.place)

-- ---- what a call gave

pub over_none : {S : Type 0} (step : S → ℕ × AttrValue → Option S) (ignores : (s : S) (n : ℕ) (v : AttrValue) → is_wanted n ≡ false → step s (n, v) ≡ Some s) (s : S) (w : Walk) → wanted_of w ≡ None → over_pending step s w ≡ None
over_none step ignores s w h = over_walk step ignores s w ∙ rw h refl

pub over_end : {S : Type 0} (step : S → ℕ × AttrValue → Option S) (ignores : (s : S) (n : ℕ) (v : AttrValue) → is_wanted n ≡ false → step s (n, v) ≡ Some s) (s : S) (w new : Walk) → wanted_of w ≡ Some (None, new) → over_pending step s w ≡ Some s
over_end step ignores s w new h = over_walk step ignores s w ∙ rw h refl

pub over_more : {S : Type 0} (step : S → ℕ × AttrValue → Option S) (ignores : (s : S) (n : ℕ) (v : AttrValue) → is_wanted n ≡ false → step s (n, v) ≡ Some s) (s t : S) (w new : Walk) (a : ℕ × AttrValue) → wanted_of w ≡ Some (Some a, new) → step s a ≡ Some t → over_pending step s w ≡ over_pending step t new
over_more step ignores s t w new a h made = over_walk step ignores s w ∙ rw (h, made) refl

pub over_fails : {S : Type 0} (step : S → ℕ × AttrValue → Option S) (ignores : (s : S) (n : ℕ) (v : AttrValue) → is_wanted n ≡ false → step s (n, v) ≡ Some s) (s : S) (w new : Walk) (a : ℕ × AttrValue) → wanted_of w ≡ Some (Some a, new) → step s a ≡ None → over_pending step s w ≡ None
over_fails step ignores s w new a h fails = over_walk step ignores s w ∙ rw (h, fails) refl
