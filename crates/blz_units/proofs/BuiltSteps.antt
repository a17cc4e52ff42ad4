-- Units that are built, one more of which is kept.
use Rattle.std.proofs.Common.{◌≡◌, ℕ, zero, suc, true, false, List, [], ◌∷◌, ◌++◌, length, length-append, Option, Some, None, refl, sym, ap, ◌∙◌, arith}
use Rattle.std.specs.List.{slice_get, slice_set}
use Rattle.std.proofs.lemmas.List.{length-set}
use Rattle.blz_model.specs.Kept.{Kept, is_kept}
use Rattle.blz_model.specs.Part.{Good}
use Rattle.blz_model.specs.declared.cache.Cache.{Cache}
use Rattle.blz_model.specs.declared.cache.Cache.TheVariants.{Empty, Value, Mark}
use Rattle.blz_info.specs.Marks.{or_invalid}
use Rattle.blz_info.specs.declared.units.UnitHeader.{UnitHeader}
use Rattle.blz_units.specs.declared.built_unit.BuiltUnit.{BuiltUnit}
use Rattle.blz_units.specs.declared.built_units.BuiltUnits as built
use Rattle.blz_units.specs.declared.built_units.Side.{Side}
use Rattle.blz_units.specs.declared.built_units.Side.TheVariants.{File}
use Rattle.blz_units.specs.declared.built_units.SideUnits.{SideUnits}
use Rattle.blz_info.specs.FileSections.{FileSections}
use Rattle.blz_units.specs.Sharing.{AreShared}
use Rattle.blz_units.specs.BuiltUnits.{Files, built_view, BuiltFits}
use Rattle.blz_units.specs.KeptParts.{or_empty, is_missing, unit_of, IsFilled, IsBuilt, IsPartOf, AllBuilt, SideFits, BuiltFit, side_unit}
use Rattle.blz_functions.specs.Leaves.{UnitParts}
use Rattle.blz_units.specs.UnitTables.{UnitTable}
use Rattle.blz_units.proofs.SharedPackage.{no_rows}
use Rattle.blz_units.proofs.PutItems.{at_each, none_both, put_is}

pub all_put : (f : Files) (side : Side) (headers : List UnitHeader) (caches : List (Cache BuiltUnit)) (k : ℕ) (c : Cache BuiltUnit) → Kept (BuiltFits f) (built_view f) c (or_invalid (unit_of f side headers k)) → AllBuilt f side headers caches → AllBuilt f side headers (slice_set caches k c)
all_put f side headers caches k c here all = record {
  same = length-set caches k c ∙ all.same;
  each = at_each (λ j o. Kept (BuiltFits f) (built_view f) (or_empty o) (or_invalid (unit_of f side headers j))) caches k c here all.each;
}

-- a kept unit of a header that is there
pub kept_by : (f : Files) (side : Side) (headers : List UnitHeader) (k : ℕ) (h : UnitHeader) (c : Cache BuiltUnit) → slice_get headers k ≡ Some h → Kept (BuiltFits f) (built_view f) c (or_invalid (side_unit f side h)) → Kept (BuiltFits f) (built_view f) c (or_invalid (unit_of f side headers k))
kept_by f side headers k h c e fits = rw e fits

missing_is : (o : Option (Cache BuiltUnit)) → is_missing o ≡ true → o ≡ Some Empty
missing_is None e = absurd cc
missing_is (Some Empty) e = refl
missing_is (Some (Value x)) e = absurd cc
missing_is (Some (Mark k)) e = absurd cc

-- nothing is missing where no unit is
pub never_missing : (headers : List UnitHeader) (caches : List (Cache BuiltUnit)) (k : ℕ) → length caches ≡ length headers → slice_get headers k ≡ None → is_missing (slice_get caches k) ≡ true → ⊥
never_missing headers caches k same none missing = let e = none_both headers caches k (sym same) none in let m = rw e at missing in absurd cc

filled_by : (o : Option (Cache BuiltUnit)) → is_missing o ≡ false → IsFilled o
filled_by None e = tt
filled_by (Some Empty) e = absurd cc
filled_by (Some (Value x)) e = refl
filled_by (Some (Mark k)) e = refl

pub not_missing : (caches : List (Cache BuiltUnit)) (k : ℕ) → is_missing (slice_get caches k) ≡ false → IsFilled (slice_get caches k)
not_missing caches k e = filled_by (slice_get caches k) e

-- a filled cache that is put stands there
pub put_filled : (caches : List (Cache BuiltUnit)) (k : ℕ) (c : Cache BuiltUnit) → is_missing (slice_get caches k) ≡ true → is_kept c ≡ true → IsFilled (slice_get (slice_set caches k c) k)
put_filled caches k c missing kept = rw (put_is caches k c Empty (missing_is (slice_get caches k) missing)) kept

built_of : (f : Files) (u : BuiltUnit) (o : Option UnitParts) → or_invalid o ≡ Good (built_view f u) → o ≡ Some (built_view f u)
built_of f u None e = absurd cc
built_of f u (Some x) e = cc

taken_by : (f : Files) (side : Side) (headers : List UnitHeader) (caches : List (Cache BuiltUnit)) (k : ℕ) (o : Option (Cache BuiltUnit)) → slice_get caches k ≡ o → length caches ≡ length headers → IsFilled o → Kept (BuiltFits f) (built_view f) (or_empty o) (or_invalid (unit_of f side headers k)) → IsBuilt f (or_empty o) (unit_of f side headers k)
taken_by f side headers caches k None e same filled kept = rw (none_both caches headers k same e) refl
taken_by f side headers caches k (Some Empty) e same filled kept = absurd cc
taken_by f side headers caches k (Some (Value u)) e same filled kept = (kept.0, built_of f u (unit_of f side headers k) kept.1)
taken_by f side headers caches k (Some (Mark kind)) e same filled kept = kept

-- what is taken out is the unit of its number
pub taken_is : (f : Files) (side : Side) (headers : List UnitHeader) (caches : List (Cache BuiltUnit)) (k : ℕ) → AllBuilt f side headers caches → IsFilled (slice_get caches k) → IsBuilt f (or_empty (slice_get caches k)) (unit_of f side headers k)
taken_is f side headers caches k all filled = taken_by f side headers caches k (slice_get caches k) refl all.same filled (all.each k)

-- and it can be put back
pub back_is : (f : Files) (c : Cache BuiltUnit) (o : Option UnitParts) → IsBuilt f c o → Kept (BuiltFits f) (built_view f) c (or_invalid o)
back_is f Empty o is = tt
back_is f (Value u) o is = (is.0, ap or_invalid is.1)
back_is f (Mark kind) o is = is

-- ---- one unit more

abbrev EachBuilt : Files → List UnitHeader → List (Cache BuiltUnit) → Type 0
EachBuilt f headers caches = (k : ℕ) → Kept (BuiltFits f) (built_view f) (or_empty (slice_get caches k)) (or_invalid (unit_of f File headers k))

each_more : (f : Files) (headers : List UnitHeader) (caches : List (Cache BuiltUnit)) (h : UnitHeader) (c : Cache BuiltUnit) → length caches ≡ length headers → IsPartOf f h c → EachBuilt f headers caches → EachBuilt f (headers ++ h ∷ []) (caches ++ c ∷ [])
each_more f [] [] h c same here each zero = here
each_more f [] [] h c same here each (suc k) = tt
each_more f [] (x ∷ caches) h c same here each k = absurd (omega arith)
each_more f (g ∷ headers) [] h c same here each k = absurd (omega arith)
each_more f (g ∷ headers) (x ∷ caches) h c same here each zero = each zero
each_more f (g ∷ headers) (x ∷ caches) h c same here each (suc k) = each_more f headers caches h c (omega arith) here (λ i. each (suc i)) k

pub all_more : (f : Files) (headers : List UnitHeader) (caches : List (Cache BuiltUnit)) (h : UnitHeader) (c : Cache BuiltUnit) → IsPartOf f h c → AllBuilt f File headers caches → AllBuilt f File (headers ++ h ∷ []) (caches ++ c ∷ [])
all_more f headers caches h c here all = record {
  same = let l = all.same in omega (arith, length-append caches (c ∷ []), length-append headers (h ∷ []));
  each = each_more f headers caches h c all.same here all.each;
}

-- the same with what they share
pub side_more : (f : Files) (before after : List UnitHeader) (old new : SideUnits) (h : UnitHeader) (c : Cache BuiltUnit) → after ≡ before ++ h ∷ [] → new.units.items ≡ old.units.items ++ c ∷ [] → new.packed ≡ old.packed → IsPartOf f h c → AreShared f.main new.shared → SideFits f File before old → SideFits f File after new
side_more f before after old new h c e is same part shared fits = record { all = rw (e, is) (all_more f before old.units.items h c part fits.all); shared = shared; packed = rw same fits.packed }

pub side_same : (f : Files) (headers : List UnitHeader) (old new : SideUnits) → new.units ≡ old.units → new.packed ≡ old.packed → AreShared f.main new.shared → SideFits f File headers old → SideFits f File headers new
side_same f headers old new e same shared fits = record { all = rw e fits.all; shared = shared; packed = rw same fits.packed }

nothing_built : (f : Files) → AllBuilt f File [] []
nothing_built f = record { same = refl; each = λ k. tt }

pub none_built : (f : Files) (headers : List UnitHeader) (b : SideUnits) → headers ≡ [] → b.units.items ≡ [] → ((s : FileSections) → AreShared s b.shared) → b.packed.rows ≡ None → SideFits f File headers b
none_built f headers b none empty shared rows = record { all = rw (none, empty) (nothing_built f); shared = shared f.main; packed = no_rows f b.packed rows }

-- the kept units share more
pub shared_again : (f : Files) (t : UnitTable) (old new : built.BuiltUnits) → new.kept.units ≡ old.kept.units → new.kept.packed ≡ old.kept.packed → new.sups ≡ old.sups → AreShared f.main new.kept.shared → BuiltFit f t old → BuiltFit f t new
shared_again f t old new units packed sups shared fits = record { kept = side_same f t.kept old.kept new.kept units packed shared fits.kept; sups = rw sups fits.sups }
