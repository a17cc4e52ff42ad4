-- Caches of which nothing is kept fit any file.
use Rattle.std.proofs.Common.{◌≡◌, ℕ, zero, suc, List, [], ◌∷◌, ◌++◌, length, Option, Some, None, refl, ◌∙◌}
use Rattle.std.specs.List.{slice_get}
use Rattle.std.specs.Prelude.{IfSome}
use Rattle.blz_model.specs.Kept.{Kept}
use Rattle.blz_model.specs.Part.{Part}
use Rattle.blz_model.specs.declared.cache.Cache.{Cache}
use Rattle.blz_model.specs.declared.cache.Cache.TheVariants.{Empty}
use Rattle.blz_info.specs.Marks.{or_invalid}
use Rattle.blz_info.specs.declared.units.UnitHeader.{UnitHeader}
use Rattle.blz_units.specs.SharedPackage.{AreRows, IsPackageShared}
use Rattle.blz_units.specs.declared.shared.shared_package.SharedPackage.{SharedPackage}
use Rattle.blz_units.specs.declared.built_unit.BuiltUnit.{BuiltUnit}
use Rattle.blz_units.specs.declared.built_units.Side.{Side}
use Rattle.blz_units.specs.declared.built_units.Side.TheVariants.{File, Sup}
use Rattle.blz_units.specs.declared.built_units.SideUnits.{SideUnits}
use Rattle.blz_units.specs.declared.caches.UnitCaches.{UnitCaches}
use Rattle.blz_units.specs.declared.caches.Caches.{Caches}
use Rattle.blz_units.specs.BuiltUnits.{Files, built_view, BuiltFits}
use Rattle.blz_index.specs.Cold.{NothingKept, HasNothing, IsCold}
use Rattle.blz_units.specs.KeptParts.{or_empty, unit_root, unit_of, lists_view, lines_view, calls_view, kept_root, kept_functions, kept_lines, kept_calls, side_sections, CachesFit, AllBuilt, SideFits, AllFit}
use Rattle.blz_units.specs.UnitAnswers.{unit_functions, unit_lines, function_calls}
use Rattle.blz_units.specs.UnitTables.{UnitTable}

pub push_cold : (P : Option UnitCaches → Type 0) (xs : List UnitCaches) (x : UnitCaches) → P None → P (Some x) → ((k : ℕ) → P (slice_get xs k)) → (k : ℕ) → P (slice_get (xs ++ x ∷ []) k)
push_cold P [] x none some each zero = some
push_cold P [] x none some each (suc k) = none
push_cold P (y ∷ xs) x none some each zero = each zero
push_cold P (y ∷ xs) x none some each (suc k) = push_cold P xs x none some (λ i. each (suc i)) k

pub nothing : HasNothing None
nothing = record { root = refl; functions = refl; lines = refl; calls = λ n. refl }

any_kept : {X A : Type 0} (fits : X → Type 0) (v : X → A) (c : Cache X) (p : Part A) → c ≡ Empty → Kept fits v c p
any_kept fits v c p e = rw e tt

each_part : {X : Type 0} (P : X → Type 0) (o : Option X) → ((x : X) → P x) → IfSome o P
each_part P None h = tt
each_part P (Some x) h = h x

nothing_shared : (f : Files) (p : SharedPackage) → p.rows ≡ None → IsPackageShared f p
nothing_shared f p e = each_part (λ x. AreRows x p.rows) f.«package» (λ x. rw e tt)

all_cold : (f : Files) (side : Side) (headers : List UnitHeader) (caches : List (Cache BuiltUnit)) → length caches ≡ length headers → NothingKept caches → AllBuilt f side headers caches
all_cold f side headers caches same empty = record {
  same = same;
  each = λ k. any_kept (BuiltFits f) (built_view f) (or_empty (slice_get caches k)) (or_invalid (unit_of f side headers k)) (empty k);
}

unit_cold : (f : Files) (t : UnitTable) (k : ℕ) (o : Option UnitCaches) → HasNothing o → CachesFit f t k o
unit_cold f t k o cold = record {
  root = any_kept (λ _. Unit {0}) (λ r. r) (kept_root o) (or_invalid (unit_root f t k)) cold.root;
  functions = any_kept (λ _. Unit {0}) lists_view (kept_functions o) (or_invalid (unit_functions f t k)) cold.functions;
  lines = any_kept (λ _. Unit {0}) lines_view (kept_lines o) (or_invalid (unit_lines f t k)) cold.lines;
  calls = λ n. any_kept (λ _. Unit {0}) calls_view (kept_calls o n) (or_invalid (function_calls f t k n)) (cold.calls n);
}

pub cold_fits : (f : Files) (t : UnitTable) (kept : SideUnits) (count sups : ℕ) (c : Caches) → SideFits f File t.kept kept → count ≡ length t.kept → sups ≡ length t.sups → IsCold kept count sups c → AllFit f t c
cold_fits f t kept count sups c fits k s cold = record {
  built = record {
    kept = rw cold.kept_is fits;
    sups = record { all = all_cold f Sup t.sups c.built.sups.units.items (cold.sup_count ∙ s) cold.sups_empty; shared = cold.sups_share (side_sections f Sup); packed = nothing_shared f c.built.sups.packed cold.sups_rows };
  };
  units = record { same = cold.unit_count ∙ k; each = λ n. unit_cold f t n (slice_get c.units.items n) (cold.units_empty n) };
}
