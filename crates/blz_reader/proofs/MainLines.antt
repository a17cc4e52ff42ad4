-- The lines of a unit by its header and its root.
use Rattle.std.proofs.Common.{◌≡◌, ℕ, Option, Some, None, refl, sym, ap}
use Rattle.std.specs.List.{slice_get}
use Rattle.blz_model.specs.Reads.{◌>>=◌}
use Rattle.blz_info.specs.AbbreviationTables.{abbreviations}
use Rattle.blz_entry.specs.Roots.{root_of}
use Rattle.blz_entry.specs.declared.root.UnitRoot.{UnitRoot}
use Rattle.blz_info.specs.declared.units.UnitHeader.{UnitHeader}
use Rattle.blz_line.specs.UnitLines.{maybe_table}
use Rattle.blz_info.specs.FileSections.{FileSections}
use Rattle.blz_units.specs.BuiltUnits.{Files, built, has_lines}
use Rattle.blz_units.specs.KeptParts.{unit_root}
use Rattle.blz_functions.specs.Leaves.{UnitParts, lying}
use Rattle.blz_units.specs.UnitAnswers.{main_unit, unit_lines}
use Rattle.blz_units.specs.UnitTables.{UnitTable, lines_in}

pub bind_some : {A B : Type 0} (o : Option A) (g : A → Option B) (y : B) → (o >>= g) ≡ Some y → (x : A) × (o ≡ Some x) × (g x ≡ Some y)
bind_some None g y e = absurd cc
bind_some (Some x) g y e = (x, refl, e)

-- what is built stands in its sections, under its header
pub record IsOf (s : FileSections) (h : UnitHeader) (u : UnitParts) : Type 0 where
  pub sections : u.sections ≡ s
  pub header : u.header ≡ h

some_is : {A : Type 0} (x y : A) → Some x ≡ Some y → y ≡ x
some_is x y e = cc

pub built_is : (s : FileSections) (h : UnitHeader) (u : UnitParts) → built s h ≡ Some u → IsOf s h u
unfolding built
built_is s h u e =
    let a = bind_some (abbreviations s.«abbrev».bytes h.«abbrev») _ u e in
    let b = bind_some (root_of (lying s) h a.0) _ u a.2 in
    let c = bind_some (has_lines s h b.0.line) _ u b.2 in
    let is : u ≡ record { sections = s; header = h; table = a.0; root = b.0 } = some_is (record { sections = s; header = h; table = a.0; root = b.0 }) u c.2 in
    record { sections = ap (λ (v : UnitParts). v.sections) is; header = ap (λ (v : UnitParts). v.header) is }

by_unit : (s : FileSections) (h : UnitHeader) (root : UnitRoot) (u : UnitParts) → u.sections ≡ s → u.header ≡ h → u.root ≡ root → lines_in u ≡ maybe_table (lying s) h root root.line
by_unit s h root u is_s is_h is_r = rw (is_s, is_h, is_r) refl

by_built : (s : FileSections) (h : UnitHeader) (root : UnitRoot) (o : Option UnitParts) → built s h ≡ o → (o >>= λ u. Some u.root) ≡ Some root → (o >>= lines_in) ≡ maybe_table (lying s) h root root.line
by_built s h root None e r = absurd cc
by_built s h root (Some u) e r = let is = built_is s h u e in by_unit s h root u is.sections is.header (sym (some_is u.root root r))

pub lines_by : (f : Files) (t : UnitTable) (k : ℕ) (h : UnitHeader) (root : UnitRoot) → slice_get t.kept k ≡ Some h → unit_root f t k ≡ Some root → unit_lines f t k ≡ maybe_table (lying f.main) h root root.line
unfolding unit_lines main_unit
lines_by f t k h root e r = rw e (by_built f.main h root (built f.main h) refl (rw e at r))
