-- What is kept of the units of a file.
use Rattle.std.specs.Prelude.{◌≡◌, ◌≢◌, ℕ, ◌<◌, Bool, true, false, List, length, Option, Some, None, option_map, ⊤}
use Rattle.std.specs.List.{slice_get}
use Rattle.blz_error.specs.declared.kind.ErrorKind.TheVariants.{OutOfMemory}
use Rattle.blz_model.specs.Part.{Broken}
use Rattle.blz_model.specs.Kept.{Kept, is_kept}
use Rattle.blz_model.specs.declared.cache.Cache.{Cache}
use Rattle.blz_model.specs.declared.cache.Cache.TheVariants.{Empty, Value, Mark}
use Rattle.blz_model.specs.Reads.{◌>>=◌}
use Rattle.blz_info.specs.Marks.{or_invalid}
use Rattle.blz_entry.specs.declared.root.UnitRoot.{UnitRoot}
use Rattle.blz_info.specs.declared.units.UnitHeader.{UnitHeader}
use Rattle.blz_line.specs.UnitLines.{LineTable, OrderedLines}
use Rattle.blz_info.specs.FileSections.{FileSections}
use Rattle.blz_units.specs.declared.built_unit.BuiltUnit.{BuiltUnit}
use Rattle.blz_units.specs.declared.built_units.BuiltUnits as built
use Rattle.blz_units.specs.declared.built_units.Side.{Side}
use Rattle.blz_units.specs.declared.built_units.SideUnits.{SideUnits}
use Rattle.blz_units.specs.declared.built_units.Side.TheVariants.{File, Sup}
use Rattle.blz_units.specs.declared.caches.Caches.{Caches}
use Rattle.blz_units.specs.declared.caches.UnitCaches.{UnitCaches}
use Rattle.blz_units.specs.BuiltUnits.{Files, reading, sup_built, built_view, or_main, BuiltFits}
use Rattle.blz_functions.specs.CallTree.{CallLists}
use Rattle.blz_functions.specs.FunctionList.{Lists}
use Rattle.blz_functions.specs.Leaves.{UnitParts}
use Rattle.blz_functions.specs.FunctionRanges.{FunctionRanges, CallRanges}
use Rattle.blz_units.specs.SharedPackage.{IsPackageShared}
use Rattle.blz_units.specs.Sharing.{AreShared}
use Rattle.blz_units.specs.UnitAnswers.{main_unit, unit_functions, unit_lines, function_calls}
use Rattle.blz_units.specs.UnitTables.{UnitTable}

-- what is kept at a number; nothing past the end
abbrev pub or_empty : {X : Type 0} → Option (Cache X) → Cache X
or_empty None = Empty
or_empty (Some c) = c

-- whether nothing is kept at a number that is there
abbrev pub is_missing : {X : Type 0} → Option (Cache X) → Bool
is_missing None = false
is_missing (Some Empty) = true
is_missing (Some (Value x)) = false
is_missing (Some (Mark k)) = false

-- What is kept at a number that is there is no longer empty.
abbrev pub IsFilled : {X : Type 0} → Option (Cache X) → Type 0
IsFilled None = ⊤
IsFilled (Some c) = is_kept c ≡ true

-- ---- units as they are read

-- a unit of a file, as references see it
abbrev pub side_unit : Files → Side → UnitHeader → Option UnitParts
side_unit f File h = reading f h
side_unit f Sup h = sup_built f.sup h

-- a unit by its number
abbrev pub unit_of : Files → Side → List UnitHeader → ℕ → Option UnitParts
unit_of f side headers k = slice_get headers k >>= side_unit f side

-- What is kept of a unit is what it is built to; nothing is kept where there is no such unit.
abbrev pub IsBuilt : Files → Cache BuiltUnit → Option UnitParts → Type 0
IsBuilt f Empty unit = unit ≡ None
IsBuilt f (Value u) unit = BuiltFits f u × (unit ≡ Some (built_view f u))
IsBuilt f (Mark k) unit = (or_invalid unit ≡ Broken k) × (k ≢ OutOfMemory)

-- The units of some headers that are kept are built from them.
pub record AllBuilt (f : Files) (side : Side) (headers : List UnitHeader) (caches : List (Cache BuiltUnit)) : Type 0 where
  pub same : length caches ≡ length headers
  pub each : (k : ℕ) → Kept (BuiltFits f) (built_view f) (or_empty (slice_get caches k)) (or_invalid (unit_of f side headers k))

-- what is kept of the unit of a header
abbrev pub IsPartOf : Files → UnitHeader → Cache BuiltUnit → Type 0
IsPartOf f h c = Kept (BuiltFits f) (built_view f) c (or_invalid (reading f h))

-- the sections that the units of a file share
abbrev pub side_sections : Files → Side → FileSections
side_sections f File = f.main
side_sections f Sup = or_main f f.sup

-- the same with what they share
pub record SideFits (f : Files) (side : Side) (headers : List UnitHeader) (b : SideUnits) : Type 0 where
  pub all : AllBuilt f side headers b.units.items
  pub shared : AreShared (side_sections f side) b.shared
  pub packed : IsPackageShared f b.packed

-- the kept units, and those of the supplementary file
pub record BuiltFit (f : Files) (t : UnitTable) (b : built.BuiltUnits) : Type 0 where
  pub kept : SideFits f File t.kept b.kept
  pub sups : SideFits f Sup t.sups b.sups

abbrev pub caches_of : Side → built.BuiltUnits → List (Cache BuiltUnit)
caches_of File b = b.kept.units.items
caches_of Sup b = b.sups.units.items

abbrev pub headers_of : Side → UnitTable → List UnitHeader
headers_of File t = t.kept
headers_of Sup t = t.sups

-- ---- what was read of them

abbrev pub lists_view : FunctionRanges → Lists
lists_view x = record { functions = x.functions; ranges = x.ranges }

abbrev pub calls_view : CallRanges → CallLists
calls_view x = record { calls = x.calls; ranges = x.ranges }

abbrev pub lines_view : Option OrderedLines → Option LineTable
lines_view o = option_map (λ (l : OrderedLines). l.table) o

-- the root of the unit itself
abbrev pub unit_root : Files → UnitTable → ℕ → Option UnitRoot
unit_root f t k = main_unit f t k >>= λ u. Some u.root

-- ---- what is kept at a number; nothing past the last

-- the calls of a function
abbrev pub call_cache : UnitCaches → ℕ → Cache CallRanges
call_cache c n = or_empty (slice_get c.calls.items n)

abbrev pub kept_root : Option UnitCaches → Cache UnitRoot
kept_root None = Empty
kept_root (Some c) = c.root

abbrev pub kept_functions : Option UnitCaches → Cache FunctionRanges
kept_functions None = Empty
kept_functions (Some c) = c.functions

abbrev pub kept_lines : Option UnitCaches → Cache (Option OrderedLines)
kept_lines None = Empty
kept_lines (Some c) = c.lines

abbrev pub kept_calls : Option UnitCaches → ℕ → Cache CallRanges
kept_calls None n = Empty
kept_calls (Some c) n = call_cache c n

abbrev pub root_at : List UnitCaches → ℕ → Cache UnitRoot
root_at units k = kept_root (slice_get units k)

abbrev pub functions_at : List UnitCaches → ℕ → Cache FunctionRanges
functions_at units k = kept_functions (slice_get units k)

abbrev pub lines_at : List UnitCaches → ℕ → Cache (Option OrderedLines)
lines_at units k = kept_lines (slice_get units k)

abbrev pub calls_at : List UnitCaches → ℕ → ℕ → Cache CallRanges
calls_at units k n = kept_calls (slice_get units k) n

-- ---- what they keep

-- The parts of a unit that are kept are those of its number.
pub record CachesFit (f : Files) (t : UnitTable) (k : ℕ) (o : Option UnitCaches) : Type 0 where
  pub root : Kept (λ _. Unit {0}) (λ r. r) (kept_root o) (or_invalid (unit_root f t k))
  pub functions : Kept (λ _. Unit {0}) lists_view (kept_functions o) (or_invalid (unit_functions f t k))
  pub lines : Kept (λ _. Unit {0}) lines_view (kept_lines o) (or_invalid (unit_lines f t k))
  pub calls : (n : ℕ) → Kept (λ _. Unit {0}) calls_view (kept_calls o n) (or_invalid (function_calls f t k n))

pub record PartsFit (f : Files) (t : UnitTable) (units : List UnitCaches) : Type 0 where
  pub same : length units ≡ length t.kept
  pub each : (k : ℕ) → CachesFit f t k (slice_get units k)

-- all that is kept
pub record AllFit (f : Files) (t : UnitTable) (c : Caches) : Type 0 where
  pub built : BuiltFit f t c.built
  pub units : PartsFit f t c.units.items

-- ---- what is filled

-- how many functions are kept
abbrev pub functions_count : Cache FunctionRanges → ℕ
functions_count Empty = 0
functions_count (Value x) = length x.functions
functions_count (Mark k) = 0

abbrev pub is_empty : {X : Type 0} → Cache X → Bool
is_empty Empty = true
is_empty (Value x) = false
is_empty (Mark k) = false

-- whether a part of a unit that is there is not kept yet

abbrev pub lacks_root : Option UnitCaches → Bool
lacks_root None = false
lacks_root (Some c) = is_empty c.root

abbrev pub lacks_functions : Option UnitCaches → Bool
lacks_functions None = false
lacks_functions (Some c) = is_empty c.functions

abbrev pub lacks_lines : Option UnitCaches → Bool
lacks_lines None = false
lacks_lines (Some c) = is_empty c.lines

abbrev pub lacks_calls : Option UnitCaches → ℕ → Bool
lacks_calls None n = false
lacks_calls (Some c) n = is_empty (call_cache c n)

pub record AreFull (o : Option UnitCaches) : Type 0 where
  pub root : lacks_root o ≡ false
  pub functions : lacks_functions o ≡ false
  pub lines : lacks_lines o ≡ false
  pub calls : (n : ℕ) → n < functions_count (kept_functions o) → lacks_calls o n ≡ false

abbrev pub AllFull : List UnitCaches → Type 0
AllFull units = (k : ℕ) → AreFull (slice_get units k)
