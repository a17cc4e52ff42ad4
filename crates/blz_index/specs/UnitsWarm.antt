-- The units of a file with what is kept of them: the file that they fit, and what a call may add.
use Rattle.std.specs.Prelude.{◌≡◌, ℕ, ◌+◌, ◌^◌, ◌<◌, ◌≤◌, Bool, true, false, List, length, map, Option, Some, None, Result, Ok, Err, ⊤}
use Rattle.blz_error.specs.Fault.{Fault}
use Rattle.blz_model.specs.Kept.{is_kept}
use Rattle.blz_model.specs.declared.cache.Cache.{Cache}
use Rattle.blz_model.specs.declared.cache.Cache.TheVariants.{Empty}
use Rattle.blz_line.specs.UnitLines.{OrderedLines}
use Rattle.blz_functions.specs.declared.functions.Function.{Function}
use Rattle.blz_units.specs.declared.caches.UnitCaches.{UnitCaches}
use Rattle.blz_index.specs.declared.units.Units.{Units}
use Rattle.blz_units.specs.BuiltUnits.{Files, files_view, IsReadable}
use Rattle.blz_units.specs.declared.dwarf.Dwarf.{Dwarf}
use Rattle.blz_ranges.specs.Groups.{AreApart}
use Rattle.blz_ranges.specs.Keyed.{IsAccepted, begin_key}
use Rattle.blz_reader.specs.Growing.{Told, UnitsGrowTo}
use Rattle.blz_units.specs.KeptParts.{AllFit, AllFull, functions_at, lines_at, calls_at}
use Rattle.blz_ranges.specs.Owned.{items_of}
use Rattle.blz_functions.specs.FunctionRanges.{FunctionRanges, CallRanges}
use Rattle.blz_ranges.specs.Ranges.{OwnedRanges}
use Rattle.blz_units.specs.TableViews.{table_view}
use Rattle.blz_units.specs.UnitTables.{UnitTable, units_of}
use Rattle.blz_units.specs.KeptAnswers.{is_value, has_order, function_in, ranges_in}
use Rattle.std.specs.List.{slice_get}
use Rattle.blz_reader.specs.UnitNames.{list_in}

-- ---- what is seen of them

-- the kept units, their announced ranges and the units of the supplementary file
abbrev pub units_table : Units → UnitTable
units_table u = table_view u.table

-- whether the order of the announced ranges was accepted
abbrev pub announced_ordered : Units → Bool
announced_ordered u = u.table.announced.ordered

-- it was accepted, or it is the standard library's
abbrev pub AnnouncedOrdered : Told → Units → Type 0
AnnouncedOrdered told u = IsAccepted told (map begin_key (items_of (units_table u).announced)) (announced_ordered u)

-- what is said of files and their units, of those of DWARF data and some units
abbrev pub as_read : {A : Type 0} → Dwarf → Units → (Files → UnitTable → A) → A
as_read d u said = said (files_view d) (units_table u)

-- whether `prepare` filled all
abbrev pub units_prepared : Units → Bool
units_prepared u = u.prepared

-- the functions of a unit that are kept
abbrev pub functions_cache : Units → ℕ → Cache FunctionRanges
functions_cache u k = functions_at u.caches.units.items k

-- the inlined calls of a function of a unit that are kept
abbrev pub calls_cache : Units → ℕ → ℕ → Cache CallRanges
calls_cache u k n = calls_at u.caches.units.items k n

-- whether the functions of a unit are there
abbrev pub functions_kept : Units → ℕ → Bool
functions_kept u k = is_value (functions_cache u k)

-- whether the inlined calls of a function of a unit are there
abbrev pub calls_kept : Units → ℕ → ℕ → Bool
calls_kept u k n = is_value (calls_cache u k n)

-- whether they are there, and their order was accepted
abbrev pub functions_ordered : Units → ℕ → Bool
functions_ordered u k = has_order (functions_cache u k)

-- a function that is there
abbrev pub kept_function : Units → ℕ → ℕ → Option Function
kept_function u k n = function_in (functions_cache u k) n

-- the lines of a unit that are kept
abbrev pub lines_cache : Units → ℕ → Cache (Option OrderedLines)
lines_cache u k = lines_at u.caches.units.items k

-- whether they were read, as their value or their mark
abbrev pub lines_kept : Units → ℕ → Bool
lines_kept u k = is_kept (lines_cache u k)

abbrev pub AllKept : Units → List (ℕ × ℕ) → Type 0
AllKept u found = (i : ℕ) (at : ℕ × ℕ) → slice_get found i ≡ Some at → functions_kept u at.0 ≡ true

abbrev pub kept_list : Units → ℕ → Option (List Function)
kept_list u k = list_in (functions_cache u k)

-- ---- the file that they fit

-- The table is that of the file, each cache is empty or holds what its part is, and prepared units have them all.
pub record UnitsFit (f : Files) (u : Units) : Type 0 where
  pub table : units_of f ≡ Some (units_table u)
  pub caches : AllFit f (units_table u) u.caches
  pub full : u.prepared ≡ true → AllFull u.caches.units.items

-- The units are those of files that can be read.
pub record CanBeAsked (d : Dwarf) (u : Units) : Type 0 where
  pub readable : IsReadable d
  pub fits : UnitsFit (files_view d) u

-- ---- what a call may add

-- The table stays. Lists are made once, and where places are told, their orders are accepted exactly where those pass the
-- check.
pub record UnitsGrow (told : Told) (old new : Units) : Type 0 where
  pub table : units_table new ≡ units_table old
  pub announced : announced_ordered new ≡ announced_ordered old
  pub units : UnitsGrowTo told old.caches.units.items new.caches.units.items

-- What a question leaves: units that can be asked as before, which may hold more.
pub record Leaves (told : Told) (d : Dwarf) (old new : Units) : Type 0 where
  pub asked : CanBeAsked d new
  pub prepared : units_prepared new ≡ units_prepared old
  pub grows : UnitsGrow told old new

-- nothing is kept yet
pub record AreCold (u : Units) : Type 0 where
  pub prepared : u.prepared ≡ false
  pub functions : (k : ℕ) → functions_at u.caches.units.items k ≡ Empty
  pub lines : (k : ℕ) → lines_at u.caches.units.items k ≡ Empty
  pub calls : (k n : ℕ) → calls_at u.caches.units.items k n ≡ Empty

-- ---- looks

-- The looks that found a function among ranges that do not overlap, where both orders were accepted: for fewer than
-- 2 ^ d announced ranges, and fewer than 2 ^ e of the unit's functions.
abbrev pub FewLooks : OwnedRanges → List UnitCaches → Result (Option (ℕ × ℕ)) Fault → ℕ → Type 0
FewLooks announced units (Ok (Some r)) looks =
    announced.ordered ≡ true → AreApart (items_of announced.ranges) →
    has_order (functions_at units r.0) ≡ true → AreApart (items_of (ranges_in (functions_at units r.0))) →
    (d e : ℕ) → length announced.ranges < 2 ^ d → length (ranges_in (functions_at units r.0)) < 2 ^ e → looks ≤ d + e + 4
FewLooks announced units (Ok None) looks = ⊤
FewLooks announced units (Err e) looks = ⊤

abbrev pub LooksFew : Units → Result (Option (ℕ × ℕ)) Fault → ℕ → Type 0
LooksFew u r looks = FewLooks u.table.announced u.caches.units.items r looks
