-- What it takes to fill what is kept of units, and what that leaves.
use Rattle.std.specs.Prelude.{◌≡◌, ℕ, ◌<◌, ⊤, Bool, true, false, Option}
use Rattle.std.specs.List.{slice_get}
use Rattle.blz_model.specs.Kept.{Kept, is_kept}
use Rattle.blz_model.specs.declared.cache.Cache.{Cache}
use Rattle.blz_model.specs.declared.cache.Cache.TheVariants.{Empty}
use Rattle.blz_info.specs.Marks.{or_invalid}
use Rattle.blz_entry.specs.declared.root.UnitRoot.{UnitRoot}
use Rattle.blz_functions.specs.FunctionRanges.{CallRanges, FunctionRanges}
use Rattle.blz_line.specs.UnitLines.{OrderedLines}
use Rattle.blz_units.specs.BuiltUnits.{IsReadable}
use Rattle.blz_units.specs.declared.caches.Caches.{Caches}
use Rattle.blz_units.specs.declared.caches.UnitCaches.{UnitCaches}
use Rattle.blz_units.specs.KeptAnswers.{is_value}
use Rattle.blz_units.specs.KeptParts.{calls_at, calls_view, functions_at, lacks_calls, lines_view, lists_view, unit_root, AllFit}
use Rattle.blz_units.specs.UnitAnswers.{function_calls, unit_functions, unit_lines}
use Rattle.blz_reader.specs.Growing.{Told, Made, AreOrdered, CallsOrdered, LinesOrdered, UnitsGrowTo}
use Rattle.blz_reader.specs.Readers.{as_read, reader_files, reader_table}
use Rattle.blz_reader.specs.declared.reader.Reader.{Reader}

-- The files can be read, and what is kept are parts of their units.
pub record CanBeFilled (r : Reader) (c : Caches) : Type 0 where
  pub readable : IsReadable r.dwarf.now
  pub fits : AllFit (reader_files r) (reader_table r) c

-- What is kept can be filled as before, and only grew.
pub record Fills (told : Told) (r : Reader) (old new : Caches) : Type 0 where
  pub fillable : CanBeFilled r new
  pub grows : UnitsGrowTo told old.units.items new.units.items

-- ---- parts

-- a part that was read, to be kept: its value, made as it has to be, or its mark
pub record IsRead {X A : Type 0} (view : X → A) (right : X → Type 0) (part : Option A) (c : Cache X) : Type 0 where
  pub kept : Kept (λ _. Unit {0}) view c (or_invalid part)
  pub full : is_kept c ≡ true
  pub made : Made right Empty c

abbrev pub IsRootOf : Reader → ℕ → Cache UnitRoot → Type 0
IsRootOf r k = IsRead (λ root. root) (λ _. ⊤) (as_read r unit_root k)

abbrev pub AreFunctionsOf : Told → Reader → ℕ → Cache FunctionRanges → Type 0
AreFunctionsOf told r k = IsRead lists_view (AreOrdered told) (as_read r unit_functions k)

abbrev pub AreLinesOf : Told → Reader → ℕ → Cache (Option OrderedLines) → Type 0
AreLinesOf told r k = IsRead lines_view (LinesOrdered told) (as_read r unit_lines k)

abbrev pub AreCallsOf : Told → Reader → ℕ → ℕ → Cache CallRanges → Type 0
AreCallsOf told r k n = IsRead calls_view (CallsOrdered told) (as_read r function_calls k n)

-- the unit does not lack a part
abbrev pub HasPart : (Option UnitCaches → Bool) → Caches → ℕ → Type 0
HasPart lacks c k = lacks (slice_get c.units.items k) ≡ false

-- it does not lack the calls of a function
abbrev pub HasCallsOf : Caches → ℕ → ℕ → Type 0
HasCallsOf c k n = HasPart (λ o. lacks_calls o n) c k

-- nor those of its first functions
abbrev pub HasFirstCalls : ℕ → Caches → ℕ → Type 0
HasFirstCalls count c k = (n : ℕ) → n < count → HasCallsOf c k n

-- its functions are kept, and have a value
abbrev pub HasFunctions : Caches → ℕ → Type 0
HasFunctions c k = is_value (functions_at c.units.items k) ≡ true

-- so are the inlined calls of one of them
abbrev pub HasInlined : Caches → ℕ → ℕ → Type 0
HasInlined c k n = is_value (calls_at c.units.items k n) ≡ true
