-- Functions by their names, and all functions, unit by unit.
use Rattle.std.specs.Prelude.{◌≡◌, ℕ, Bool, true, false, List, Option, Some, None, Result, Ok, Err}
use Rattle.std.specs.List.{slice_get}
use Rattle.blz_error.specs.Fault.{Fault}
use Rattle.blz_model.specs.Part.{Part, Good, Fails, ◌>>=◌}
use Rattle.blz_model.specs.declared.cache.Cache.{Cache}
use Rattle.blz_model.specs.declared.cache.Cache.TheVariants.{Empty, Value, Mark}
use Rattle.blz_info.specs.Marks.{or_invalid}
use Rattle.blz_info.specs.declared.text.Texts.{Texts}
use Rattle.blz_relocations.specs.declared.flow.Flow.{Flow}
use Rattle.blz_functions.specs.declared.functions.Function.{Function}
use Rattle.blz_units.specs.declared.caches.UnitCaches.{UnitCaches}
use Rattle.blz_functions.specs.FunctionList.{Lists}
use Rattle.blz_units.specs.KeptAnswers.{kept_part, is_value}
use Rattle.blz_units.specs.KeptParts.{functions_at, lists_view}
use Rattle.blz_functions.specs.FunctionRanges.{FunctionRanges}
use Rattle.blz_reader.specs.ShownFunctions.{Numbered, ShowsUnit}
use Rattle.blz_units.specs.BuiltUnits.{Files}
use Rattle.blz_units.specs.UnitAnswers.{first_called, in_unit, unit_functions}
use Rattle.blz_units.specs.UnitTables.{UnitTable}

-- the first function of a name in a unit
abbrev pub called_in : Texts → List ℕ → Option Lists → Option (Option ℕ)
called_in texts name None = None
called_in texts name (Some l) = Some (first_called texts name l)

abbrev pub called_by : Texts → List ℕ → FunctionRanges → Part (Option ℕ)
called_by texts name x = Good (first_called texts name (lists_view x))

-- the first function of a name in the unit of a number
abbrev pub named_in : Texts → Files → UnitTable → List ℕ → ℕ → Option (Option ℕ)
named_in texts f t name k = called_in texts name (unit_functions f t k)

-- the same, by what is kept
abbrev pub kept_called : Texts → List ℕ → List UnitCaches → ℕ → Part (Option ℕ)
kept_called texts name units k = kept_part (functions_at units k) >>= called_by texts name

-- the functions of each unit that some numbers name are kept
abbrev pub AllThere : List UnitCaches → List (ℕ × ℕ) → Type 0
AllThere units found = (i : ℕ) (at : ℕ × ℕ) → slice_get found i ≡ Some at → is_value (functions_at units at.0) ≡ true

-- the functions of a unit
abbrev pub listed : Option Lists → Option (Option (List Function))
listed None = None
listed (Some l) = Some (Some l.functions)

-- the same, by what is kept
abbrev pub list_in : Cache FunctionRanges → Option (List Function)
list_in Empty = None
list_in (Value x) = Some x.functions
list_in (Mark k) = None

-- the functions of a unit that were shown
pub record ShowsLists (lists : Option Lists) (k : ℕ) (old new : Option Numbered) (stopped : Bool) (flow : Flow) : Type 0 where
  pub list : Lists
  pub is : lists ≡ Some list
  pub shows : ShowsUnit (in_unit k list.functions) old new stopped flow

-- A unit whose functions have no value shows none.
pub record ShowsNone (lists : Option Lists) (old new : Option Numbered) (stopped : Bool) (fault : Fault) : Type 0 where
  pub goes_on : stopped ≡ false
  pub same : new ≡ old
  pub mark : Fails fault.kind (or_invalid lists)

abbrev pub ShowsIn : Option Lists → ℕ → Option Numbered → Option Numbered → Bool → Result Flow Fault → Type 0
ShowsIn lists k old new stopped (Ok flow) = ShowsLists lists k old new stopped flow
ShowsIn lists k old new stopped (Err e) = ShowsNone lists old new stopped e
