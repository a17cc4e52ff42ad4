-- What a visitor was shown of the functions of units.
use Rattle.std.specs.Prelude.{◌≡◌, ◌≢◌, ℕ, ◌+◌, ◌<◌, zero, suc, ⊤, Bool, true, false, List, [], ◌∷◌, ◌++◌, length, Option, Some, None, Result, Ok, Err, ◌⊎◌}
use Rattle.blz_error.specs.Fault.{Fault}
use Rattle.blz_error.specs.declared.kind.ErrorKind.{ErrorKind}
use Rattle.blz_error.specs.declared.kind.ErrorKind.TheVariants.{OutOfMemory, InvalidDwarf}
use Rattle.blz_relocations.specs.declared.flow.Flow.{Flow}
use Rattle.blz_relocations.specs.declared.flow.Flow.TheVariants.{Continue, Break}
use Rattle.blz_functions.specs.declared.functions.Function.{Function}
use Rattle.blz_units.specs.BuiltUnits.{Files}
use Rattle.blz_functions.specs.FunctionList.{Lists}
use Rattle.blz_units.specs.UnitAnswers.{in_unit, unit_functions}
use Rattle.blz_units.specs.UnitTables.{UnitTable}

-- functions, each with the number of its unit
abbrev pub Numbered : Type 0
Numbered = List (ℕ × Function)

abbrev pub one_shown : ℕ → Function → Numbered
one_shown unit function = (unit, function) ∷ []

-- where what was shown is told, there is so much more of it; what is told no longer stays untold
abbrev pub ShowsMore : Option Numbered → Option Numbered → Numbered → Type 0
ShowsMore None None more = ⊤
ShowsMore None (Some after) more = ⊥
ShowsMore (Some before) None more = ⊤
ShowsMore (Some before) (Some after) more = after ≡ before ++ more

-- it stopped within a listing
pub record StopsWithin (listing : Numbered) (old new : Option Numbered) (stopped : Bool) : Type 0 where
  pub stops : stopped ≡ true
  pub front : Numbered
  pub rest : Numbered
  pub some : 0 < length front
  pub split : front ++ rest ≡ listing
  pub shown : ShowsMore old new front

pub record IsAllShown (listing : Numbered) (old new : Option Numbered) (stopped : Bool) : Type 0 where
  pub goes_on : stopped ≡ false
  pub shown : ShowsMore old new listing

abbrev pub ShowsUnit : Numbered → Option Numbered → Option Numbered → Bool → Flow → Type 0
ShowsUnit listing old new stopped Continue = IsAllShown listing old new stopped
ShowsUnit listing old new stopped Break = StopsWithin listing old new stopped

-- ---- of all units

abbrev pub shown_by : ℕ → Option Lists → Numbered → Numbered
shown_by k None rest = []
shown_by k (Some l) rest = in_unit k l.functions ++ rest

-- the functions of n units from a number on, up to the first unit whose functions have no value
unfoldable pub shown_from : Files → UnitTable → ℕ → ℕ → Numbered
shown_from f t k zero = []
shown_from f t k (suc n) = shown_by k (unit_functions f t k) (shown_from f t (k + 1) n)

unfoldable pub all_shown : Files → UnitTable → Numbered
all_shown f t = shown_from f t 0 (length t.kept)

-- A mark is met behind all that is shown. For want of memory a front of it was shown.
pub record IsCutOff (whole : Option Numbered) (listing : Numbered) (old new : Option Numbered) (stopped : Bool) (kind : ErrorKind) : Type 0 where
  pub goes_on : stopped ≡ false
  pub none : kind ≢ OutOfMemory → whole ≡ None
  pub mark : kind ≢ OutOfMemory → kind ≡ InvalidDwarf
  pub all : kind ≢ OutOfMemory → ShowsMore old new listing
  pub front : Numbered
  pub rest : Numbered
  pub split : front ++ rest ≡ listing
  pub shown : ShowsMore old new front

abbrev pub IsWhole : Option Numbered → Numbered → Option Numbered → Option Numbered → Bool → Type 0
IsWhole whole listing old new stopped = (whole ≡ Some listing) × IsAllShown listing old new stopped

abbrev pub ShowsUnits : {U : Type 0} → Option Numbered → Numbered → Option Numbered → Option Numbered → Bool → Result U Fault → Type 0
ShowsUnits whole listing old new stopped (Ok u) = IsWhole whole listing old new stopped ⊎ StopsWithin listing old new stopped
ShowsUnits whole listing old new stopped (Err e) = IsCutOff whole listing old new stopped e.kind
