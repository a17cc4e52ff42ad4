-- What listing a part of a unit tells of what is kept then.
use Rattle.std.specs.Prelude.{ℕ, Result}
use Rattle.blz_error.specs.Fault.{Fault}
use Rattle.blz_model.specs.Part.{Gives}
use Rattle.blz_info.specs.Marks.{or_invalid}
use Rattle.blz_units.specs.KeptAnswers.{calls_listed, calls_told}
use Rattle.blz_units.specs.KeptParts.{calls_at, functions_at}
use Rattle.blz_units.specs.UnitAnswers.{function_calls, unit_functions}
use Rattle.blz_units.specs.declared.caches.Caches.{Caches}
use Rattle.blz_reader.specs.Readers.{as_read}
use Rattle.blz_reader.specs.UnitNames.{listed, list_in}
use Rattle.blz_reader.specs.declared.reader.Reader.{Reader}

-- the functions of a unit
abbrev pub ListsFunctions : {U : Type 0} → Reader → Caches → ℕ → Result U Fault → Type 0
ListsFunctions r c k result = Gives (λ _. list_in (functions_at c.units.items k)) result (or_invalid (listed (as_read r unit_functions k)))

-- the calls of a function
abbrev pub ListsCalls : {U : Type 0} → Reader → Caches → ℕ → ℕ → Result U Fault → Type 0
ListsCalls r c k n result = Gives (λ _. calls_told (calls_at c.units.items k n)) result (or_invalid (calls_listed (as_read r function_calls k n)))
