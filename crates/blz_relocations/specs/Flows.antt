-- What an answer of a visitor says.
use Rattle.std.specs.Prelude.{Bool, true, false}
use Rattle.blz_relocations.specs.declared.flow.Flow.{Flow}
use Rattle.blz_relocations.specs.declared.flow.Flow.TheVariants.{Continue, Break}

abbrev pub is_break : Flow → Bool
is_break Continue = false
is_break Break = true
