-- One symbol more of a table whose names are read, and one name more of a list.
use Rattle.std.specs.Prelude.{ℕ, Bool, List, [], ◌∷◌, ◌++◌, if◌then◌else◌}
use Rattle.blz_model.specs.Part.{Part, Good, ◌>>=◌}
use Rattle.blz_image.specs.declared.symbols.Symbol.{Symbol}
use Rattle.blz_symbols.specs.NameRule.{Named, read_name, is_called, is_of_type}
use Rattle.blz_symbols.specs.declared.names.Wanted.{Wanted}
use Rattle.blz_symbols.specs.declared.names.Wanted.TheVariants.{Called, OfType}
use Rattle.blz_symbols.specs.declared.names.NamedSymbol.{NamedSymbol}

abbrev pub named_view : NamedSymbol → Named
named_view n = record { symbol = n.symbol; name = n.name.now }

-- the test of what is wanted
abbrev pub passes : Wanted → Named → Bool
passes (Called name) n = is_called name.now n
passes (OfType sym_type) n = is_of_type sym_type n

-- a name that passes is put behind the others
abbrev pub with_named : (Named → Bool) → List Named → Named → List Named
with_named pass listed n = if pass n then listed ++ n ∷ [] else listed

-- the name of a symbol that is asked is read, and put behind the others
unfoldable pub with_symbol : (Symbol → Bool) → List ℕ → List Named → Symbol → Part (List Named)
with_symbol asked strings listed s =
    if asked s then (do
      n ← read_name strings s
      Good (listed ++ n ∷ []))
    else Good listed
