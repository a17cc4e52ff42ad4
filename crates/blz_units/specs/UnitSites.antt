-- Places in the sources: the line of an address, and the sites of the inlined calls that cover it.
use Rattle.std.specs.Prelude.{ℕ, List, [], ◌∷◌, map, Option, Some, None, option_map}
use Rattle.std.specs.List.{slice_get}
use Rattle.std.specs.Str.{is_utf8}
use Rattle.blz_error.specs.declared.kind.ErrorKind.TheVariants.{InvalidDwarf}
use Rattle.blz_model.specs.Answers.{Site, Inlined}
use Rattle.blz_model.specs.Part.{Part, Good, ◌>>=◌, check, all_good}
use Rattle.blz_info.specs.Marks.{or_invalid}
use Rattle.blz_info.specs.TextParts.{text_of}
use Rattle.blz_info.specs.declared.text.StrPlace.{StrPlace}
use Rattle.blz_info.specs.declared.text.Texts.{Texts}
use Rattle.blz_line.specs.FileNames.{file_text}
use Rattle.blz_line.specs.Lookups.{line_at}
use Rattle.blz_line.specs.UnitLines.{LineTable}
use Rattle.blz_functions.specs.declared.inlined_functions.InlinedFunction.{InlinedFunction}
use Rattle.blz_units.specs.BuiltUnits.{Files}
use Rattle.blz_units.specs.UnitAnswers.{unit_lines, covering_calls}
use Rattle.blz_units.specs.UnitTables.{UnitTable, announcing}

-- ---- the line of an address

-- the line of an address in a unit, which may have no lines
abbrev pub line_of : Texts → ℕ → Option LineTable → Part (Option Site)
line_of texts addr None = Good None
line_of texts addr (Some table) = line_at texts table addr

-- the line of an address in a unit, by the number of the unit
unfoldable pub line_in : Texts → Files → UnitTable → ℕ → ℕ → Part (Option Site)
line_in texts f t addr k = or_invalid (unit_lines f t k) >>= line_of texts addr

-- the place that was found, else what later units give
abbrev pub site_or : Option Site → Part (Option Site) → Part (Option Site)
site_or None rest = rest
site_or (Some site) rest = Good (Some site)

-- Of some units the line of the first that has one. Later units are not read.
unfoldable pub first_line : Texts → Files → UnitTable → ℕ → List ℕ → Part (Option Site)
first_line texts f t addr [] = Good None
first_line texts f t addr (k ∷ units) = line_in texts f t addr k >>= λ site. site_or site (first_line texts f t addr units)

-- the line of an address, of the units that announce it
unfoldable pub location_at : Texts → Files → UnitTable → ℕ → Part (Option Site)
location_at texts f t addr = first_line texts f t addr (announcing t addr)

-- ---- inlined calls

-- the name of a call: nothing where it has none; it has to be UTF-8
abbrev pub call_name : Texts → Option StrPlace → Part (List ℕ)
call_name texts None = Good []
call_name texts (Some place) = check (is_utf8 (text_of texts place)) InvalidDwarf >>= λ _. Good (text_of texts place)

-- a line and a column in a file; both are there, 0 too
abbrev pub site_in : InlinedFunction → List ℕ × List ℕ → Site
site_in call file = record { dir = Some file.0; file = file.1; line = Some call.call_line; column = Some call.call_column }

-- the place of a call in the file of a number, where its unit has lines with such a file
abbrev pub site_of : Texts → InlinedFunction → ℕ → Option LineTable → Option Site
site_of texts call file None = None
site_of texts call file (Some table) = option_map (λ place. site_in call (file_text texts place)) (slice_get table.files file)

-- Where a call stands in the sources: nowhere without a file, where its unit has no lines, and where they have no such
-- file. Lines without a value are a mark where there is a file.
abbrev pub call_site : Texts → Option (Option LineTable) → InlinedFunction → Option ℕ → Part (Option Site)
call_site texts lines call None = Good None
call_site texts lines call (Some file) = or_invalid lines >>= λ table. Good (site_of texts call file table)

-- a call with its name and its site, by the lines of its function's unit
unfoldable pub inlined_by : Texts → Option (Option LineTable) → InlinedFunction → Part Inlined
inlined_by texts lines call = do
  name ← call_name texts call.name
  site ← call_site texts lines call call.call_file
  Good (record { name = name; site = site })

-- The inlined calls of a function of a unit that cover an address, the outermost first.
unfoldable pub inlined_at : Texts → Files → UnitTable → ℕ → ℕ → ℕ → Part (List Inlined)
inlined_at texts f t addr k n = or_invalid (covering_calls f t addr k n) >>= λ calls. all_good (map (inlined_by texts (unit_lines f t k)) calls)
