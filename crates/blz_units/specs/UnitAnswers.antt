-- What the kept units of a file hold: their languages, functions, lines and inlined calls, by the numbers of the units.
use Rattle.std.specs.Prelude.{ℕ, zero, suc, ◌+◌, Bool, false, List, [], ◌∷◌, ◌++◌, length, map, Option, Some, None, position}
use Rattle.std.specs.List.{slice_get}
use Rattle.std.specs.Str.{bytes_eq}
use Rattle.blz_model.specs.Languages.{language_of}
use Rattle.blz_model.specs.Reads.{◌>>=◌}
use Rattle.blz_model.specs.declared.src_lang.SrcLang.{SrcLang}
use Rattle.blz_info.specs.TextParts.{text_of}
use Rattle.blz_info.specs.declared.text.StrPlace.{StrPlace}
use Rattle.blz_info.specs.declared.text.Texts.{Texts}
use Rattle.blz_line.specs.UnitLines.{LineTable}
use Rattle.blz_functions.specs.declared.functions.Function.{Function}
use Rattle.blz_functions.specs.declared.inlined_functions.InlinedFunction.{InlinedFunction}
use Rattle.blz_units.specs.BuiltUnits.{Files, built, reading}
use Rattle.blz_functions.specs.CallTree.{CallLists, unit_calls}
use Rattle.blz_functions.specs.Chain.{chain}
use Rattle.blz_functions.specs.FunctionList.{Lists, unit_lists}
use Rattle.blz_functions.specs.Leaves.{UnitParts}
use Rattle.blz_functions.specs.References.{refer_from}
use Rattle.blz_ranges.specs.Ranges.{best_owner}
use Rattle.blz_units.specs.UnitTables.{UnitTable, reach_of, announcing, lines_in}

-- ---- one unit

-- the unit itself, which tells its language and its lines
unfoldable pub main_unit : Files → UnitTable → ℕ → Option UnitParts
main_unit f t k = slice_get t.kept k >>= built f.main

-- the unit that its functions are read from
unfoldable pub read_unit : Files → UnitTable → ℕ → Option UnitParts
read_unit f t k = slice_get t.kept k >>= reading f

-- the language, also of a unit whose functions stand in a package
unfoldable pub unit_language : Files → UnitTable → ℕ → Option SrcLang
unit_language f t k = main_unit f t k >>= λ u. Some (language_of u.root.language)

-- the functions of a unit that is read
abbrev pub lists_in : Files → UnitTable → UnitParts → Option Lists
lists_in f t u = unit_lists (refer_from (reach_of f t) u) u

-- the functions of a unit with their ranges, by the number of the unit
unfoldable pub unit_functions : Files → UnitTable → ℕ → Option Lists
unit_functions f t k = read_unit f t k >>= lists_in f t

-- the lines: none where the root tells no line program
unfoldable pub unit_lines : Files → UnitTable → ℕ → Option (Option LineTable)
unit_lines f t k = main_unit f t k >>= lines_in

-- the inlined calls of the function at a place of a unit that is read
abbrev pub calls_in : Files → UnitTable → ℕ → UnitParts → Option CallLists
calls_in f t place u = unit_calls (refer_from (reach_of f t) u) u place

-- the inlined calls of the function at a place of a unit, by the number of the unit
unfoldable pub place_calls : Files → UnitTable → ℕ → ℕ → Option CallLists
place_calls f t k place = read_unit f t k >>= calls_in f t place

-- the place of a function, by its number in a unit
abbrev pub place_in : ℕ → Lists → Option ℕ
place_in n l = slice_get l.functions n >>= λ function. Some function.place

-- the place of a function, by the number of its unit and its own number there
unfoldable pub function_place : Files → UnitTable → ℕ → ℕ → Option ℕ
function_place f t k n = unit_functions f t k >>= place_in n

-- the inlined calls of a function, by its number in the unit
unfoldable pub function_calls : Files → UnitTable → ℕ → ℕ → Option CallLists
function_calls f t k n = function_place f t k n >>= place_calls f t k

-- the calls of some numbers
unfoldable pub chosen : List InlinedFunction → List ℕ → Option (List InlinedFunction)
chosen calls [] = Some []
chosen calls (n ∷ rest) = do
  call ← slice_get calls n
  others ← chosen calls rest
  Some (call ∷ others)

-- of the calls of a function those that cover an address, the outermost first
abbrev pub chain_of : ℕ → CallLists → Option (List InlinedFunction)
chain_of addr l = chosen l.calls (chain l.ranges (length l.calls) addr)

-- the inlined calls of a function of a unit that cover an address, the outermost first
unfoldable pub covering_calls : Files → UnitTable → ℕ → ℕ → ℕ → Option (List InlinedFunction)
covering_calls f t addr k n = function_calls f t k n >>= chain_of addr

-- ---- the function of an address

-- the function of the best range of a unit that covers an address
abbrev pub best_of : ℕ → Lists → Option (Option ℕ)
best_of addr l = Some (best_owner l.ranges addr)

-- the number of the function in a unit whose range is the best one that covers an address
unfoldable pub best_function : Files → UnitTable → ℕ → ℕ → Option (Option ℕ)
best_function f t addr k = unit_functions f t k >>= best_of addr

-- the function that was found in the unit k, else what later units give
abbrev pub found_or : ℕ → Option ℕ → Option (Option (ℕ × ℕ)) → Option (Option (ℕ × ℕ))
found_or k None rest = rest
found_or k (Some n) rest = Some (Some (k, n))

-- Of some units the first whose best range covers an address, and the number of the function of that range there. Later
-- units are not read.
unfoldable pub first_function : Files → UnitTable → ℕ → List ℕ → Option (Option (ℕ × ℕ))
first_function f t addr [] = Some None
first_function f t addr (k ∷ units) = best_function f t addr k >>= λ n. found_or k n (first_function f t addr units)

-- the function of an address, of the units that announce it
unfoldable pub function_at : Files → UnitTable → ℕ → Option (Option (ℕ × ℕ))
function_at f t addr = first_function f t addr (announcing t addr)

-- ---- functions by their names

-- A function without a name has no name of no bytes.
abbrev pub is_called : Texts → List ℕ → Option StrPlace → Bool
is_called texts name None = false
is_called texts name (Some place) = bytes_eq (text_of texts place) name

-- the first function of a unit that has a name
abbrev pub first_called : Texts → List ℕ → Lists → Option ℕ
first_called texts name l = position (λ (function : Function). is_called texts name function.name) l.functions

abbrev pub with_called : ℕ → Option ℕ → List (ℕ × ℕ) → List (ℕ × ℕ)
with_called k None rest = rest
with_called k (Some n) rest = (k, n) ∷ rest

-- of n units from a number on, each that has a function of a name with the first of them
unfoldable pub called_from : Texts → Files → UnitTable → List ℕ → ℕ → ℕ → Option (List (ℕ × ℕ))
called_from texts f t name k zero = Some []
called_from texts f t name k (suc n) = do
  l ← unit_functions f t k
  rest ← called_from texts f t name (k + 1) n
  Some (with_called k (first_called texts name l) rest)

unfoldable pub functions_named : Texts → Files → UnitTable → List ℕ → Option (List (ℕ × ℕ))
functions_named texts f t name = called_from texts f t name 0 (length t.kept)

-- ---- all functions

abbrev pub in_unit : ℕ → List Function → List (ℕ × Function)
in_unit k functions = map (λ (function : Function). (k, function)) functions

-- the functions of n units from a number on, each with the number of its unit
unfoldable pub functions_from : Files → UnitTable → ℕ → ℕ → Option (List (ℕ × Function))
functions_from f t k zero = Some []
functions_from f t k (suc n) = do
  l ← unit_functions f t k
  rest ← functions_from f t (k + 1) n
  Some (in_unit k l.functions ++ rest)

unfoldable pub all_functions : Files → UnitTable → Option (List (ℕ × Function))
all_functions f t = functions_from f t 0 (length t.kept)
