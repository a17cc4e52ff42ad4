-- The answer of an address: the function that covers it, else the symbol that does; its place in the sources; and the
-- calls that were inlined there.
use Rattle.std.specs.Prelude.{ℕ, ◌-◌, nat_le, Bool, true, false, List, [], slice_get, Option, Some, None, if◌then◌else◌}
use Rattle.std.specs.Str.{is_utf8}
use Rattle.blz_error.specs.declared.kind.ErrorKind.TheVariants.{InvalidDwarf}
use Rattle.blz_model.specs.Part.{Part, Good, ◌>>=◌, check}
use Rattle.blz_model.specs.Answers.{Site, Resolved, Answer, Known, Unknown}
use Rattle.blz_model.specs.declared.src_lang.SrcLang.{SrcLang}
use Rattle.blz_elf.specs.Asked.{asks_code_info, asks_inlined_fns}
use Rattle.blz_symbols.specs.SymbolRule.{image_symbol}
use Rattle.blz_elf.specs.declared.opts.FindSymOpts.{FindSymOpts}
use Rattle.blz_info.specs.Marks.{or_invalid}
use Rattle.blz_ranges.specs.declared.span.Span.{Span}
use Rattle.blz_info.specs.declared.text.Texts.{Texts}
use Rattle.blz_units.specs.UnitAnswers.{unit_language, unit_functions, function_at}
use Rattle.blz_units.specs.UnitSites.{call_name, location_at, inlined_at}
use Rattle.blz_functions.specs.declared.functions.Function.{Function}
use Rattle.blz_resolver.specs.Books.{Book, frame_of}
use Rattle.blz_resolver.specs.CallFrames.{Places, no_places, one_place, one_place_if, frames}
use Rattle.blz_resolver.specs.FileTexts.{texts_of}
use Rattle.blz_bundle.specs.Images.{ImageSet, debug_file}

-- ---- the function

-- bytes that have to be UTF-8
unfoldable pub utf8_text : List ℕ → Part (List ℕ)
utf8_text bytes = do
  utf8 ← check (is_utf8 bytes) InvalidDwarf
  Good bytes

-- the function of a number of a unit
unfoldable pub function_numbered : Book → ℕ × ℕ → Part Function
function_numbered b at = do
  lists ← or_invalid (unit_functions b.files b.table at.0)
  or_invalid (slice_get lists.functions at.1)

-- where a function begins, 0 where its bounds are not known
abbrev pub begin_of : Option Span → ℕ
begin_of None = 0
begin_of (Some s) = s.begin

-- its size, none where its bounds are not known or reversed
abbrev pub size_of : Option Span → Option ℕ
size_of None = None
size_of (Some s) = if nat_le s.begin s.end then Some (s.end - s.begin) else None

-- a function of a module with its name and its language, without its places
abbrev pub symbol_of : Option (List ℕ) → List ℕ → Function → SrcLang → Resolved
symbol_of module_name name function lang = record {
  name = name;
  module_name = module_name;
  addr = begin_of function.bounds;
  size = size_of function.bounds;
  lang = lang;
  site = None;
  inlined = [];
}

-- A function as it is answered, without its places. A name has to be UTF-8; the language is that of the unit itself.
unfoldable pub function_symbol : Texts → Book → ℕ × ℕ → Part Resolved
function_symbol t b at = do
  function ← function_numbered b at
  name ← call_name t function.name
  lang ← or_invalid (unit_language b.files b.table at.0)
  Good (symbol_of b.images.main.module_name name function lang)

-- ---- its places

-- the place of the address, where it is asked
unfoldable pub direct_site : Texts → Book → ℕ → FindSymOpts → Part (Option Site)
direct_site t b addr opts = if asks_code_info opts then location_at t b.files b.table addr else Good None

-- the places of a function and of the calls inlined in it, where they are asked; no calls without the place of the address
unfoldable pub places_of : Texts → Book → ℕ → FindSymOpts → ℕ × ℕ → Option Site → Part Places
places_of t b addr opts at None = Good no_places
places_of t b addr opts at (Some direct) = if asks_inlined_fns opts then (do
  calls ← inlined_at t b.files b.table addr at.0 at.1
  Good (frames direct calls))
    else Good (one_place direct)

-- a symbol with its place and its inlined calls
abbrev pub placed : Resolved → Places → Resolved
placed symbol places = record symbol { site = places.site; inlined = places.inlined }

-- the answer of a function, by the numbers of its unit and of itself there
unfoldable pub function_answer : Texts → Book → ℕ → FindSymOpts → ℕ × ℕ → Part Answer
function_answer t b addr opts at = do
  symbol ← function_symbol t b at
  direct ← direct_site t b addr opts
  places ← places_of t b addr opts at direct
  Good (Known (placed symbol places))

-- ---- where no function covers it

-- A symbol of the debug file, and its place. Where there is no symbol, no line is read.
unfoldable pub with_place : Texts → Book → ℕ → FindSymOpts → Answer → Part Answer
with_place t b addr opts (Unknown reason) = Good (Unknown reason)
with_place t b addr opts (Known symbol) = do
  direct ← direct_site t b addr opts
  Good (Known (placed symbol (one_place_if direct)))

-- the symbol of the debug file that covers an address, with its place, or why there is none
unfoldable pub symbol_answer : Texts → Book → ℕ → FindSymOpts → Part Answer
symbol_answer t b addr opts = do
  answer ← image_symbol (debug_file b.images).image (debug_file b.images).module_name addr
  with_place t b addr opts answer

-- ---- the answer

-- the answer by the function that covers an address, and by the symbols where none does
unfoldable pub answer_by : Texts → Book → ℕ → FindSymOpts → Option (ℕ × ℕ) → Part Answer
answer_by t b addr opts None = symbol_answer t b addr opts
answer_by t b addr opts (Some at) = function_answer t b addr opts at

-- the answer of an address, with texts that lie somewhere
unfoldable pub answer_in : Texts → Book → ℕ → FindSymOpts → Part Answer
answer_in t b addr opts = do
  at ← or_invalid (function_at b.files b.table addr)
  answer_by t b addr opts at

-- the same by some options
abbrev pub answers_in : Texts → Book → FindSymOpts → ℕ → Part Answer
answers_in t b opts addr = answer_in t b addr opts

-- the answer of an address
abbrev pub answer : Book → ℕ → FindSymOpts → Part Answer
answer b addr opts = answer_in (texts_of b.files) b addr opts

-- The answer of a bundle, with its debug information or without: then it is the symbol of the image.
abbrev pub answer_of : ImageSet → Bool → ℕ → FindSymOpts → Part Answer
answer_of images false addr opts = image_symbol images.main.image images.main.module_name addr
answer_of images true addr opts = frame_of images >>= λ book. answer book addr opts
