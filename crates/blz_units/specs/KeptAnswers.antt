-- What is told of units by what is kept of them.
use Rattle.std.specs.Prelude.{◌≡◌, ℕ, List, [], ◌∷◌, Option, Some, None, Result, Ok, Err, Bool, true, false}
use Rattle.blz_error.specs.Fault.{Fault}
use Rattle.blz_error.specs.declared.kind.ErrorKind.TheVariants.{InvalidDwarf}
use Rattle.blz_model.specs.Answers.{Site}
use Rattle.blz_model.specs.Languages.{language_of}
use Rattle.blz_model.specs.Part.{Part, Good, Broken, ◌>>=◌}
use Rattle.blz_model.specs.declared.cache.Cache.{Cache}
use Rattle.blz_model.specs.declared.cache.Cache.TheVariants.{Empty, Value, Mark}
use Rattle.blz_model.specs.declared.src_lang.SrcLang.{SrcLang}
use Rattle.blz_info.specs.Marks.{or_invalid}
use Rattle.blz_entry.specs.declared.root.UnitRoot.{UnitRoot}
use Rattle.blz_info.specs.declared.text.Texts.{Texts}
use Rattle.blz_line.specs.UnitLines.{OrderedLines}
use Rattle.blz_functions.specs.declared.inlined_functions.InlinedFunction.{InlinedFunction}
use Rattle.blz_units.specs.declared.caches.UnitCaches.{UnitCaches}
use Rattle.blz_units.specs.KeptParts.{root_at, functions_at, lines_at, calls_at, lists_view, lines_view, calls_view}
use Rattle.blz_functions.specs.FunctionRanges.{FunctionRanges, CallRanges}
use Rattle.blz_ranges.specs.Ranges.{best_owner}
use Rattle.blz_units.specs.UnitAnswers.{chain_of, place_in}
use Rattle.blz_units.specs.UnitSites.{line_of, site_or, site_of}
use Rattle.std.specs.List.{slice_get}
use Rattle.blz_ranges.specs.declared.span.Span.{Span}
use Rattle.blz_functions.specs.declared.functions.Function.{Function}
use Rattle.blz_functions.specs.CallTree.{CallLists}
use Rattle.blz_ranges.specs.Owned.{Owned}

-- A call tells a part as it is kept.
abbrev pub Repeats : {X Y : Type 0} → (X → Y) → Result X Fault → Part Y → Type 0
Repeats view (Ok x) p = p ≡ Good (view x)
Repeats view (Err e) p = p ≡ Broken e.kind

-- what is kept as a part; where nothing is, there is no such unit
abbrev pub kept_part : {X : Type 0} → Cache X → Part X
kept_part Empty = Broken InvalidDwarf
kept_part (Value x) = Good x
kept_part (Mark k) = Broken k

abbrev pub language_by : UnitRoot → Part SrcLang
language_by r = Good (language_of r.language)

abbrev pub kept_language : List UnitCaches → ℕ → Part SrcLang
kept_language units k = kept_part (root_at units k) >>= language_by

abbrev pub best_by_ranges : ℕ → FunctionRanges → Part (Option ℕ)
best_by_ranges addr x = Good (best_owner x.ranges addr)

abbrev pub kept_best : List UnitCaches → ℕ → ℕ → Part (Option ℕ)
kept_best units addr k = kept_part (functions_at units k) >>= best_by_ranges addr

abbrev pub place_by : ℕ → FunctionRanges → Part ℕ
place_by n x = or_invalid (place_in n (lists_view x))

abbrev pub kept_place : List UnitCaches → ℕ → ℕ → Part ℕ
kept_place units k n = kept_part (functions_at units k) >>= place_by n

abbrev pub line_by : Texts → ℕ → Option OrderedLines → Part (Option Site)
line_by texts addr o = line_of texts addr (lines_view o)

abbrev pub kept_line : Texts → List UnitCaches → ℕ → ℕ → Part (Option Site)
kept_line texts units addr k = kept_part (lines_at units k) >>= line_by texts addr

abbrev pub chain_by : ℕ → CallRanges → Part (List InlinedFunction)
chain_by addr x = or_invalid (chain_of addr (calls_view x))

abbrev pub kept_chain : List UnitCaches → ℕ → ℕ → ℕ → Part (List InlinedFunction)
kept_chain units addr k n = kept_part (calls_at units k n) >>= chain_by addr

abbrev pub site_by : Texts → InlinedFunction → ℕ → Option OrderedLines → Part (Option Site)
site_by texts call file o = Good (site_of texts call file (lines_view o))

abbrev pub kept_site : Texts → List UnitCaches → ℕ → InlinedFunction → ℕ → Part (Option Site)
kept_site texts units k call file = kept_part (lines_at units k) >>= site_by texts call file

-- ---- of one cache

-- the value that is kept, where one is
abbrev pub value_in : {X : Type 0} → Cache X → Option X
value_in Empty = None
value_in (Value x) = Some x
value_in (Mark k) = None

abbrev pub is_value : {X : Type 0} → Cache X → Bool
is_value Empty = false
is_value (Value x) = true
is_value (Mark k) = false

abbrev pub has_order : Cache FunctionRanges → Bool
has_order Empty = false
has_order (Value x) = x.ordered
has_order (Mark k) = false

abbrev pub function_in : Cache FunctionRanges → ℕ → Option Function
function_in Empty n = None
function_in (Value x) n = slice_get x.functions n
function_in (Mark k) n = None

abbrev pub ranges_in : Cache FunctionRanges → List (Owned Span)
ranges_in Empty = []
ranges_in (Value x) = x.ranges
ranges_in (Mark k) = []

-- inlined calls by what is kept of them
abbrev pub calls_told : Cache CallRanges → Option CallLists
calls_told Empty = None
calls_told (Value x) = Some (calls_view x)
calls_told (Mark k) = None

-- the same by the file
abbrev pub calls_listed : Option CallLists → Option (Option CallLists)
calls_listed None = None
calls_listed (Some l) = Some (Some l)

-- ---- of some units

abbrev pub or_later : ℕ → Option ℕ → Part (Option (ℕ × ℕ)) → Part (Option (ℕ × ℕ))
or_later k None rest = rest
or_later k (Some n) rest = Good (Some (k, n))

-- the first that has a function for an address
unfoldable pub first_kept : List UnitCaches → ℕ → List ℕ → Part (Option (ℕ × ℕ))
first_kept units addr [] = Good None
first_kept units addr (k ∷ rest) = kept_best units addr k >>= λ n. or_later k n (first_kept units addr rest)

-- the first that has a line for an address
unfoldable pub first_kept_line : Texts → List UnitCaches → ℕ → List ℕ → Part (Option Site)
first_kept_line texts units addr [] = Good None
first_kept_line texts units addr (k ∷ rest) = kept_line texts units addr k >>= λ site. site_or site (first_kept_line texts units addr rest)
