-- The command line as a simple command of `clap`, and what its words ask for.
use Rattle.std.specs.Prelude.{ℕ, ◌&&◌, ◌||◌, not, Bool, true, false, List, [], ◌∷◌, Option, Some, None, is_some, codes, if◌then◌else◌, unwrap_or, option_map}
use Rattle.std.specs.Option.{option_map_or}
use Rattle.std.specs.Str.{bytes_eq}
use Rattle.clap.specs.Lexer.{usize_max}
use Rattle.clap.specs.Words.{App, Row, Rule, all_of, first_of, matches_of, new_app, new_rule, takes, with_rule}
use Rattle.clap.specs.declared.builder.action.ArgAction.TheVariants.{Append, Set, SetTrue}
use Rattle.blz_error.specs.Texts.{Bytes}
use Rattle.blz_elf.specs.declared.opts.FindSymOpts.{FindSymOpts}
use Rattle.blz_elf.specs.declared.opts.FindSymOpts.TheVariants.{Basic, CodeInfo, CodeInfoAndInlined}
use Rattle.blz_program.specs.TextLines.{pieces_of}
use Rattle.blz_program.specs.Words.{each_address, number_up_to}

-- ---- the simple command

-- `--NAME`
abbrev pub flag_rule : Bytes → Rule
flag_rule name = record (new_rule name) { long = Some name; action = Some SetTrue }

-- `--NAME VALUE`
abbrev pub option_rule : Bytes → Rule
option_rule name = record (new_rule name) { long = Some name; action = Some Set }

-- a word that stands alone
abbrev pub place_rule : Bytes → Rule
place_rule name = record (new_rule name) { action = Some Set }

-- words that stand alone, any number in each use
abbrev pub places_rule : Bytes → Rule
places_rule name = record (new_rule name) { action = Some Append; range = Some (record { start_inclusive = 1; end_inclusive = usize_max }) }

-- the words that the program takes: two flags, two options with a value, a path, and addresses
abbrev pub tool_app : App
tool_app = with_rule (with_rule (with_rule (with_rule (with_rule (with_rule (new_app (codes "blz_tool"))
    (flag_rule (codes "basic"))) (flag_rule (codes "lines"))) (option_rule (codes "debug-dirs"))) (option_rule (codes "demo")))
    (place_rule (codes "path"))) (places_rule (codes "addrs"))

-- the program's name, then its words
abbrev pub named : List Bytes → List Bytes
named words = codes "blz_tool" ∷ words

-- the simple command takes the words after the program's name
abbrev pub is_taken : List Bytes → Bool
is_taken words = takes tool_app (named words)

-- ---- which form the words have

-- answers of a file, with the directories of debug files; the demo; or neither
pub data Form : Type 0 where
  Lookup : FindSymOpts → Option Bytes → Bytes → List Bytes → Form
  Sample : Bytes → Form
  NoForm : Form

-- whether a flag is given
abbrev pub is_set : Bytes → List Row → Bool
is_set name rows = option_map_or (λ text. bytes_eq text (codes "true")) (first_of name rows) false

-- `--basic`, `--lines` or neither
abbrev pub opts_of : Bool → Bool → FindSymOpts
opts_of true lines = Basic
opts_of false true = CodeInfo
opts_of false false = CodeInfoAndInlined

-- answers of a file, whose path has to be given
abbrev pub with_path : FindSymOpts → Option Bytes → List Bytes → Option Bytes → Form
with_path opts dirs addrs None = NoForm
with_path opts dirs addrs (Some path) = Lookup opts dirs path addrs

-- whether no word is given
abbrev pub no_words : List Bytes → Bool
no_words [] = true
no_words (word ∷ words) = false

-- no word stands beside the demo's
abbrev pub is_bare : Bool → Option Bytes → Option Bytes → List Bytes → Bool
is_bare has_flags dirs path addrs = not has_flags && (not (is_some dirs) && (not (is_some path) && no_words addrs))

-- The form by what is given: `--demo` excludes all else, and `--basic` and `--lines` exclude each other.
abbrev pub form_by : Bool → Bool → Option Bytes → Option Bytes → Option Bytes → List Bytes → Form
form_by basic lines dirs (Some number) path addrs = if is_bare (basic || lines) dirs path addrs then Sample number else NoForm
form_by basic lines dirs None path addrs = if basic && lines then NoForm else with_path (opts_of basic lines) dirs addrs path

-- the form by the values of each name among the words
abbrev pub form_of : List Row → Form
form_of rows = form_by (is_set (codes "basic") rows) (is_set (codes "lines") rows) (first_of (codes "debug-dirs") rows)
    (first_of (codes "demo") rows) (first_of (codes "path") rows) (unwrap_or (all_of (codes "addrs") rows) [])

-- ---- what is asked for

-- the addresses of a file: with which options, and with which directories of debug files in place of the default ones
pub record Question : Type 0 where
  pub opts : FindSymOpts
  pub dirs : Option (List Bytes)
  pub path : Bytes
  pub addrs : List ℕ

-- the answers of a file, the demo with as many functions, or words that are not of their form
pub data Asked : Type 0 where
  Resolve : Question → Asked
  Demo : ℕ → Asked
  Malformed : Asked

-- a directory before others, unless it is empty
abbrev pub with_part : Bytes → List Bytes → List Bytes
with_part [] parts = parts
with_part (b ∷ bs) parts = (b ∷ bs) ∷ parts

-- the directories that are not empty
abbrev pub nonempty : List Bytes → List Bytes
nonempty [] = []
nonempty (part ∷ parts) = with_part part (nonempty parts)

-- the directories between colons, of which empty ones are dropped
abbrev pub dirs_in : Bytes → List Bytes
dirs_in text = nonempty (pieces_of 58 text)

-- the answers of a file, where each word behind the path is an address
abbrev pub asked_with : FindSymOpts → Option (List Bytes) → Bytes → Option (List ℕ) → Asked
asked_with opts dirs path None = Malformed
asked_with opts dirs path (Some addrs) = Resolve (record { opts = opts; dirs = dirs; path = path; addrs = addrs })

-- the greatest number of functions in the demo
abbrev pub most_functions : ℕ
most_functions = 100000

-- the demo, where its number was one that it takes
abbrev pub asked_demo : Option ℕ → Asked
asked_demo None = Malformed
asked_demo (Some n) = Demo n

-- what words of a form ask for
abbrev pub asked_by : Form → Asked
asked_by (Lookup opts dirs path addrs) = asked_with opts (option_map dirs_in dirs) path (each_address addrs)
asked_by (Sample number) = asked_demo (number_up_to most_functions number)
asked_by NoForm = Malformed

-- what the program's name and the words after it ask for
abbrev pub asked_named : List Bytes → Asked
asked_named given = asked_by (form_of (matches_of tool_app given))

-- what the words ask for
abbrev pub asked : List Bytes → Asked
asked words = asked_named (named words)
