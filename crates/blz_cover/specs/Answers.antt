-- At which line of a source an address stands, by the answer that its debug information gives.
use Rattle.std.specs.Prelude.{ℕ, Bool, true, false, [], Option, Some, None}
use Rattle.blz_error.specs.Texts.{Bytes}
use Rattle.blz_model.specs.Answers.{Site, Answer, Known, Unknown}
use Rattle.blz_model.specs.Part.{Part, Good, Broken}
use Rattle.blz_elf.specs.declared.opts.FindSymOpts.TheVariants.{CodeInfo}
use Rattle.blz_resolver.specs.AddressAnswers.{answer_of}
use Rattle.blz_resolver.specs.Images.{ImageSet}
use Rattle.blz_cover.specs.SourceLines.{SourceLine}

-- a directory, which may be empty
abbrev pub dir_bytes : Option Bytes → Bytes
dir_bytes None = []
dir_bytes (Some dir) = dir

-- a place with a line
abbrev pub lined : Site → Option ℕ → Option SourceLine
lined site None = None
lined site (Some line) = Some (record { dir = dir_bytes site.dir; file = site.file; line = line })

abbrev pub line_of_site : Option Site → Option SourceLine
line_of_site None = None
line_of_site (Some site) = lined site site.line

-- the line that an answer tells
abbrev pub line_in : Answer → Option SourceLine
line_in (Unknown reason) = None
line_in (Known symbol) = line_of_site symbol.site

-- the answer of an address with its place in the sources
abbrev pub answer_at : ImageSet → ℕ → Part Answer
answer_at images addr = answer_of images true addr CodeInfo

abbrev pub line_if_good : Part Answer → Option SourceLine
line_if_good (Good answer) = line_in answer
line_if_good (Broken k) = None

-- The line at which an address stands: that of its answer's code information, where there is one with a line.
unfoldable pub source_line : ImageSet → ℕ → Option SourceLine
source_line images addr = line_if_good (answer_at images addr)

abbrev pub is_good : Part Answer → Bool
is_good (Good answer) = true
is_good (Broken k) = false

-- whether an address has an answer, and no mark
unfoldable pub is_answered : ImageSet → ℕ → Bool
is_answered images addr = is_good (answer_at images addr)
