-- How a run ends: its status, and the line that says so on the other sink.
use Rattle.std.specs.Prelude.{ℕ, [], ◌++◌, codes, decimal}
use Rattle.blz_error.specs.Texts.{Bytes}
use Rattle.blz_error.specs.Kinds.{kind_text}
use Rattle.blz_error.specs.declared.kind.ErrorKind.{ErrorKind}
use Rattle.blz_error.specs.declared.kind.ErrorKind.TheVariants as kind
use Rattle.blz_program.specs.PrintedText.{line_feed}
use Rattle.blz_program.specs.declared.outcome.LineFault.{LineFault}
use Rattle.blz_program.specs.declared.outcome.LineFault.TheVariants.{BadForm, TooLarge}
use Rattle.blz_program.specs.declared.outcome.Outcome.{Outcome}
use Rattle.blz_program.specs.declared.outcome.Outcome.TheVariants.{Done, Refused, Usage, BadLine, WriteFailed, OutOfMemory}

-- the texts by which a program speaks of itself: its name, the form of its words, and its word for a bad line
pub record ProgramTexts : Type 0 where
  pub name : Bytes
  pub usage : Bytes
  pub bad_line : Bytes

-- the status of a run
abbrev pub status_of : Outcome → ℕ
status_of Done = 0
status_of (Refused k) = 1
status_of Usage = 2
status_of WriteFailed = 3
status_of OutOfMemory = 4
status_of (BadLine line fault) = 5

-- what is wrong with a line: it is not of its form, or the total with it passes 2^64 - 1
abbrev pub fault_text : ProgramTexts → LineFault → Bytes
fault_text program BadForm = program.bad_line
fault_text program TooLarge = codes "total too large"

-- the program's name, a colon, a blank, what it says, and a line feed
abbrev pub said_by : ProgramTexts → Bytes → Bytes
said_by program text = program.name ++ codes ": " ++ text ++ line_feed

-- the program's name, where it was, and what is wrong with that line
abbrev pub bad_line : ProgramTexts → ℕ → LineFault → Bytes
bad_line program line fault = program.name ++ codes ": line " ++ decimal line ++ codes ": " ++ fault_text program fault ++ line_feed

-- the form of the program's words, behind `usage: `
abbrev pub usage_line : ProgramTexts → Bytes
usage_line program = codes "usage: " ++ program.usage ++ line_feed

-- what a run says of how it ended; nothing where the whole text was written
abbrev pub line_for : ProgramTexts → Outcome → Bytes
line_for program Done = []
line_for program (Refused k) = said_by program (kind_text k)
line_for program Usage = usage_line program
line_for program (BadLine line fault) = bad_line program line fault
line_for program WriteFailed = said_by program (codes "write failed")
line_for program OutOfMemory = said_by program (codes "out of memory")

-- an error of this kind ends a run so
abbrev pub refusal_of : ErrorKind → Outcome
refusal_of kind.OutOfMemory = OutOfMemory
refusal_of k = Refused k
