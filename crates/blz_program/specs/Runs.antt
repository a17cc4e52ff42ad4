-- What a run does, and the cause of each status.
use Rattle.std.specs.Prelude.{◌≡◌, ◌⊎◌, ◌<◌, ℕ, ⊤, ◌++◌, length, Option, Some, None, Result, Ok, Err}
use Rattle.std.specs.Io.KnownBytes.{Appends, Keeps}
use Rattle.std.specs.declared.vec.Vec.{Vec}
use Rattle.blz_error.specs.Texts.{Bytes}
use Rattle.blz_error.specs.declared.kind.ErrorKind.{ErrorKind}
use Rattle.blz_resolver.specs.Contents.{Contents}
use Rattle.blz_resolver.specs.Counts.{Rose}
use Rattle.blz_resolver.specs.Outcomes.{HasKindCause}
use Rattle.blz_program.specs.Outcomes.{ProgramTexts, line_for, status_of}
use Rattle.blz_program.specs.declared.outcome.LineFault.{LineFault}
use Rattle.blz_program.specs.declared.outcome.Outcome.{Outcome}
use Rattle.blz_program.specs.declared.outcome.Outcome.TheVariants.{Done, Refused, Usage, BadLine, WriteFailed, OutOfMemory}

-- What a run finds by its words and files: the text to be written; a mark, the kind of the first thing that is broken;
-- words that are not of their form; or a line of a file that is refused.
pub data Found : Type 0 where
  Text : Bytes → Found
  Mark : ErrorKind → Found
  Malformed : Found
  Line : ℕ → LineFault → Found

-- the status of what is found, where nothing fails
abbrev pub status_for : Found → ℕ
status_for (Text text) = 0
status_for (Mark k) = 1
status_for Malformed = 2
status_for (Line line fault) = 5

-- what is found is a text
abbrev pub IsText : Found → Type 0
IsText (Text text) = ⊤
IsText (Mark k) = ⊥
IsText Malformed = ⊥
IsText (Line line fault) = ⊥

-- The words ask for something, and a failure of the files was counted. Words that ask for nothing read no files.
abbrev pub FilesFail : {A : Type 0} → Option A → Type 0 → Type 0
FilesFail None failed = ⊥
FilesFail (Some question) failed = failed

-- a front of the text was written, and not the whole
pub record AppendsFront (old new : Option Bytes) (text : Bytes) : Type 0 where
  pub front : Bytes
  pub back : Bytes
  pub parts : text ≡ front ++ back
  pub is_proper : 0 < length back
  pub appended : Appends old new front

-- a text was found, and the whole of it was written
pub record Writes (Finds : Found → Type 0) (old new : Option Bytes) : Type 0 where
  pub text : Bytes
  pub finds : Finds (Text text)
  pub appended : Appends old new text

-- a text was found, and the sink failed within it
pub record WritesFront (Finds : Found → Type 0) (old new : Option Bytes) (failed : Type 0) : Type 0 where
  pub text : Bytes
  pub finds : Finds (Text text)
  pub appended : AppendsFront old new text
  pub cause : failed

-- nothing was written, and the kind has its cause: a failure of the files, or a mark that was found
pub record Refuses (k : ErrorKind) (Finds : Found → Type 0) (old new : Option Bytes) (failed : Type 0) : Type 0 where
  pub cause : HasKindCause k failed (Finds (Mark k))
  pub kept : Keeps old new

-- the sink failed within this text
pub record FailsWithin (old new : Option Bytes) (text : Bytes) (failed : Type 0) : Type 0 where
  pub appended : AppendsFront old new text
  pub cause : failed

-- this was found, and nothing was written
pub record KeepsAt (found : Found) (Finds : Found → Type 0) (old new : Option Bytes) : Type 0 where
  pub finds : Finds found
  pub kept : Keeps old new

-- How a run ended, what it wrote, and why. `Finds` says what its words and files give; `files_failed` and `out_failed`
-- say that a failure was counted.
abbrev pub IsCaused : Outcome → (Found → Type 0) → Option Bytes → Option Bytes → Type 0 → Type 0 → Type 0
IsCaused Done Finds old new files_failed out_failed = Writes Finds old new
IsCaused (Refused k) Finds old new files_failed out_failed = Refuses k Finds old new files_failed
IsCaused Usage Finds old new files_failed out_failed = KeepsAt Malformed Finds old new
IsCaused (BadLine line fault) Finds old new files_failed out_failed = KeepsAt (Line line fault) Finds old new
IsCaused WriteFailed Finds old new files_failed out_failed = WritesFront Finds old new out_failed
IsCaused OutOfMemory Finds old new files_failed out_failed = Keeps old new

-- the line was appended, where the sink counts no failure
abbrev pub TellsLine : Type 0 → Option Bytes → Option Bytes → Bytes → Type 0
TellsLine failed old new line = failed ⊎ Appends old new line

-- there is an outcome with this status, and P holds of it
abbrev pub HasOutcome : ℕ → (Outcome → Type 0) → Type 0
HasOutcome status P = (o : Outcome) × (status ≡ status_of o) × P o

-- The text that was made, or the outcome in its place, is what was found.
abbrev pub IsMade : {Z : Type 0} → (Found → Type 0) → Type 0 → Result (Vec ℕ Z) Outcome → Type 0
IsMade Finds files_failed (Ok v) = Finds (Text v.items)
IsMade Finds files_failed (Err Done) = ⊥
IsMade Finds files_failed (Err (Refused k)) = HasKindCause k files_failed (Finds (Mark k))
IsMade Finds files_failed (Err Usage) = Finds Malformed
IsMade Finds files_failed (Err (BadLine line fault)) = Finds (Line line fault)
IsMade Finds files_failed (Err WriteFailed) = ⊥
IsMade Finds files_failed (Err OutOfMemory) = ⊤

-- it ended so, and nothing was written
pub record EndsAs (made outcome : Outcome) (old new : Option Bytes) : Type 0 where
  pub same : outcome ≡ made
  pub kept : Keeps old new

-- How a run ends that made this text, or that has this outcome in its place.
abbrev pub EndsBy : {Z : Type 0} → Result (Vec ℕ Z) Outcome → Outcome → Option Bytes → Option Bytes → Type 0 → Type 0
EndsBy (Err made) outcome old new out_failed = EndsAs made outcome old new
EndsBy (Ok v) Done old new out_failed = Appends old new v.items
EndsBy (Ok v) WriteFailed old new out_failed = FailsWithin old new v.items out_failed
EndsBy (Ok v) (Refused k) old new out_failed = ⊥
EndsBy (Ok v) Usage old new out_failed = ⊥
EndsBy (Ok v) (BadLine line fault) old new out_failed = ⊥
EndsBy (Ok v) OutOfMemory old new out_failed = ⊥

-- ---- what a program answers

-- The status has its outcome, with its cause, with the bytes on the sink of answers, and with the line on the other sink.
-- Of each sink: what it took, its count of failures, and its state before and after.
abbrev pub IsAnswered : {S E : Type 0} → ProgramTexts → ℕ → (Found → Type 0) → Type 0 → (S → Option Bytes) → (S → ℕ) → S → S → (E → Option Bytes) → (E → ℕ) → E → E → Type 0
IsAnswered texts status Finds files_failed taken faults out out_after told told_faults err err_after =
    HasOutcome status (λ o. IsCaused o Finds (taken out) (taken out_after) files_failed (Rose (faults out) (faults out_after))
    × TellsLine (Rose (told_faults err) (told_faults err_after)) (told err) (told err_after) (line_for texts o))

-- Where the contents are told and no failure was counted, the status is that of what is found, or there was no memory.
abbrev pub IsKnown : Option Contents → (Contents → Found) → Type 0 → Type 0 → ℕ → Type 0
IsKnown contents found_for files_failed out_failed status = (c : Contents) → contents ≡ Some c → ¬ files_failed → ¬ out_failed
    → (status ≡ 4) ⊎ (status ≡ status_for (found_for c))
