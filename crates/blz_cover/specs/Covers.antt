-- What a cover stands for, and what its calls are refused for.
use Rattle.std.specs.Prelude.{◌≡◌, ℕ, ◌+◌, ◌-◌, ◌^◌, nat_lt, List, [], ◌∷◌, ◌++◌, Option, Some, None, Result, Ok, Err, ⊤, if◌then◌else◌}
use Rattle.blz_model.specs.Answers.{Answer}
use Rattle.blz_model.specs.Part.{Part, Good, Broken}
use Rattle.blz_resolver.specs.Images.{ImageSet}
use Rattle.blz_cover.specs.Answers.{answer_at, source_line}
use Rattle.blz_cover.specs.Changes.{count_of, total_of}
use Rattle.blz_cover.specs.Coverage.{CountedLine, covered_by, rest_by}
use Rattle.blz_cover.specs.declared.change.Change.{Change}
use Rattle.blz_cover.specs.declared.fault.CoverFault.{CoverFault}
use Rattle.blz_cover.specs.declared.fault.CoverFault.TheVariants.{Missing, Full, Mark, Memory}

-- the images of a bundle, and the changes that were made, the first one first
pub record Cover : Type 0 where
  pub images : ImageSet
  pub changes : List Change

-- a cover with one more change
abbrev pub changed : Cover → Change → Cover
changed c change = record { images = c.images; changes = c.changes ++ change ∷ [] }

-- The lines at which a count was added, each with what is left of it.
abbrev pub covered : ImageSet → List Change → List CountedLine
covered images changes = covered_by (source_line images) changes

-- what is left of the addresses without a line
abbrev pub rest_of : ImageSet → List Change → ℕ
rest_of images changes = rest_by (source_line images) changes

-- ---- refusals

-- the mark of an answer, where it is one
abbrev pub mark_fault : Part Answer → Option CoverFault
mark_fault (Good answer) = None
mark_fault (Broken k) = Some (Mark k)

-- What refuses an added count: a total that would pass 2^64 - 1, then the mark of the address.
abbrev pub hit_fault : Cover → ℕ → ℕ → Option CoverFault
hit_fault c addr count = if nat_lt (2 ^ 64 - 1) (total_of c.changes + count) then Some (Full (total_of c.changes)) else mark_fault (answer_at c.images addr)

-- What refuses a taken count: less than it is left of the address, then the mark of the address.
abbrev pub unhit_fault : Cover → ℕ → ℕ → Option CoverFault
unhit_fault c addr count = if nat_lt (count_of addr c.changes) count then Some (Missing (count_of addr c.changes)) else mark_fault (answer_at c.images addr)

-- A call answers what refuses it, where something does; there may be no memory.
abbrev pub AnswersFault : Result (Unit {0}) CoverFault → Option CoverFault → Type 0
AnswersFault (Ok done) fault = fault ≡ None
AnswersFault (Err (Missing count)) fault = fault ≡ Some (Missing count)
AnswersFault (Err (Full total)) fault = fault ≡ Some (Full total)
AnswersFault (Err (Mark k)) fault = fault ≡ Some (Mark k)
AnswersFault (Err Memory) fault = ⊤

-- A change that was not refused is there, and after a refusal all is as before.
abbrev pub AppliesChange : Result (Unit {0}) CoverFault → Cover → Cover → Change → Type 0
AppliesChange (Ok done) old new change = new ≡ changed old change
AppliesChange (Err fault) old new change = new ≡ old

-- a fault is a mark
abbrev pub IsMark : CoverFault → Type 0
IsMark (Missing count) = ⊥
IsMark (Full total) = ⊥
IsMark (Mark k) = ⊤
IsMark Memory = ⊥
