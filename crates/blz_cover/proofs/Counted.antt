-- What a line of hits gives, where it is refused.
use Rattle.std.proofs.Common.{◌≡◌, ℕ, ◌+◌, ◌-◌, ◌^◌, Bool, true, false, nat_lt, ap, Some, if◌then◌else◌}
use Rattle.blz_error.specs.declared.kind.ErrorKind.{ErrorKind}
use Rattle.blz_model.specs.Answers.{Answer}
use Rattle.blz_model.specs.Part.{Part, Good, Broken}
use Rattle.blz_elf.specs.declared.opts.FindSymOpts.TheVariants.{CodeInfo}
use Rattle.blz_program.specs.Runs as run
use Rattle.blz_program.specs.Runs.{Found, Line}
use Rattle.blz_program.specs.declared.outcome.LineFault.TheVariants.{TooLarge}
use Rattle.blz_resolver.specs.FormatKinds.{IsFormatKind}
use Rattle.blz_resolver.proofs.DebugMarks.{marks_answer}
use Rattle.blz_resolver.proofs.FormatMarks.{format_kind}
use Rattle.blz_cover.specs.Answers.{answer_at}
use Rattle.blz_cover.specs.Changes.{added, total_of}
use Rattle.blz_cover.specs.Counting.{found_at, mark_or}
use Rattle.blz_cover.specs.Covers.{Cover, hit_fault, mark_fault}
use Rattle.blz_cover.specs.declared.change.Change.{Change}
use Rattle.blz_cover.specs.declared.fault.CoverFault.TheVariants.{Full, Mark}

broken_part : (p : Part Answer) (k : ErrorKind) (next : Found) → mark_fault p ≡ Some (Mark k) → (mark_or p next ≡ run.Mark k) × (p ≡ Broken k)
broken_part (Good answer) k next is = cc
broken_part (Broken j) k next is = let same : j ≡ k = cc in (ap run.Mark same, ap Broken same)

broken_unless : (b : Bool) (p : Part Answer) (total number : ℕ) (k : ErrorKind) (next : Found) → (if b then Some (Full total) else mark_fault p) ≡ Some (Mark k)
    → ((if b then Line number TooLarge else mark_or p next) ≡ run.Mark k) × (p ≡ Broken k)
broken_unless true p total number k next is = cc
broken_unless false p total number k next is = broken_part p k next is

-- a hit that is refused by a mark
pub found_at-mark : (c : Cover) (hit : ℕ × ℕ) (number : ℕ) (k : ErrorKind) (next : Change → Found) → hit_fault c hit.0 hit.1 ≡ Some (Mark k)
    → (found_at c.images c.changes number (Some hit) next ≡ run.Mark k) × IsFormatKind k
found_at-mark c hit number k next is =
    let both = broken_unless (nat_lt (2 ^ 64 - 1) (total_of c.changes + hit.1)) (answer_at c.images hit.0) (total_of c.changes) number k (next (added hit.0 hit.1)) is in
    (both.0, format_kind (answer_at c.images hit.0) k (marks_answer c.images true hit.0 CodeInfo) both.1)
