use Rattle.std.proofs.Common.{◌≤◌, ◌-◌, length}
use Rattle.blz_info.specs.Contents.{section_view}
use Rattle.blz_line.specs.Program.{first_state, run_from, state_of}
use Rattle.blz_line.specs.Usual.{Leaves}
use Rattle.blz_line.proofs.program.run.Given as goal

abbrev pub invariant-loop-given : goal.invariant-loop-given
invariant-loop-given l = record {
  within : l.offset ≤ length l.section.bytes.now;
  leaves : Leaves l.rules l.counts (section_view l.section) (state_of l.registers l.given) l.offset (run_from l.rules l.counts (section_view l.section) (first_state l.fn.files) l.at);
}

abbrev pub decreases-loop-given : goal.decreases-loop-given
decreases-loop-given l = length l.section.bytes.now - l.offset
