use Rattle.std.proofs.Common.{◌≤◌, ◌-◌, length}
use Rattle.blz_line.specs.Program.{state_of}
use Rattle.blz_line.specs.Usual.{plain, GoesOn}
use Rattle.blz_line.proofs.program.usual.run_usual.Given as goal

abbrev pub invariant-loop-offset : goal.invariant-loop-offset
invariant-loop-offset l = record {
  within : l.offset ≤ length l.bytes;
  before : GoesOn l.rules l.bytes (state_of l.initial.registers l.initial.given) l.at (state_of (plain l.now) l.given) l.offset;
}

abbrev pub decreases-loop-offset : goal.decreases-loop-offset
decreases-loop-offset l = length l.bytes - l.offset
