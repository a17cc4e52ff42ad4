use Rattle.std.proofs.Common.{◌≤◌, length}
use Rattle.blz_program.proofs.Written.{Written}
use Rattle.blz_program.proofs.ending.write_all.Given as goal

abbrev pub invariant-loop-rest : goal.invariant-loop-rest
invariant-loop-rest g l = record {
  written : Written (g.S.Sink.taken l.initial.sink) (g.S.Sink.taken l.sink) l.text l.rest;
  count : g.S.Sink.faults l.initial.sink ≤ g.S.Sink.faults l.sink;
}

abbrev pub decreases-loop-rest : goal.decreases-loop-rest
decreases-loop-rest g l = length l.rest
