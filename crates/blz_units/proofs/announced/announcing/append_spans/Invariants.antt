use Rattle.std.proofs.Common.{◌≡◌, ◌++◌, drop}
use Rattle.blz_line.specs.Lookups.{spans_of}
use Rattle.blz_units.proofs.announced.announcing.append_spans.Given as goal

abbrev pub invariant-loop-sequence : goal.invariant-loop-sequence
invariant-loop-sequence l = l.out.items ++ spans_of (drop l.sequence-index l.sequences) ≡ l.initial.out.items ++ spans_of l.sequences
