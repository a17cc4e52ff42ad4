use Rattle.std.proofs.Common.{ap, ◌∙◌}
use Rattle.blz_line.specs.Lookups.{spans_of}
use Rattle.blz_line.proofs.program_lines.ProgramLines.new.Goals as goal

pub invariant_of-result : goal.invariant_of-result
invariant_of-result g c = record {
  index = rw (c.in_ok-index.ensures.ok, c.in_ok-sequences.ensures.ok) (c.in_ok-order.ensures.spans ∙ c.in_ok-spans.ensures ∙ ap spans_of c.as_slice.ensures.value);
  rising = rw c.in_ok-sequences.ensures.ok c.requires;
}

pub returns-clause-accepted : goal.returns-clause-accepted
returns-clause-accepted g c = rw (c.in_ok-index.ensures.ok, c.in_ok-sequences.ensures.ok) (rw (c.in_ok-spans.ensures ∙ ap spans_of c.as_slice.ensures.value) at c.in_ok-order.ensures.accepted)
