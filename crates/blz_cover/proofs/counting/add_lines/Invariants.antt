use Rattle.std.proofs.Common.{◌≡◌, ◌+◌, ◌≤◌, length}
use Rattle.blz_program.specs.TextLines.{lines_of}
use Rattle.blz_cover.specs.Counting.{counted_from}
use Rattle.blz_cover.proofs.counting.add_lines.Given as goal

abbrev pub invariant-loop-line : goal.invariant-loop-line
invariant-loop-line g l = record {
  same : counted_from l.fn.cover.images l.fn.cover.changes 1 (lines_of l.fn.text) ≡ counted_from l.cover.images l.cover.changes (l.number + 1) (lines_of l.rest);
  few : l.number + length l.rest ≤ length l.fn.text;
}

abbrev pub decreases-loop-line : goal.decreases-loop-line
decreases-loop-line g l = length l.rest
