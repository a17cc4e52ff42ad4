use Rattle.std.proofs.Common.{◌≡◌, ◌≤◌, ◌<◌, ◌+◌, ◌^◌, length}
use Rattle.blz_program.specs.TextLines.{lines_of}
use Rattle.blz_fold.specs.AddressStacks.{count_total}
use Rattle.blz_fold.specs.StackLines.{parsed, parsed_from}
use Rattle.blz_fold.proofs.ParseSteps.{stacks_front}
use Rattle.blz_fold.proofs.parsing.parse_stacks.Given as goal

abbrev pub invariant-loop-line : goal.invariant-loop-line
invariant-loop-line l = record {
  so_far : parsed l.bytes ≡ stacks_front l.stacks.items (parsed_from (l.number + 1) l.total (lines_of l.rest));
  total : l.total ≡ count_total l.stacks.items;
  small : l.total < 2 ^ 64;
  number : l.number + length l.rest ≤ length l.bytes;
}

abbrev pub decreases-loop-line : goal.decreases-loop-line
decreases-loop-line l = length l.rest
