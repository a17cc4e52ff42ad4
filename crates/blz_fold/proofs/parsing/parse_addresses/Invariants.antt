use Rattle.std.proofs.Common.{◌≡◌, length}
use Rattle.blz_program.specs.Words.{each_address}
use Rattle.blz_fold.specs.StackLines.{split}
use Rattle.blz_fold.proofs.ParseSteps.{behind_front}
use Rattle.blz_fold.proofs.parsing.parse_addresses.Given as goal

abbrev pub invariant-loop-piece : goal.invariant-loop-piece
invariant-loop-piece l = each_address (split l.text) ≡ behind_front l.addresses.items (each_address (split l.rest))

abbrev pub decreases-loop-piece : goal.decreases-loop-piece
decreases-loop-piece l = length l.rest
