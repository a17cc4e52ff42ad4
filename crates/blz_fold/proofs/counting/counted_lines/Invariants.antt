use Rattle.std.proofs.Common.{◌≡◌, map, nat_eq, take}
use Rattle.blz_fold.specs.Counted.{lines_of}
use Rattle.blz_fold.specs.Numbered.{numbered}
use Rattle.blz_fold.proofs.counting.counted_lines.Given as goal

abbrev pub invariant-loop-stack : goal.invariant-loop-stack
invariant-loop-stack l = l.lines ≡ lines_of nat_eq (map (numbered l.addresses.keys (map (λ v. v.items) l.lists)) (take l.stack-index l.stacks))
