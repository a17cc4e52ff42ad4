use Rattle.std.proofs.Common.{arith, sym, subst}
use Rattle.std.specs.List.{IsDistinct}
use Rattle.blz_fold.specs.Trees.{IsTree}
use Rattle.blz_fold.proofs.tree.Tree.of.Goals as goal

pub invariant_of-tree : goal.invariant_of-tree
unfolding IsDistinct
invariant_of-tree c = subst (λ z. IsTree c.args.lines.now z) (sym c.new.ensures.empty) (record { links = record { linked = λ i lt. absurd (omega (arith, lt)); apart = tt }; within = tt })
