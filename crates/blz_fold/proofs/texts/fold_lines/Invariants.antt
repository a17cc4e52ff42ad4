use Rattle.std.proofs.Common.{◌≡◌, map, take}
use Rattle.blz_fold.specs.FoldedViews.{line_bytes}
use Rattle.blz_fold.specs.Numbered.{spelled}
use Rattle.blz_fold.proofs.texts.fold_lines.Given as goal

abbrev pub invariant-loop-i : goal.invariant-loop-i
invariant-loop-i l = map line_bytes l.folded.items ≡ map (spelled l.names) (take l.i l.lines)
