use Rattle.std.proofs.Common.{◌≡◌, map, take}
use Rattle.std.specs.List.{flat_map}
use Rattle.blz_fold.specs.FoldTexts.{line_text}
use Rattle.blz_fold.specs.Numbered.{spelled}
use Rattle.blz_fold.proofs.printing.print_lines.Given as goal

abbrev pub invariant-loop-i : goal.invariant-loop-i
invariant-loop-i l = l.out.items ≡ flat_map line_text (map (spelled l.names) (take l.i l.lines))
