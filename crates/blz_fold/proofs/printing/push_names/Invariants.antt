use Rattle.std.proofs.Common.{◌≡◌, ◌++◌, map, take}
use Rattle.blz_fold.specs.FoldTexts.{names_text}
use Rattle.blz_fold.specs.Numbered.{name_at}
use Rattle.blz_fold.proofs.printing.push_names.Given as goal

abbrev pub invariant-loop-i : goal.invariant-loop-i
invariant-loop-i l = l.out.items ≡ l.initial.out.items ++ names_text (map (name_at l.names) (take l.i l.numbers))
