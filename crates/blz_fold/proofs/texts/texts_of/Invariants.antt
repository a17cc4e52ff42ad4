use Rattle.std.proofs.Common.{◌≡◌, map, take}
use Rattle.blz_fold.specs.Numbered.{name_at}
use Rattle.blz_fold.proofs.texts.texts_of.Given as goal

abbrev pub invariant-loop-number : goal.invariant-loop-number
invariant-loop-number l = l.texts.items ≡ map (name_at l.names) (take l.number-index l.numbers)
