use Rattle.std.proofs.Common.{◌≡◌}
use Rattle.std.specs.Cmp.Lexicographic.{pointwise}
use Rattle.std.specs.Str.{bytes_eq}
use Rattle.blz_links.specs.Paths.{texts_of}
use Rattle.blz_links.proofs.paths.same_texts.Given as goal

abbrev pub invariant-loop-piece : goal.invariant-loop-piece
invariant-loop-piece l = pointwise bytes_eq (texts_of l.piece-iterator) (texts_of l.others) ≡ pointwise bytes_eq (texts_of l.fn.a) (texts_of l.initial.others)
