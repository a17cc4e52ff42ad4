use Rattle.std.proofs.Common.{◌≡◌}
use Rattle.std.specs.List.{last_or}
use Rattle.std.specs.Option.{option_map}
use Rattle.blz_links.specs.Paths.{last_piece}
use Rattle.blz_links.specs.PathViews.{piece_view}
use Rattle.blz_links.proofs.paths.last_piece.Given as goal

abbrev pub invariant-loop-piece : goal.invariant-loop-piece
invariant-loop-piece l = last_or (option_map piece_view l.last) l.piece-iterator ≡ last_piece l.path
