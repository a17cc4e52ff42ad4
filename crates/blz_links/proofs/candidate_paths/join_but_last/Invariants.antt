use Rattle.std.proofs.Common.{◌≡◌, ◌++◌, ◌∷◌, [], string_bytes}
use Rattle.blz_error.specs.Reports.{each_after}
use Rattle.blz_bytes.specs.Joined.{slash}
use Rattle.blz_links.specs.Candidates.{joined_inner, without_last}
use Rattle.blz_links.specs.Paths.{texts_of}
use Rattle.blz_links.specs.PathViews.{piece_view}
use Rattle.blz_links.proofs.candidate_paths.join_but_last.Given as goal

abbrev pub invariant-loop-piece : goal.invariant-loop-piece
invariant-loop-piece l =
    string_bytes l.path ++ each_after (slash ∷ []) (without_last (texts_of (piece_view l.last ∷ l.piece-iterator))) ≡ joined_inner (texts_of l.fn.pieces)
