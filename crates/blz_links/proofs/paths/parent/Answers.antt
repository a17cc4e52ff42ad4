use Rattle.std.proofs.Common.{◌≤◌, length, subst, sym, ap, ◌∙◌, arith}
use Rattle.std.specs.Str.{IsCharBoundary}
use Rattle.blz_links.specs.Paths.{length_before}
use Rattle.blz_links.specs.PathViews.{piece_view}
use Rattle.blz_links.proofs.ParentLemmas.{last_piece_in, length_before-boundary}
use Rattle.blz_links.proofs.paths.parent.Goals as goal

pub length_before-requires : goal.length_before-requires
length_before-requires c =
    let piece = piece_view c.in_ok-piece.piece in
    let inside = (last_piece_in c.args.path.now piece (sym c.in_ok-piece.ensures)).placed.inside in
    let here : piece.offset ≤ length c.args.path.now = omega arith in
    rw c.as_bytes.ensures.value here

pub range-requires-clause-end_boundary : goal.range-requires-clause-end_boundary
range-requires-clause-end_boundary c =
    let path = c.args.path.now in
    let piece = piece_view c.in_ok-piece.piece in
    let cut = length_before-boundary path piece c.utf8.path (last_piece_in path piece (sym c.in_ok-piece.ensures)) in
    subst (λ n. IsCharBoundary path n) (sym (c.length_before.ensures ∙ ap (λ bytes. length_before bytes piece.offset) c.as_bytes.ensures.value)) cut
