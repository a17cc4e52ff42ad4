use Rattle.std.proofs.Common.{lit<}
use Rattle.blz_links.proofs.PathLemmas.{pieces_from-split, pieces_from-whole}
use Rattle.blz_links.proofs.path_pieces.first_part.Goals as goal

pub returns-in-Some-clause-pieces : goal.returns-in-Some-clause-pieces
returns-in-Some-clause-pieces c =
    let cut = c.in-Some.ensures.byte (lit< tt) (λ w o h. h) in
    pieces_from-split c.args.rest.now c.in-Some.parts.0.now c.in-Some.parts.1.now cut.2 cut.0 cut.1

pub returns-in-None-clause-pieces : goal.returns-in-None-clause-pieces
returns-in-None-clause-pieces c = pieces_from-whole c.args.rest.now (c.in-None.ensures.byte (lit< tt) (λ w o h. h))
