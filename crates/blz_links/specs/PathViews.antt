-- What a part of a path stands for.
use Rattle.blz_links.specs.Paths as paths
use Rattle.blz_links.specs.declared.path_pieces.PathPiece.{PathPiece}

abbrev pub piece_view : PathPiece → paths.Piece
piece_view piece = record { offset = piece.offset; text = piece.text.now }
