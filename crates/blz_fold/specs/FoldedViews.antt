-- What folded lines and nodes stand for.
use Rattle.blz_fold.specs.Counted.{Counted, Node}
use Rattle.blz_fold.specs.declared.folded.FoldLine.{FoldLine}
use Rattle.blz_fold.specs.declared.folded.FoldNode.{FoldNode}
use Rattle.blz_error.specs.Texts.{Bytes}

abbrev pub line_bytes : FoldLine → Counted Bytes
line_bytes line = record { names = line.names; count = line.count }

abbrev pub node_bytes : FoldNode → Node Bytes
node_bytes node = record { names = node.names; count = node.count; own = node.own }
