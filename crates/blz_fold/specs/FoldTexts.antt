-- The printed text of folded lines and nodes.
use Rattle.std.specs.Prelude.{ℕ, nat_lt, List, [], ◌∷◌, ◌++◌, codes, decimal, if◌then◌else◌}
use Rattle.std.specs.List.{flat_map, join_with_byte}
use Rattle.blz_error.specs.Texts.{Bytes}
use Rattle.blz_program.specs.PrintedText.{line_feed}
use Rattle.blz_fold.specs.Counted.{Counted, Node}

-- names joined by `;`
abbrev pub names_text : List Bytes → Bytes
names_text names = join_with_byte 59 names

-- the names, a blank, the count
abbrev pub line_text : Counted Bytes → Bytes
line_text line = names_text line.names ++ codes " " ++ decimal line.count ++ line_feed

-- the count, a blank, the own count, a blank, the names
abbrev pub node_text : Node Bytes → Bytes
node_text node = decimal node.count ++ codes " " ++ decimal node.own ++ codes " " ++ names_text node.names ++ line_feed

abbrev pub lines_text : List (Counted Bytes) → Bytes
lines_text lines = flat_map line_text lines

abbrev pub nodes_text : List (Node Bytes) → Bytes
nodes_text nodes = flat_map node_text nodes

-- what stands before the name at an index
abbrev pub separator : ℕ → Bytes
separator i = if nat_lt 0 i then 59 ∷ [] else []
