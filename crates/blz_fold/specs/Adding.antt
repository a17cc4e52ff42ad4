-- One stack more: what becomes of the lines.
use Rattle.std.specs.Prelude.{ℕ, ◌+◌, Bool, List, [], ◌∷◌, if◌then◌else◌}
use Rattle.std.specs.Cmp.Lexicographic.{pointwise}
use Rattle.blz_fold.specs.Counted.{Counted, Node}

-- the count is added to the line of these names, or they have a line of their own at the end
abbrev pub line_added : {N : Type 0} → (N → N → Bool) → List (Counted N) → List N → ℕ → List (Counted N)
line_added same [] names count = record { names = names; count = count } ∷ []
line_added same (line ∷ lines) names count = if pointwise same names line.names
    then record { names = line.names; count = line.count + count } ∷ lines
    else line ∷ line_added same lines names count

-- the same of the beginnings: both counts are added to the one of these names, or it goes to the end
abbrev pub node_added : {N : Type 0} → (N → N → Bool) → List (Node N) → Node N → List (Node N)
node_added same [] node = node ∷ []
node_added same (n ∷ ns) node = if pointwise same node.names n.names
    then record { names = n.names; count = n.count + node.count; own = n.own + node.own } ∷ ns
    else n ∷ node_added same ns node
