-- Stacks of names with counts, and what is folded from them. A name is of any type with a test of sameness, so that the
-- same words serve for the bytes of names and for numbers that stand for them.
use Rattle.std.specs.Prelude.{◌≡◌, ℕ, ◌+◌, nat_eq, ◌&&◌, Bool, length, List, [], ◌∷◌, ◌++◌, map, if◌then◌else◌}
use Rattle.std.specs.Cmp.Lexicographic.{pointwise}
use Rattle.std.specs.List.{fold, flat_map, list_any, starts_with, sum_by, AllByRecursion}

-- a stack of names, the outermost first, and how often it was met
pub record Counted (N : Type 0) : Type 0 where
  pub names : List N
  pub count : ℕ

-- a beginning of stacks, how often a stack that begins with it was met, and how often it was met alone
pub record Node (N : Type 0) : Type 0 where
  pub names : List N
  pub count : ℕ
  pub own : ℕ

abbrev pub names_in : {N : Type 0} → Counted N → List N
names_in stack = stack.names

abbrev pub count_in : {N : Type 0} → Counted N → ℕ
count_in stack = stack.count

-- the sum of the counts of all stacks
abbrev pub total : {N : Type 0} → List (Counted N) → ℕ
total stacks = sum_by count_in stacks

-- its count where its names pass the test, else 0
abbrev pub count_where : {N : Type 0} → (List N → Bool) → Counted N → ℕ
count_where test stack = if test stack.names then stack.count else 0

-- the sum of the counts of the stacks whose names pass the test
abbrev pub total_where : {N : Type 0} → (List N → Bool) → List (Counted N) → ℕ
total_where test stacks = sum_by (count_where test) stacks

-- the nonempty beginnings of a list, the shortest first
abbrev pub beginnings : {N : Type 0} → List N → List (List N)
beginnings [] = []
beginnings (n ∷ ns) = (n ∷ []) ∷ map (λ p. n ∷ p) (beginnings ns)

-- the list, and the item behind it where it has none that is the same
abbrev pub with_new : {X : Type 0} → (X → X → Bool) → List X → X → List X
with_new same seen x = if list_any (same x) seen then seen else seen ++ x ∷ []

-- the items in the order of their first places, each once
abbrev pub distinct : {X : Type 0} → (X → X → Bool) → List X → List X
distinct same xs = fold (with_new same) [] xs

module _ {N : Type 0} (same : N → N → Bool) where
  -- these names, and the sum of the counts of the stacks that have them
  abbrev pub line_of : List (Counted N) → List N → Counted N
  line_of stacks names = record { names = names; count = total_where (pointwise same names) stacks }

  -- the distinct lists of names in the order of the first stack that has them, each with the sum of the counts
  abbrev pub lines_of : List (Counted N) → List (Counted N)
  lines_of stacks = map (line_of stacks) (distinct (pointwise same) (map names_in stacks))

  -- these names, the sum over the stacks that begin with them, and the sum over those that equal them
  abbrev pub node_of : List (Counted N) → List N → Node N
  node_of stacks names = record {
    names = names;
    count = total_where (λ longer. starts_with same longer names) stacks;
    own = total_where (pointwise same names) stacks;
  }

  -- the distinct nonempty beginnings of the stacks, in the order of stack, then length, each with its sums
  abbrev pub nodes_of : List (Counted N) → List (Node N)
  nodes_of stacks = map (node_of stacks) (distinct (pointwise same) (flat_map beginnings (map names_in stacks)))

  -- whether names begin with others and are one name longer
  abbrev pub is_child : List N → List N → Bool
  is_child parent names = nat_eq (length names) (length parent + 1) && starts_with same names parent

  -- the sum of the counts of the nodes that begin with these names and are one name longer
  abbrev pub children_total : List N → List (Node N) → ℕ
  children_total parent nodes = sum_by (λ n. if is_child parent n.names then n.count else 0) nodes

  -- the count of each node is its own and those of the nodes one name longer
  abbrev pub AddUp : List (Node N) → Type 0
  AddUp nodes = AllByRecursion (λ n. n.count ≡ n.own + children_total n.names nodes) nodes
