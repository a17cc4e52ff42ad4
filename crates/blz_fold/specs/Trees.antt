-- Beginnings of lines in a tree: each is found by the place of the beginning that is one shorter, and its last number.
use Rattle.std.specs.Prelude.{◌≡◌, ◌<◌, ◌≤◌, ◌+◌, ◌^◌, ℕ, Option, Some, None, zero, suc, List, [], ◌∷◌, ◌++◌, length, map, nat_eq, slice_index_or, take}
use Rattle.std.specs.Cmp.Lexicographic.{pointwise}
use Rattle.std.specs.List.{AllByRecursion, IsDistinct}
use Rattle.blz_fold.specs.Counted.{Counted, Node, names_in}
use Rattle.blz_fold.specs.declared.tree.Beginning.{Beginning}

-- the names of the line at a place
abbrev pub line_names : List (Counted ℕ) → ℕ → List ℕ
line_names lines i = slice_index_or (map names_in lines) i []

-- what a beginning of a line stands for
abbrev pub node_at : List (Counted ℕ) → Beginning → Node ℕ
node_at lines b = record { names = take b.len (line_names lines b.line); count = b.count; own = b.own }

-- it is a beginning of a line
pub record IsWithin (lines : List (Counted ℕ)) (b : Beginning) : Type 0 where
  pub line : b.line < length lines
  pub len : b.len ≤ length (line_names lines b.line)

-- the names at a place; place 0 is the root, which has none
abbrev pub names_at : List (List ℕ) → ℕ → List ℕ
names_at names zero = []
names_at names (suc i) = slice_index_or names i []

-- The node at an index comes behind its parent, and has one name more.
pub record IsLinked (names : List (List ℕ)) (i : ℕ) (key : ℕ × ℕ) : Type 0 where
  pub parent : key.0 ≤ i
  pub longer : names_at names (suc i) ≡ names_at names key.0 ++ key.1 ∷ []

abbrev pub keys_in : List ((ℕ × ℕ) × Beginning) → List (ℕ × ℕ)
keys_in entries = map (λ e. e.0) entries

abbrev pub nodes_in : List (Counted ℕ) → List ((ℕ × ℕ) × Beginning) → List (Node ℕ)
nodes_in lines entries = map (λ e. node_at lines e.1) entries

abbrev pub all_names : List (Node ℕ) → List (List ℕ)
all_names nodes = map (λ n. n.names) nodes

-- The keys of the nodes lead to them, and no two nodes have the same names.
pub record AreLinked (keys : List (ℕ × ℕ)) (names : List (List ℕ)) : Type 0 where
  pub linked : (i : ℕ) → i < length keys → IsLinked names i (slice_index_or keys i (0, 0))
  pub apart : IsDistinct (pointwise nat_eq) names

pub record IsTree (lines : List (Counted ℕ)) (entries : List ((ℕ × ℕ) × Beginning)) : Type 0 where
  pub links : AreLinked (keys_in entries) (all_names (nodes_in lines entries))
  pub within : AllByRecursion (λ e. IsWithin lines e.1) entries

-- its counts are those of a u64
pub record NodeFits (n : Node ℕ) : Type 0 where
  pub count : n.count < 2 ^ 64
  pub own : n.own < 2 ^ 64

-- counted before or not, and once more
abbrev pub counted : Option Beginning → Beginning → Beginning
counted None b = b
counted (Some before) b = record { line = before.line; len = before.len; count = before.count + b.count; own = before.own + b.own }

-- the sums of the counts are a u64
pub record FitsWith (before b : Beginning) : Type 0 where
  pub count : before.count + b.count < 2 ^ 64
  pub own : before.own + b.own < 2 ^ 64
