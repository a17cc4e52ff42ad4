-- The counts of lines that a list of changes gives, where it is known at which line each address stands.
use Rattle.std.specs.Prelude.{ℕ, List, [], ◌∷◌, ◌++◌, fold, map, Option, Some, None, is_none, if◌then◌else◌}
use Rattle.std.specs.List.{list_any}
use Rattle.blz_error.specs.Texts.{Bytes}
use Rattle.blz_cover.specs.Changes.{is_added, left_at}
use Rattle.blz_cover.specs.SourceLines.{SourceLine, is_same, is_at}
use Rattle.blz_cover.specs.declared.change.Change.{Change}

-- a line of a source and its count
pub record CountedLine : Type 0 where
  pub dir : Bytes
  pub file : Bytes
  pub line : ℕ
  pub count : ℕ

-- the lines with one more, where its place is new
abbrev pub with_line : List SourceLine → Option SourceLine → List SourceLine
with_line seen None = seen
with_line seen (Some l) = if list_any (is_same l) seen then seen else seen ++ l ∷ []

-- the lines that were seen, after one more change
abbrev pub seen_with : (ℕ → Option SourceLine) → List SourceLine → Change → List SourceLine
seen_with line_of seen c = if is_added c.way then with_line seen (line_of c.addr) else seen

-- the distinct places in the order in which a count was first added there, each as it was first met
unfoldable pub seen_lines : (ℕ → Option SourceLine) → List Change → List SourceLine
seen_lines line_of changes = fold (seen_with line_of) [] changes

-- what is left of a place
abbrev pub count_at : (ℕ → Option SourceLine) → List Change → SourceLine → ℕ
count_at line_of changes l = left_at (λ a. is_at l (line_of a)) changes

abbrev pub counted : (ℕ → Option SourceLine) → List Change → SourceLine → CountedLine
counted line_of changes l = record { dir = l.dir; file = l.file; line = l.line; count = count_at line_of changes l }

-- The lines with their counts. A line stays at 0.
unfoldable pub covered_by : (ℕ → Option SourceLine) → List Change → List CountedLine
covered_by line_of changes = map (counted line_of changes) (seen_lines line_of changes)

-- what is left of the addresses that stand at no line
unfoldable pub rest_by : (ℕ → Option SourceLine) → List Change → ℕ
rest_by line_of changes = left_at (λ a. is_none (line_of a)) changes
