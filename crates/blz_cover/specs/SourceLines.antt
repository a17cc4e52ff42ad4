-- A line of a source, and when two are the same place.
use Rattle.std.specs.Prelude.{ℕ, ◌==◌, ◌&&◌, nat_eq, Bool, false, Option, Some, None}
use Rattle.std.specs.Cmp.Lexicographic.{pointwise}
use Rattle.blz_error.specs.Texts.{Bytes}
use Rattle.blz_bytes.specs.Joined.{joined}

-- a line of a file in a directory
pub record SourceLine : Type 0 where
  pub dir : Bytes
  pub file : Bytes
  pub line : ℕ

abbrev pub path_of : SourceLine → Bytes
path_of l = joined l.dir l.file

-- Two lines are the same place where path and line are equal, however the path is divided.
unfoldable pub is_same : SourceLine → SourceLine → Bool
is_same l m = pointwise nat_eq (path_of l) (path_of m) && l.line == m.line

-- whether a line is there, and is the same place
abbrev pub is_at : SourceLine → Option SourceLine → Bool
is_at l None = false
is_at l (Some m) = is_same l m
