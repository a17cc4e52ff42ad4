-- The best range: of those that pass a test the greatest begin, then the earlier place.
use Rattle.std.specs.Prelude.{◌≡◌, ℕ, ◌+◌, ◌<◌, ◌≤◌, Bool, true, ◌&&◌, ◌||◌, List, [], ◌∷◌, Option, Some, None, nat_lt, nat_le, ◌==◌, if◌then◌else◌, slice_index_or}
use Rattle.std.specs.List.{slice_get}
use Rattle.blz_ranges.specs.declared.span.Span.{Span}
use Rattle.blz_ranges.specs.declared.placed.Placed.{Placed}

-- a range has the addresses from its begin up to but not including its end
abbrev pub covers : Span → ℕ → Bool
covers s addr = nat_le s.begin addr && nat_lt addr s.end

-- the same as facts
pub record Covers (s : Span) (addr : ℕ) : Type 0 where
  pub from : s.begin ≤ addr
  pub below : addr < s.end

-- the better of a range, and of the best of those behind it
abbrev pub better : Placed → Option Placed → Option Placed
better p None = Some p
better p (Some q) = if nat_lt p.span.begin q.span.begin then Some q else Some p

-- the best of the ranges that pass a test on place and range; at is the place of the first
unfoldable pub best_by : (ℕ → Span → Bool) → ℕ → List Span → Option Placed
best_by test at [] = None
best_by test at (s ∷ rest) = if test at s then better (record { place = at; span = s }) (best_by test (at + 1) rest) else best_by test (at + 1) rest

-- the place of a range that was found, in its list
abbrev pub place_of : Option Placed → Option ℕ
place_of None = None
place_of (Some p) = Some p.place

abbrev pub no_span : Span
no_span = record { begin = 0; end = 0 }

abbrev pub placed : List Span → ℕ → Placed
placed spans at = record { place = at; span = slice_index_or spans at no_span }

-- whether a range comes after another one: greater begins come first, then earlier places
abbrev pub comes_after : Placed → ℕ → Span → Bool
comes_after b at s = nat_lt s.begin b.span.begin || (s.begin == b.span.begin && nat_lt b.place at)

-- whether a range covers an address, and comes after another one where that is asked
abbrev pub passes : ℕ → Option Placed → ℕ → Span → Bool
passes addr None at s = covers s addr
passes addr (Some b) at s = covers s addr && comes_after b at s

-- the best of the ranges that cover an address
abbrev pub best : List Span → ℕ → Option ℕ
best spans addr = place_of (best_by (λ at s. covers s addr) 0 spans)

-- the next one that covers it, after the one at a place
abbrev pub next : List Span → ℕ → ℕ → Option ℕ
next spans addr bound = place_of (best_by (λ at s. covers s addr && comes_after (placed spans bound) at s) 0 spans)

-- What tells the best one from all that pass.
pub record NotAfter (p : ℕ) (s : Span) (q : ℕ) (t : Span) : Type 0 where
  pub below : t.begin ≤ s.begin
  pub tie : t.begin ≡ s.begin → p ≤ q

pub record IsBestAt (test : ℕ → Span → Bool) (spans : List Span) (p : ℕ) : Type 0 where
  pub span : Span
  pub at : slice_get spans p ≡ Some span
  pub passes : test p span ≡ true
  pub first : (q : ℕ) (t : Span) → slice_get spans q ≡ Some t → test q t ≡ true → NotAfter p span q t

abbrev pub IsBest : (ℕ → Span → Bool) → List Span → Option ℕ → Type 0
IsBest test spans None = (q : ℕ) (t : Span) → slice_get spans q ≡ Some t → test q t ≡ true → ⊥
IsBest test spans (Some p) = IsBestAt test spans p
