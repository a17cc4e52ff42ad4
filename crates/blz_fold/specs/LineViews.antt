-- What the entries of a table of lines stand for.
use Rattle.std.specs.Prelude.{ℕ, List}
use denote.Ref.{Bor}
use Rattle.std.specs.declared.vec.Vec.{Vec}
use Rattle.blz_fold.specs.Counted.{Counted}

abbrev pub line_view : {Z : Type 0} → (Vec ℕ Z) × ℕ → Counted ℕ
line_view entry = record { names = entry.0.items; count = entry.1 }

-- a line that was read out of it
abbrev pub line_read : Bor (List ℕ) × ℕ → Counted ℕ
line_read line = record { names = line.0.now; count = line.1 }
