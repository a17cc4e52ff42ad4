-- The addresses of the rows of a sequence do not fall.
use Rattle.std.proofs.Common.{◌≡◌, ℕ, zero, suc, ◌-◌, ◌≤◌, Bool, true, false, cond, List, [], ◌∷◌, ◌++◌, length, take, Some, arith}
use Rattle.std.specs.List.{All}
use Rattle.std.proofs.lemmas.List.Elements.{All-append, All-take}
use Rattle.std.proofs.lemmas.List.Sorted.{IsNonDecreasingBy-push, IsNonDecreasingBy-take}
use Rattle.blz_info.specs.Contents.{Contents}
use Rattle.blz_line.specs.declared.row.LineRow.{LineRow}
use Rattle.blz_line.specs.declared.rules.Rules.{Rules}
use Rattle.blz_line.specs.RowOrder.{IsRising, AreRising}
use Rattle.blz_line.specs.Program.{State, last_is_at, with_row, run_from}
use Rattle.blz_line.proofs.RunRows.{run_from-keeps}

-- rows whose addresses do not fall, the last of which is not above an address
record RowsUpTo (a : ℕ) (rows : List LineRow) : Type 0 where
  pub rising : IsRising rows
  pub up_to : All (λ (row : LineRow). row.address ≤ a) rows

no_rows : (a : ℕ) → RowsUpTo a []
no_rows a = record { rising = λ i j d le lt. absurd (omega arith); up_to = λ k d lt. absurd (omega arith) }

raised : (a b : ℕ) (rows : List LineRow) → a ≤ b → RowsUpTo a rows → RowsUpTo b rows
raised a b rows le h = record { rising = h.rising; up_to = λ k d lt. let up = h.up_to k d lt in omega arith }

one_row : (row : LineRow) (a : ℕ) → row.address ≤ a → All (λ (x : LineRow). x.address ≤ a) (row ∷ [])
one_row row a le zero d lt = le
one_row row a le (suc k) d lt = absurd (omega arith)

pushed : (a : ℕ) (rows : List LineRow) (row : LineRow) → RowsUpTo a rows → row.address ≡ a → RowsUpTo a (rows ++ row ∷ [])
pushed a rows row h e = record {
  rising = IsNonDecreasingBy-push (λ (x : LineRow). x.address) rows row h.rising (λ d lt. let up = h.up_to (length rows - 1) d (omega arith) in omega arith);
  up_to = All-append (λ (x : LineRow). x.address ≤ a) rows (row ∷ []) h.up_to (one_row row a (omega arith));
}

taken_rows : (a k : ℕ) (rows : List LineRow) → RowsUpTo a rows → RowsUpTo a (take k rows)
taken_rows a k rows h = record {
  rising = IsNonDecreasingBy-take (λ (x : LineRow). x.address) k rows h.rising;
  up_to = All-take (λ (x : LineRow). x.address ≤ a) k rows h.up_to;
}

either_rows : (a : ℕ) (b : Bool) (xs ys : List LineRow) → RowsUpTo a xs → RowsUpTo a ys → RowsUpTo a (cond b xs ys)
either_rows a true xs ys h k = h
either_rows a false xs ys h k = k

row_added : (a : ℕ) (rows : List LineRow) (row : LineRow) → RowsUpTo a rows → row.address ≡ a → RowsUpTo a (with_row rows row)
unfolding with_row
row_added a rows row h e = pushed a _ row (either_rows a (last_is_at rows row.address) (take (length rows - 1) rows) rows (taken_rows a (length rows - 1) rows h) h) e

pub run_rising : (r : Rules) (counts : List ℕ) (c : Contents) (s t : State) (at : ℕ) → run_from r counts c s at ≡ Some t → s.rows ≡ [] → s.sequences ≡ [] → AreRising t.sequences
run_rising = run_from-keeps RowsUpTo IsRising no_rows raised row_added (λ a rows h. h.rising)
