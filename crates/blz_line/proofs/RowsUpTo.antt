-- The last row up to an address, where the rows part at one.
use Rattle.std.proofs.Common.{◌≡◌, ℕ, zero, suc, ◌-◌, ◌<◌, ◌≤◌, true, false, leb, List, [], ◌∷◌, length, get_or, Option, Some, None, refl, sym, subst, arith}
use Rattle.std.specs.List.Sorted.{IsPartitionPoint}
use Rattle.blz_line.specs.declared.row.LineRow.{LineRow}
use Rattle.blz_line.specs.Lookups.{row_at, later_row}

abbrev pub PartsAt : List LineRow → ℕ → ℕ → Type 0
PartsAt rows a count = IsPartitionPoint (λ (row : LineRow). leb row.address a ≡ true) (λ (row : LineRow). leb row.address a ≡ false) rows count

later_none : (o : Option LineRow) (row : LineRow) (a : ℕ) → o ≡ None → leb row.address a ≡ false → later_row o row a ≡ None
later_none o row a e f = rw (e, f) refl

later_this : (o : Option LineRow) (row : LineRow) (a : ℕ) → o ≡ None → leb row.address a ≡ true → later_row o row a ≡ Some row
later_this o row a e t = rw (e, t) refl

later_that : (o : Option LineRow) (row r : LineRow) (a : ℕ) → o ≡ Some r → later_row o row a ≡ Some r
later_that o row r a e = rw e refl

behind : (row : LineRow) (rest : List LineRow) (a count : ℕ) → PartsAt (row ∷ rest) a (suc count) → PartsAt rest a count
behind row rest a count p = (λ k d le lt. p.0 (suc k) d (omega arith) (omega arith), λ k d le lt. p.1 (suc k) d (omega arith) (omega arith))

all_behind : (row : LineRow) (rest : List LineRow) (a : ℕ) → PartsAt (row ∷ rest) a 0 → PartsAt rest a 0
all_behind row rest a p = (λ k d le lt. absurd (omega arith), λ k d le lt. p.1 (suc k) d (omega arith) (omega arith))

pub row_at_none : (rows : List LineRow) (a : ℕ) → PartsAt rows a 0 → row_at rows a ≡ None
unfolding row_at
row_at_none [] a p = refl
row_at_none (row ∷ rest) a p = later_none (row_at rest a) row a (row_at_none rest a (all_behind row rest a p)) (p.1 0 row (omega arith) (omega arith))

pub row_at_some : (rows : List LineRow) (a i : ℕ) (d : LineRow) → i < length rows → PartsAt rows a (suc i) → row_at rows a ≡ Some (get_or rows i d)
unfolding row_at
row_at_some [] a i d lt p = absurd (omega arith)
row_at_some (row ∷ rest) a zero d lt p = later_this (row_at rest a) row a (row_at_none rest a (behind row rest a 0 p)) (p.0 0 row (omega arith) (omega arith))
row_at_some (row ∷ rest) a (suc i) d lt p = later_that (row_at rest a) row (get_or rest i d) a (row_at_some rest a i d (omega arith) (behind row rest a (suc i) p))

-- ---- the same at a count

pub row_at_start : (rows : List LineRow) (a count : ℕ) → count ≡ 0 → PartsAt rows a count → None ≡ row_at rows a
row_at_start rows a count e p = sym (row_at_none rows a (subst (λ (n : ℕ). PartsAt rows a n) e p))

pub row_at_count : (rows : List LineRow) (a count : ℕ) (d : LineRow) → (count ≡ 0 → ⊥) → count ≤ length rows → PartsAt rows a count → Some (get_or rows (count - 1) d) ≡ row_at rows a
row_at_count rows a count d some le p =
    let e : count ≡ suc (count - 1) = omega (arith, some) in
    sym (row_at_some rows a (count - 1) d (omega (arith, some)) (subst (λ (n : ℕ). PartsAt rows a n) e p))
