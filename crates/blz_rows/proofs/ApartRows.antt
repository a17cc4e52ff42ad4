-- No row of a sequence has the address of the row before it: such a row replaces the other.
use Rattle.std.proofs.Common.{◌≡◌, ◌≢◌, ◌⊎◌, ℕ, suc, ◌+◌, ◌-◌, ◌<◌, ◌≤◌, Bool, true, false, cond, eqb, List, [], ◌∷◌, ◌++◌, length, take, get_or, Option, Some, refl, sym, ap, ◌∙◌, arith, inl, inr}
use Rattle.std.specs.List.{All}
use Rattle.std.proofs.lemmas.Bool.{cases_lt}
use Rattle.std.proofs.lemmas.Bool.Decides.{Decides-eqb}
use Rattle.std.proofs.lemmas.List.{get_or-append-add, get_or-take, length-append, length-take}
use Rattle.std.proofs.lemmas.Option.{slice_get-get_or}
use Rattle.std.proofs.Math.ListN.{get_or-append}
use Rattle.blz_info.specs.Contents.{Contents}
use Rattle.blz_line.specs.declared.row.LineRow.{LineRow}
use Rattle.blz_line.specs.declared.rules.Rules.{Rules}
use Rattle.blz_line.specs.Sequences.{Sequence}
use Rattle.blz_line.specs.Program.{State, is_at, last_is_at, with_row, run_from}
use Rattle.blz_line.proofs.RunRows.{run_from-keeps}

-- ---- the rows

abbrev address : LineRow → ℕ
address row = row.address

-- the address of the row at an index
abbrev at : List LineRow → ℕ → LineRow → ℕ
at rows i d = (get_or rows i d).address

-- no row has the address of the row before it
pub record AreApart (rows : List LineRow) : Type 0 where
  pub apart : (i : ℕ) (d : LineRow) → suc i < length rows → at rows i d ≢ at rows (suc i) d

no_rows : AreApart []
no_rows = record { apart = λ i d lt. absurd (omega arith) }

taken : (k : ℕ) (rows : List LineRow) → AreApart rows → AreApart (take k rows)
taken k rows h = record {
  apart = λ i d lt.
      let short : suc i < length rows = omega (arith, lt, length-take k rows) in
      let inside : suc i < k = omega (arith, lt, length-take k rows) in
      λ e. h.apart i d short (sym (ap address (get_or-take k rows i d (omega arith))) ∙ e ∙ ap address (get_or-take k rows (suc i) d inside));
}

pushed : (rows : List LineRow) (row : LineRow) → AreApart rows → ((d : LineRow) → 0 < length rows → at rows (length rows - 1) d ≢ row.address) → AreApart (rows ++ row ∷ [])
pushed rows row h last = record { apart = λ i d lt. by_place i d (cases_lt (suc i) (length rows)) (omega (arith, lt, length-append rows (row ∷ []))) }
  where
    by_place : (i : ℕ) (d : LineRow) → (suc i < length rows) ⊎ (length rows ≤ suc i) → suc i ≤ length rows → at (rows ++ row ∷ []) i d ≢ at (rows ++ row ∷ []) (suc i) d
    by_place i d (inl inside) le =
        λ e. h.apart i d inside (sym (ap address (get_or-append rows (row ∷ []) d i (omega arith))) ∙ e ∙ ap address (get_or-append rows (row ∷ []) d (suc i) inside))
    by_place i d (inr out) le =
        let here : i ≡ length rows - 1 = omega arith in
        let behind : suc i ≡ length rows + 0 = omega arith in
        let new : get_or (rows ++ row ∷ []) (suc i) d ≡ row = ap (λ (k : ℕ). get_or (rows ++ row ∷ []) k d) behind ∙ get_or-append-add rows (row ∷ []) 0 d in
        let old : get_or (rows ++ row ∷ []) i d ≡ get_or rows (length rows - 1) d = get_or-append rows (row ∷ []) d i (omega arith) ∙ ap (λ (k : ℕ). get_or rows k d) here in
        λ e. last d (omega arith) (sym (ap address old) ∙ e ∙ ap address new)

last_there : (rows : List LineRow) (a : ℕ) (d : LineRow) → 0 < length rows → last_is_at rows a ≡ eqb (at rows (length rows - 1) d) a
last_there rows a d some = ap (λ (o : Option LineRow). is_at o a) (slice_get-get_or rows (length rows - 1) d (omega arith))

none_there : (rows : List LineRow) (a : ℕ) → length rows ≡ 0 → last_is_at rows a ≡ false
none_there [] a none = refl
none_there (row ∷ rows) a none = absurd (omega arith)

-- a row takes the place of one of its address
replaced : (rows : List LineRow) (row : LineRow) → AreApart rows → last_is_at rows row.address ≡ true → AreApart (take (length rows - 1) rows ++ row ∷ [])
replaced rows row h same = pushed (take (length rows - 1) rows) row (taken (length rows - 1) rows h) before
  where
    before : (d : LineRow) → 0 < length (take (length rows - 1) rows) → at (take (length rows - 1) rows) (length (take (length rows - 1) rows) - 1) d ≢ row.address
    before d some =
        let count : length (take (length rows - 1) rows) ≡ length rows - 1 = omega (arith, length-take (length rows - 1) rows) in
        let next : suc (length rows - 1 - 1) ≡ length rows - 1 = omega (arith, some, count) in
        let is : at rows (length rows - 1) d ≡ row.address = (Decides-eqb (at rows (length rows - 1) d) row.address).0 (sym (last_there rows row.address d (omega (arith, some, count))) ∙ same) in
        let apart = h.apart (length rows - 1 - 1) d (omega (arith, some, count)) in
        let here : at (take (length rows - 1) rows) (length (take (length rows - 1) rows) - 1) d ≡ at rows (length rows - 1 - 1) d =
        ap (λ (k : ℕ). at (take (length rows - 1) rows) (k - 1) d) count ∙ ap address (get_or-take (length rows - 1) rows (length rows - 1 - 1) d (omega (arith, some, count))) in
        λ e. apart (sym here ∙ e ∙ sym is ∙ ap (λ (k : ℕ). at rows k d) (sym next))

kept : (rows : List LineRow) (row : LineRow) → AreApart rows → last_is_at rows row.address ≡ false → AreApart (rows ++ row ∷ [])
kept rows row h other = pushed rows row h (λ d some e. absurd (let same : eqb (at rows (length rows - 1) d) row.address ≡ true = (Decides-eqb (at rows (length rows - 1) d) row.address).1 e in
    let told = last_there rows row.address d some in cc))

by_test : (b : Bool) (xs ys : List LineRow) (row : LineRow) → (b ≡ true → AreApart (xs ++ row ∷ [])) → (b ≡ false → AreApart (ys ++ row ∷ [])) → AreApart (cond b xs ys ++ row ∷ [])
by_test true xs ys row f g = f refl
by_test false xs ys row f g = g refl

row_added : (rows : List LineRow) (row : LineRow) → AreApart rows → AreApart (with_row rows row)
unfolding with_row
row_added rows row h = by_test (last_is_at rows row.address) (take (length rows - 1) rows) rows row (replaced rows row h) (kept rows row h)

-- ---- the sequences

abbrev pub AllApart : List Sequence → Type 0
AllApart sequences = All (λ (s : Sequence). AreApart s.rows) sequences

pub run_from-apart : (r : Rules) (counts : List ℕ) (c : Contents) (s t : State) (place : ℕ) → run_from r counts c s place ≡ Some t → s.rows ≡ [] → s.sequences ≡ [] → AllApart t.sequences
run_from-apart = run_from-keeps (λ a. AreApart) AreApart (λ a. no_rows) (λ a b rows le h. h) (λ a rows row h is. row_added rows row h) (λ a rows h. h)
