-- The rows of one slot more.
use Rattle.std.proofs.Common.{◌≡◌, ◌≢◌, ℕ, zero, suc, ◌+◌, ◌-◌, ◌<◌, Bool, true, false, List, Option, option_map, Some, None, refl, arith, inl, inr}
use Rattle.std.specs.Prelude.{IfSome}
use Rattle.std.specs.BTreeMap.{BTreeMap, get, IsEmpty, Updates}
use Rattle.std.specs.Ordering.{nat_cmp, is_eq}
use Rattle.std.proofs.lemmas.Bool.{cases_Bool, cases_eq}
use Rattle.std.proofs.lemmas.Grind.{common_steps}
use Rattle.blz_error.specs.declared.kind.ErrorKind.{ErrorKind}
use Rattle.blz_model.specs.Part.{Good, or_mark}
use Rattle.blz_model.specs.declared.byte_order.ByteOrder.{ByteOrder}
use Rattle.blz_split.specs.declared.tables.Tables.{Tables}
use Rattle.blz_split.specs.Contributions.{first_in, id_of, is_slot_of, row_of}
use Rattle.blz_split.specs.IndexRows.{HasRows}

-- what is found passes
pub first_passes : (test : ℕ → Bool) (n at slot : ℕ) → first_in test n at ≡ Some slot → test slot ≡ true
unfolding first_in
first_passes test zero at slot e = absurd cc
first_passes test (suc n) at slot e = elim (cases_Bool (test at)) [
  | inl hit ↦ let m : Some at ≡ Some slot = rw hit at e in let same : at ≡ slot = cc in rw (← same) hit
  | inr miss ↦ first_passes test n (at + 1) slot (rw miss at e)
]

is_eq-apart : (x y : ℕ) → x ≢ y → is_eq (nat_cmp x y) ≡ false
is_eq-apart x y ne = grind (arith, common_steps)

module _ (order : ByteOrder) (index : List ℕ) (t : Tables) where
  pub no_rows : (at : ℕ) (rows : BTreeMap ℕ ℕ) → IsEmpty rows → HasRows order index t zero at rows
  unfolding first_in
  no_rows at rows empty = λ id. rw empty refl

  passes : (slot id : ℕ) → id_of order index slot ≡ id → 0 < row_of order index t slot → is_slot_of order index t id slot ≡ true
  passes slot id same row = grind (arith, same, row)

  fails_by_row : (slot id : ℕ) → row_of order index t slot ≡ 0 → is_slot_of order index t id slot ≡ false
  fails_by_row slot id none = grind (arith, none)

  fails_by_id : (slot id : ℕ) → id_of order index slot ≢ id → is_slot_of order index t id slot ≡ false
  fails_by_id slot id other = grind (arith, other)

  -- a slot without a row is nobody's
  pub slot_passed : (n slot : ℕ) (rows : BTreeMap ℕ ℕ) → row_of order index t slot ≡ 0 → HasRows order index t n (slot + 1) rows → HasRows order index t (suc n) slot rows
  unfolding first_in
  slot_passed n slot rows none has = λ id. rw (fails_by_row slot id none) (has id)

  -- one with a row is its id's, and no other's
  pub slot_noted : (n slot : ℕ) (old new : BTreeMap ℕ ℕ) → Updates nat_cmp old new (id_of order index slot) (Some (row_of order index t slot)) → 0 < row_of order index t slot → HasRows order index t n (slot + 1) old → HasRows order index t (suc n) slot new
  unfolding first_in
  slot_noted n slot old new u row has = λ id. elim (cases_eq (id_of order index slot) id) [
    | inl same ↦ rw (passes slot id same row) (rw (← same) u.1)
    | inr other ↦ rw (fails_by_id slot id other) (rw (u.2 id (is_eq-apart (id_of order index slot) id other)) (has id))
  ]

  pub next_rows : (slots n : ℕ) (old new : BTreeMap ℕ ℕ) → n < slots → (HasRows order index t n (slots - 1 - n + 1) old → HasRows order index t (suc n) (slots - 1 - n) new) → HasRows order index t n (slots - n) old → HasRows order index t (n + 1) (slots - (n + 1)) new
  next_rows slots n old new lt step has =
      let up : slots - n ≡ slots - 1 - n + 1 = omega arith in
      let down : slots - (n + 1) ≡ slots - 1 - n = omega arith in
      let more : n + 1 ≡ suc n = omega arith in
      rw (down, more) (step (rw up at has))

  row_passes : (slot id : ℕ) → is_slot_of order index t id slot ≡ true → 0 < row_of order index t slot
  row_passes slot id passed = grind (arith, passed)

  counts_by : (n at id : ℕ) (o : Option ℕ) → first_in (is_slot_of order index t id) n at ≡ o → IfSome (option_map (row_of order index t) o) (λ r. 0 < r)
  counts_by n at id None e = tt
  counts_by n at id (Some slot) e = row_passes slot id (first_passes (is_slot_of order index t id) n at slot e)

  -- no row that is noted is 0
  pub rows_count : (n at id : ℕ) (rows : BTreeMap ℕ ℕ) → HasRows order index t n at rows → IfSome (get nat_cmp rows id) (λ r. 0 < r)
  rows_count n at id rows has = rw (has id) (counts_by n at id (first_in (is_slot_of order index t id) n at) refl)

pub tables_there : (o : Option Tables) (t : Tables) (k : ErrorKind) → or_mark o k ≡ Good t → o ≡ Some t
tables_there None t k e = absurd cc
tables_there (Some x) t k e = cc
