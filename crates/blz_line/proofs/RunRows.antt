-- What holds of the rows of every sequence, where no opcode takes it from the rows of the one that is open.
use Rattle.std.proofs.Common.{◌≡◌, ℕ, zero, suc, ◌+◌, ◌≤◌, Bool, true, false, cond, ltb, eqb, ◌||◌, List, [], ◌∷◌, length, Option, Some, refl, subst, arith}
use Rattle.std.specs.List.{All}
use Rattle.std.proofs.lemmas.List.Elements.{All-append}
use Rattle.blz_info.specs.Contents.{Contents}
use Rattle.blz_line.specs.declared.row.LineRow.{LineRow}
use Rattle.blz_line.specs.declared.rules.Rules.{Rules}
use Rattle.blz_line.specs.declared.opcode.Op.{Op}
use Rattle.blz_line.specs.declared.opcode.Op.TheVariants.{Special, Copy, AdvancePc, AdvanceLine, SetFile, SetColumn, Nothing, ConstAddPc, FixedAdvancePc, EndSequence, SetAddress, DefineFile}
use Rattle.blz_line.specs.Registers.{moved_by}
use Rattle.blz_line.specs.Sequences.{Sequence}
use Rattle.blz_line.specs.Program.{State, row_of, with_row, makes_row, closed_by, ended, noted, step, run_in, run_from}
use Rattle.blz_line.specs.Opcodes.{op_at}
use Rattle.blz_line.proofs.MovedUp.{bound, moved_up}

-- of the open sequence's rows up to the address, and of the rows of each that is closed
record Keeps (Open : ℕ → List LineRow → Type 0) (Closed : List LineRow → Type 0) (s : State) : Type 0 where
  pub rows : Open s.registers.address s.rows
  pub sequences : All (λ (q : Sequence). Closed q.rows) s.sequences

no_sequences : (P : Sequence → Type 0) → All P []
no_sequences P = λ k d lt. absurd (omega arith)

one_sequence : (P : Sequence → Type 0) (q : Sequence) → P q → All P (q ∷ [])
one_sequence P q h zero d lt = h
one_sequence P q h (suc k) d lt = absurd (omega arith)

either_all : (P : Sequence → Type 0) (b : Bool) (xs ys : List Sequence) → All P xs → All P ys → All P (cond b xs ys)
either_all P true xs ys h k = h
either_all P false xs ys h k = k

either : (P : State → Type 0) (b : Bool) (s t : State) → P s → P t → P (cond b s t)
either P true s t h k = h
either P false s t h k = k

either_state : (P : State → Type 0) (b : Bool) (x y : Option State) (t : State) → (x ≡ Some t → P t) → (y ≡ Some t → P t) → cond b x y ≡ Some t → P t
either_state P true x y t h k e = h e
either_state P false x y t h k e = k e

same_state : (P : State → Type 0) (s t : State) → Some s ≡ Some t → P s → P t
same_state P s t e h = let same : s ≡ t = cc in subst P same h

module _ (Open : ℕ → List LineRow → Type 0) (Closed : List LineRow → Type 0) (none : (a : ℕ) → Open a []) (raised : (a b : ℕ) (rows : List LineRow) → a ≤ b → Open a rows → Open b rows) (added : (a : ℕ) (rows : List LineRow) (row : LineRow) → Open a rows → row.address ≡ a → Open a (with_row rows row)) (closes : (a : ℕ) (rows : List LineRow) → Open a rows → Closed rows) where
  made : (s : State) → Keeps Open Closed s → Keeps Open Closed (makes_row s)
  made s h = either (Keeps Open Closed) s.registers.skipping s _ h (record { rows = added s.registers.address s.rows (row_of s.registers) h.rows refl; sequences = h.sequences })

  closed : (s : State) → Keeps Open Closed s → All (λ (q : Sequence). Closed q.rows) (closed_by s)
  closed s h =
      let P : Sequence → Type 0 = λ q. Closed q.rows in
      either_all P (s.registers.skipping || eqb (length s.rows) 0) [] _ (no_sequences P) (one_sequence P _ (closes s.registers.address s.rows h.rows))

  all_ended : (s : State) → Keeps Open Closed s → Keeps Open Closed (ended s)
  unfolding ended
  all_ended s h = record {
    rows = none 0;
    sequences = All-append (λ (q : Sequence). Closed q.rows) s.sequences (closed_by s) h.sequences (closed s h);
  }

  noted_keeps : (op : Op) (s : State) → Keeps Open Closed s → Keeps Open Closed (noted op s)
  noted_keeps (Special code) s h = made s h
  noted_keeps Copy s h = made s h
  noted_keeps EndSequence s h = all_ended s h
  noted_keeps (DefineFile file) s h = record { rows = h.rows; sequences = h.sequences }
  noted_keeps (AdvancePc count) s h = h
  noted_keeps (AdvanceLine by) s h = h
  noted_keeps (SetFile file) s h = h
  noted_keeps (SetColumn column) s h = h
  noted_keeps Nothing s h = h
  noted_keeps ConstAddPc s h = h
  noted_keeps (FixedAdvancePc by) s h = h
  noted_keeps (SetAddress a) s h = h

  step_keeps : (r : Rules) (s t : State) (op : Op) → step r s op ≡ Some t → Keeps Open Closed s → Keeps Open Closed t
  unfolding step
  step_keeps r s t op e h =
      let b = bound (moved_by r s.registers op) _ t e in
      let le = moved_up r s.registers b.0 op b.1 in
      same_state (Keeps Open Closed) _ t b.2 (noted_keeps op _ (record { rows = raised s.registers.address b.0.address s.rows le h.rows; sequences = h.sequences }))

  run_in-keeps : (r : Rules) (counts : List ℕ) (c : Contents) (n : ℕ) (s t : State) (place : ℕ) → run_in r counts c n s place ≡ Some t → Keeps Open Closed s → Keeps Open Closed t
  unfolding run_in
  run_in-keeps r counts c zero s t place e h = absurd cc
  run_in-keeps r counts c (suc n) s t place e h =
      either_state (Keeps Open Closed) (ltb place (length c.bytes)) _ (Some s) t
      (λ more.
      let read = bound (op_at r counts c place) _ t more in
      let stepped = bound (step r s read.0.0) _ t read.2 in
      run_in-keeps r counts c n stepped.0 t read.0.1 stepped.2 (step_keeps r s stepped.0 read.0.0 stepped.1 h))
      (λ done. same_state (Keeps Open Closed) s t done h) e

  pub run_from-keeps : (r : Rules) (counts : List ℕ) (c : Contents) (s t : State) (place : ℕ) → run_from r counts c s place ≡ Some t → s.rows ≡ [] → s.sequences ≡ [] → All (λ (q : Sequence). Closed q.rows) t.sequences
  unfolding run_from
  run_from-keeps r counts c s t place e no_rows nothing =
      let start : Keeps Open Closed s = record { rows = rw no_rows (none s.registers.address); sequences = rw nothing (no_sequences (λ (q : Sequence). Closed q.rows)) } in
      (run_in-keeps r counts c (length c.bytes + 1) s t place e start).sequences
