-- One more opcode of a program.
use Rattle.std.proofs.Common.{◌≡◌, ℕ, suc, ◌<◌, ◌≤◌, length, List, Option, Some, None, refl, sym, ap}
use Rattle.std.proofs.lemmas.Bool.{lt-ltb, le-ltb}
use Rattle.blz_error.specs.declared.kind.ErrorKind.{ErrorKind}
use Rattle.blz_error.specs.declared.kind.ErrorKind.TheVariants.{InvalidDwarf}
use Rattle.blz_model.specs.Part.{Broken, Fails, or_mark}
use Rattle.blz_model.specs.LebNumbers.{uleb}
use Rattle.blz_model.specs.Reads.{◌>>=◌}
use Rattle.blz_info.specs.Contents.{Contents}
use Rattle.blz_line.specs.declared.rules.Rules.{Rules}
use Rattle.blz_line.specs.declared.opcode.Op.{Op}
use Rattle.blz_line.specs.Opcodes.{ulebs_passed, op_at}
use Rattle.blz_line.specs.Program.{Given, State, noted, state_of, step, run_in}
use Rattle.blz_line.specs.Registers.{moved_by}
use Rattle.blz_line.specs.declared.registers.Registers.{Registers}

pub ulebs_more : (m n : ℕ) (bytes : List ℕ) (at u next : ℕ) → m ≡ suc n → uleb bytes at ≡ Some (u, next) → ulebs_passed m bytes at ≡ ulebs_passed n bytes next
unfolding ulebs_passed
ulebs_more m n bytes at u next e h = rw (e, h) refl

pub ulebs_none : (m n : ℕ) (bytes : List ℕ) (at : ℕ) → m ≡ suc n → uleb bytes at ≡ None → ulebs_passed m bytes at ≡ None
unfolding ulebs_passed
ulebs_none m n bytes at e h = rw (e, h) refl

pub ulebs_end : (m : ℕ) (bytes : List ℕ) (at : ℕ) → m ≡ 0 → ulebs_passed m bytes at ≡ Some at
unfolding ulebs_passed
ulebs_end m bytes at e = rw e refl

-- a step by the registers and by what stands beside them
pub step_given : (r : Rules) (registers moved next : Registers) (old new : Given) (op : Op) → moved_by r registers op ≡ Some moved → state_of next new ≡ noted op (state_of moved old) → step r (state_of registers old) op ≡ Some (state_of next new)
unfolding step
step_given r registers moved next old new op e h = rw e (ap (λ (s : State). Some s) (sym h))

pub step_none : (r : Rules) (registers : Registers) (old : Given) (op : Op) → moved_by r registers op ≡ None → step r (state_of registers old) op ≡ None
unfolding step
step_none r registers old op e = rw e refl

pub run_more : (r : Rules) (counts : List ℕ) (s : Contents) (m n at next : ℕ) (op : Op) (old new : State) → m ≡ suc n → at < length s.bytes → op_at r counts s at ≡ Some (op, next) → step r old op ≡ Some new → run_in r counts s m old at ≡ run_in r counts s n new next
unfolding run_in
run_more r counts s m n at next op old new e lt h k = let t = lt-ltb at (length s.bytes) lt in rw (e, t, h, k) refl

pub run_stuck : (r : Rules) (counts : List ℕ) (s : Contents) (m n at next : ℕ) (op : Op) (old : State) → m ≡ suc n → at < length s.bytes → op_at r counts s at ≡ Some (op, next) → step r old op ≡ None → run_in r counts s m old at ≡ None
unfolding run_in
run_stuck r counts s m n at next op old e lt h k = let t = lt-ltb at (length s.bytes) lt in rw (e, t, h, k) refl

pub run_none : (r : Rules) (counts : List ℕ) (s : Contents) (m n at : ℕ) (old : State) → m ≡ suc n → at < length s.bytes → op_at r counts s at ≡ None → run_in r counts s m old at ≡ None
unfolding run_in
run_none r counts s m n at old e lt h = let t = lt-ltb at (length s.bytes) lt in rw (e, t, h) refl

-- what refuses a first step refuses the whole
pub stopped : {A B : Type 0} (o : Option A) (k : ErrorKind) → Fails k (or_mark o InvalidDwarf) → (rest : A → Option B) → Fails k (or_mark (o >>= rest) InvalidDwarf)
stopped None k h rest = λ ne. let e = h ne in let same : InvalidDwarf ≡ k = cc in ap Broken same
stopped (Some s) k h rest = λ ne. let e = h ne in absurd cc

-- no value is the mark InvalidDwarf
pub fails_none : {A : Type 0} (o : Option A) (k : ErrorKind) → k ≡ InvalidDwarf → o ≡ None → Fails k (or_mark o InvalidDwarf)
fails_none o k e h = λ ne. rw (h, e) refl

pub run_fails : (r : Rules) (counts : List ℕ) (s : Contents) (m n at next : ℕ) (op : Op) (old : State) (k : ErrorKind) (total : Option State) → m ≡ suc n → at < length s.bytes → op_at r counts s at ≡ Some (op, next) → Fails k (or_mark (step r old op) InvalidDwarf) → run_in r counts s m old at ≡ total → Fails k (or_mark total InvalidDwarf)
unfolding run_in
run_fails r counts s m n at next op old k total em lt h fails so =
    let t = lt-ltb at (length s.bytes) lt in
    rw (← so, em, t, h) (stopped (step r old op) k fails (λ next-state. run_in r counts s n next-state next))

pub run_done : (r : Rules) (counts : List ℕ) (s : Contents) (m n at : ℕ) (old : State) → m ≡ suc n → length s.bytes ≤ at → run_in r counts s m old at ≡ Some old
unfolding run_in
run_done r counts s m n at old e le = let f = le-ltb at (length s.bytes) le in rw (e, f) refl
