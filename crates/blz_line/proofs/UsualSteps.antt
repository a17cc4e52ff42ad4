-- The usual opcodes are steps of the run.
use Rattle.std.proofs.Common.{◌≡◌, ℕ, suc, ◌+◌, ◌-◌, ◌*◌, ◌/◌, ◌%◌, ◌<◌, ◌≤◌, Bool, true, false, cond, eqb, leb, length, slice_index, List, Option, Some, ◌+ℤ◌, pos, refl, sym, ap, ◌∙◌, arith}
use Rattle.std.proofs.lemmas.Bool.{eqb-true, le-leb, lt-leb}
use Rattle.std.proofs.Math.Nat.{div-one, mod-one}
use Rattle.blz_model.specs.Reads.{◌>>=◌}
use Rattle.blz_model.specs.LebNumbers.{uleb, sleb}
use Rattle.blz_info.specs.Contents.{Contents}
use Rattle.blz_line.specs.declared.rules.Rules.{Rules}
use Rattle.blz_line.specs.declared.registers.Registers.{Registers}
use Rattle.blz_line.specs.declared.program.usual.Changed.{Changed}
use Rattle.blz_line.specs.declared.opcode.Op.{Op}
use Rattle.blz_line.specs.declared.opcode.Op.TheVariants.{Special, Copy, AdvanceLine, SetFile, SetColumn, Nothing}
use Rattle.blz_line.specs.Opcodes.{standard_at, op_at}
use Rattle.blz_line.specs.Program.{Given, State, state_of, makes_row, noted, step, run_in}
use Rattle.blz_line.specs.Registers.{greatest, advanced, line_plus, special, moved_by}
use Rattle.blz_line.specs.Usual.{plain, row_by, set_by, GoesOn, Leaves}
use Rattle.blz_line.proofs.MovedUp.{bound}
use Rattle.blz_line.proofs.ProgramSteps.{step_given, run_more}

if_some : {P X : Type 0} (b : Bool) (x y : Option X) (t : X) → (b ≡ true → x ≡ Some t → P) → (b ≡ false → y ≡ Some t → P) → cond b x y ≡ Some t → P
if_some true x y t h k e = h refl e
if_some false x y t h k e = k refl e

-- an opcode of some bytes, where the bytes of its operands are there, which makes a row or nothing
record IsUsual (r : Rules) (bytes : List ℕ) (code at next : ℕ) (g h : Registers) (row : Bool) : Type 0 where
  pub op : Op
  pub read : (counts : List ℕ) (s : Contents) → s.bytes ≡ bytes → cond (leb r.opcode_base code) (Some (Special (code - r.opcode_base), at)) (standard_at r counts s code at) ≡ Some (op, next)
  pub moves : moved_by r g op ≡ Some h
  pub notes : (t : State) → noted op t ≡ cond row (makes_row t) t

-- ---- an opcode that makes a row

copy_read : (r : Rules) (counts : List ℕ) (s : Contents) (code at : ℕ) → code ≡ 1 → standard_at r counts s code at ≡ Some (Copy, at)
unfolding standard_at
copy_read r counts s code at e = rw e refl

row_usual : (r : Rules) (bytes : List ℕ) (code at : ℕ) (g h : Registers) → row_by r g code ≡ Some h → IsUsual r bytes code at at g h true
unfolding row_by
row_usual r bytes code at g h e =
    if_some (leb r.opcode_base code) _ _ h
    (λ t some. record { op = Special (code - r.opcode_base); read = λ counts s same. rw t refl; moves = some; notes = λ t. refl })
    (λ f more. if_some (eqb code 1) _ _ h
    (λ t some. record { op = Copy; read = λ counts s same. rw f (copy_read r counts s code at (eqb-true code 1 t)); moves = some; notes = λ t. refl })
    (λ _ none. absurd cc) more)
    e

-- ---- an opcode that sets something

-- the place and the registers of what was set
set_same : (c m : Changed) (at next : ℕ) → ◌≡◌ {A = Option (Changed × ℕ)} (Some (c, at)) (Some (m, next)) → (c ≡ m) × (at ≡ next)
set_same c m at next e = let p : (c, at) ≡ (m, next) = cc in (ap (λ (x : Changed × ℕ). x.0) p, ap (λ (x : Changed × ℕ). x.1) p)

read_then : {A : Type 0} (o : Option (A × ℕ)) (n : A × ℕ) (make : A → Op) (next : ℕ) → o ≡ Some n → n.1 ≡ next → ◌≡◌ {A = Option (Op × ℕ)} (o >>= λ k. Some (make k.0, k.1)) (Some (make n.0, next))
read_then o n make next e q = rw (e, q) refl

-- an opcode with a number, by what it is, what it changes and that it makes nothing
set_number : {A : Type 0} (r : Rules) (bytes : List ℕ) (code at next : ℕ) (c m : Changed) (o : Option (A × ℕ)) (make : A → Op) (change : A → Changed) → ((counts : List ℕ) (s : Contents) → s.bytes ≡ bytes → standard_at r counts s code at ≡ (o >>= λ n. Some (make n.0, n.1))) → ((n : A) → moved_by r (plain c) (make n) ≡ Some (plain (change n))) → ((n : A) (t : State) → noted (make n) t ≡ t) → ◌≡◌ {A = Option (Changed × ℕ)} (o >>= λ n. Some (change n.0, n.1)) (Some (m, next)) → leb r.opcode_base code ≡ false → IsUsual r bytes code at next (plain c) (plain m) false
set_number r bytes code at next c m o make change reads moves notes e f =
    let b = bound o _ (m, next) e in
    let q = set_same (change b.0.0) m b.0.1 next b.2 in
    record {
      op = make b.0.0;
      read = λ counts s same. rw f (reads counts s same ∙ read_then o b.0 make next b.1 q.1);
      moves = moves b.0.0 ∙ ap (λ (x : Changed). Some (plain x)) q.0;
      notes = notes b.0.0;
    }

set_flag : (r : Rules) (bytes : List ℕ) (code at next : ℕ) (c m : Changed) → ◌≡◌ {A = Option (Changed × ℕ)} (Some (c, at)) (Some (m, next)) → code ≡ 6 → leb r.opcode_base code ≡ false → IsUsual r bytes code at next (plain c) (plain m) false
unfolding standard_at moved_by
set_flag r bytes code at next c m e is f =
    let q = set_same c m at next e in
    record {
      op = Nothing;
      read = λ counts s same. rw (f, is, q.1) refl;
      moves = ap (λ (x : Changed). Some (plain x)) q.0;
      notes = λ t. refl;
    }

set_usual : (r : Rules) (bytes : List ℕ) (code at next : ℕ) (c m : Changed) → set_by c code bytes at ≡ Some (m, next) → leb r.opcode_base code ≡ false → IsUsual r bytes code at next (plain c) (plain m) false
unfolding set_by standard_at moved_by
set_usual r bytes code at next c m e f =
    if_some (eqb code 5) _ _ (m, next)
    (λ t some. let is = eqb-true code 5 t in set_number r bytes code at next c m (uleb bytes at) (λ n. SetColumn n) (λ n. record c { column = n }) (λ counts s same. rw (is, same) refl) (λ n. refl) (λ n state. refl) some f)
    (λ _ more. if_some (eqb code 3) _ _ (m, next)
    (λ t some. let is = eqb-true code 3 t in set_number r bytes code at next c m (sleb bytes at) (λ n. AdvanceLine n) (λ n. record c { line = line_plus c.line n }) (λ counts s same. rw (is, same) refl) (λ n. refl) (λ n state. refl) some f)
    (λ _ more. if_some (eqb code 4) _ _ (m, next)
    (λ t some. let is = eqb-true code 4 t in set_number r bytes code at next c m (uleb bytes at) (λ n. SetFile n) (λ n. record c { file = n }) (λ counts s same. rw (is, same) refl) (λ n. refl) (λ n state. refl) some f)
    (λ _ more. if_some (eqb code 6) _ _ (m, next) (λ t some. set_flag r bytes code at next c m some (eqb-true code 6 t) f)
    (λ _ none. absurd cc) more) more) more)
    e

-- ---- one more

op_read : (r : Rules) (counts bytes : List ℕ) (s : Contents) (at : ℕ) → s.bytes ≡ bytes → at < length bytes → op_at r counts s at ≡ cond (leb r.opcode_base (slice_index bytes at)) (Some (Special (slice_index bytes at - r.opcode_base), at + 1)) (standard_at r counts s (slice_index bytes at) (at + 1))
unfolding op_at
op_read r counts bytes s at same lt = let t = le-leb (at + 1) (length bytes) (omega arith) in rw (same, t) refl

usual_more : (r : Rules) (bytes : List ℕ) (first : State) (at : ℕ) (g h : Registers) (old new : Given) (mid next : ℕ) (row : Bool) → IsUsual r bytes (slice_index bytes mid) (mid + 1) next g h row → state_of h new ≡ cond row (makes_row (state_of h old)) (state_of h old) → mid < length bytes → mid < next → next ≤ length bytes → GoesOn r bytes first at (state_of g old) mid → GoesOn r bytes first at (state_of h new) next
usual_more r bytes first at g h old new mid next row u made lt ahead within before = record {
  within = within;
  steps = suc before.steps;
  few = let few = before.few in omega (arith, few);
  same = λ counts s n same.
      let shorter : mid < length s.bytes = rw same lt in
      let read : op_at r counts s mid ≡ Some (u.op, next) = op_read r counts bytes s mid same lt ∙ u.read counts s same in
      ap (λ k. run_in r counts s k first at) (omega arith) ∙ before.same counts s (suc n) same ∙ run_more r counts s (suc n) n mid next u.op (state_of g old) (state_of h new) refl shorter read (step_given r g h h old new u.op u.moves (made ∙ sym (u.notes (state_of h old))));
}

pub row_more : (r : Rules) (bytes : List ℕ) (first : State) (at : ℕ) (g h : Registers) (old new : Given) (mid : ℕ) → row_by r g (slice_index bytes mid) ≡ Some h → state_of h new ≡ makes_row (state_of h old) → mid < length bytes → GoesOn r bytes first at (state_of g old) mid → GoesOn r bytes first at (state_of h new) (mid + 1)
row_more r bytes first at g h old new mid e made lt before =
    usual_more r bytes first at g h old new mid (mid + 1) true (row_usual r bytes (slice_index bytes mid) (mid + 1) g h e) made lt (omega arith) (omega arith) before

pub set_more : (r : Rules) (bytes : List ℕ) (first : State) (at : ℕ) (c m : Changed) (given : Given) (mid next : ℕ) → set_by c (slice_index bytes mid) bytes (mid + 1) ≡ Some (m, next) → slice_index bytes mid < r.opcode_base → mid < length bytes → mid < next → next ≤ length bytes → GoesOn r bytes first at (state_of (plain c) given) mid → GoesOn r bytes first at (state_of (plain m) given) next
set_more r bytes first at c m given mid next e standard lt ahead within before =
    let f = lt-leb r.opcode_base (slice_index bytes mid) standard in
    usual_more r bytes first at (plain c) (plain m) given given mid next false (set_usual r bytes (slice_index bytes mid) (mid + 1) next c m e f) refl lt ahead within before

-- ---- a special opcode where an instruction is one operation

whole : (n : ℕ) → (0 + n) / 1 ≡ n
whole n = div-one (0 + n) ∙ omega arith

pub special_plain : (r : Rules) (c : Changed) (code a : ℕ) → r.max_ops ≡ 1 → a ≡ c.address + r.min_length * (code / r.line_range) → a ≤ greatest r → special r (plain c) code ≡ Some (plain (record c { address = a; line = line_plus c.line (r.line_base +ℤ pos (code % r.line_range)) }))
unfolding special advanced
special_plain r c code a one is le =
    let t = le-leb a (greatest r) le in
    rw (one, whole (code / r.line_range), mod-one (0 + code / r.line_range), ← is, t) refl

-- ---- what is left of a run

pub leaves_on : (r : Rules) (counts : List ℕ) (s : Contents) (old new : State) (at next : ℕ) (wanted : Option State) → GoesOn r s.bytes old at new next → Leaves r counts s old at wanted → Leaves r counts s new next wanted
leaves_on r counts s old new at next wanted on left =
    let few = on.few in
    let within = on.within in
    let enough = left.enough in
    record {
      within = within;
      steps = left.steps - on.steps;
      enough = omega (arith, few, within, enough);
      rest = sym (on.same counts s (left.steps - on.steps) refl) ∙ ap (λ k. run_in r counts s k old at) (omega (arith, few, within, enough)) ∙ left.rest;
    }

pub leaves_less : (r : Rules) (counts : List ℕ) (s : Contents) (old new : State) (at next : ℕ) (wanted : Option State) (op : Op) → at < length s.bytes → op_at r counts s at ≡ Some (op, next) → step r old op ≡ Some new → at < next → next ≤ length s.bytes → Leaves r counts s old at wanted → Leaves r counts s new next wanted
leaves_less r counts s old new at next wanted op lt read stepped ahead within left =
    let enough = left.enough in
    record {
      within = within;
      steps = left.steps - 1;
      enough = omega (arith, enough);
      rest = sym (run_more r counts s left.steps (left.steps - 1) at next op old new (omega (arith, enough)) lt read stepped) ∙ left.rest;
    }
