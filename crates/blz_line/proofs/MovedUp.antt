-- No opcode of a line program lowers the address, but one that ends the sequence.
use Rattle.std.proofs.Common.{◌≡◌, ℕ, ◌+◌, ◌-◌, ◌*◌, ◌/◌, ◌%◌, ◌≤◌, Bool, true, false, cond, ltb, leb, eqb, ◌||◌, Option, Some, None, refl, ap, arith}
use Rattle.std.proofs.lemmas.Bool.{ltb-false, or_parts}
use Rattle.blz_model.specs.Reads.{◌>>=◌}
use Rattle.blz_line.specs.declared.rules.Rules.{Rules}
use Rattle.blz_line.specs.declared.registers.Registers.{Registers}
use Rattle.blz_line.specs.declared.opcode.Op.{Op}
use Rattle.blz_line.specs.declared.opcode.Op.TheVariants.{Special, Copy, AdvancePc, AdvanceLine, SetFile, SetColumn, Nothing, ConstAddPc, FixedAdvancePc, EndSequence, SetAddress, DefineFile}
use Rattle.blz_line.specs.Registers.{greatest, advanced, moved_on, set_address, special, moved_by}

up_if : (b : Bool) (x y : Option Registers) (h : Registers) (a : ℕ) → (b ≡ true → x ≡ Some h → a ≤ h.address) → (b ≡ false → y ≡ Some h → a ≤ h.address) → cond b x y ≡ Some h → a ≤ h.address
up_if true x y h a t f e = t refl e
up_if false x y h a t f e = f refl e

up_some : (g h : Registers) (a : ℕ) → a ≤ g.address → Some g ≡ Some h → a ≤ h.address
up_some g h a le e =
    let same : g ≡ h = cc in
    let q : g.address ≡ h.address = ap (λ (x : Registers). x.address) same in
    omega arith

up_none : (h : Registers) (a : ℕ) → None ≡ Some h → a ≤ h.address
up_none h a e = absurd cc

up_test : (b : Bool) (g h : Registers) (a : ℕ) → a ≤ g.address → cond b (Some g) None ≡ Some h → a ≤ h.address
up_test true g h a le e = up_some g h a le e
up_test false g h a le e = up_none h a e

advanced_up : (r : Rules) (g h : Registers) (count : ℕ) → advanced r g count ≡ Some h → g.address ≤ h.address
unfolding advanced
advanced_up r g h count e =
    let total = g.op_index + count in
    let to = g.address + r.min_length * (total / r.max_ops) in
    up_if g.skipping _ _ h g.address (λ _ some. up_some g h g.address (omega arith) some)
    (λ _ more. up_test (leb to (greatest r)) (record g { address = to; op_index = total % r.max_ops }) h g.address (omega arith) more) e

moved_on_up : (r : Rules) (g h : Registers) (by : ℕ) → moved_on r g by ≡ Some h → g.address ≤ h.address
unfolding moved_on
moved_on_up r g h by e =
    let to = g.address + by in
    up_if g.skipping _ _ h g.address (λ _ some. up_some g h g.address (omega arith) some)
    (λ _ more. up_test (leb to (greatest r)) (record g { address = to; op_index = 0 }) h g.address (omega arith) more) e

set_address_up : (r : Rules) (g h : Registers) (a : ℕ) → set_address r g a ≡ Some h → g.address ≤ h.address
unfolding set_address
set_address_up r g h a e =
    up_if (eqb a (greatest r) || ltb a g.address) _ _ h g.address (λ _ some. up_some (record g { skipping = true }) h g.address (omega arith) some)
    (λ f more.
    let le = ltb-false a g.address (or_parts (eqb a (greatest r)) (ltb a g.address) f).1 in
    up_test (leb a (greatest r)) (record g { address = a; op_index = 0; skipping = false }) h g.address le more) e

-- what is bound was there
pub bound : {A B : Type 0} (o : Option A) (f : A → Option B) (y : B) → (o >>= f) ≡ Some y → (x : A) × (o ≡ Some x) × (f x ≡ Some y)
bound None f y e = absurd cc
bound (Some x) f y e = (x, refl, e)

special_up : (r : Rules) (g h : Registers) (code : ℕ) → special r g code ≡ Some h → g.address ≤ h.address
unfolding special
special_up r g h code e =
    let b = bound (advanced r g (code / r.line_range)) _ h e in
    let le = advanced_up r g b.0 (code / r.line_range) b.1 in
    up_some _ h g.address le b.2

-- no opcode lowers the address
pub moved_up : (r : Rules) (g h : Registers) (op : Op) → moved_by r g op ≡ Some h → g.address ≤ h.address
unfolding moved_by
moved_up r g h (Special code) e = special_up r g h code e
moved_up r g h Copy e = up_some g h g.address (omega arith) e
moved_up r g h (AdvancePc count) e = advanced_up r g h count e
moved_up r g h (AdvanceLine by) e = up_some _ h g.address (omega arith) e
moved_up r g h (SetFile file) e = up_some _ h g.address (omega arith) e
moved_up r g h (SetColumn column) e = up_some _ h g.address (omega arith) e
moved_up r g h Nothing e = up_some g h g.address (omega arith) e
moved_up r g h ConstAddPc e = advanced_up r g h ((255 - r.opcode_base) / r.line_range) e
moved_up r g h (FixedAdvancePc by) e = moved_on_up r g h by e
moved_up r g h EndSequence e = up_some g h g.address (omega arith) e
moved_up r g h (SetAddress a) e = set_address_up r g h a e
moved_up r g h (DefineFile file) e = up_some g h g.address (omega arith) e
