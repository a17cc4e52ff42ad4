-- What a cursor stands for, and what a read of it does.
use Rattle.std.specs.Prelude.{◌≡◌, ℕ, List, Option, Some, None, Result, Ok, Err}
use Rattle.std.specs.Option.{option_map}
use Rattle.std.specs.declared.vec.Vec.{Vec}
use Rattle.blz_model.specs.declared.byte_order.ByteOrder.{ByteOrder}
use Rattle.blz_model.specs.Reads.{Read}

-- some bytes, a place in them, and the order of their numbers
pub record Reading : Type 0 where
  pub bytes : List ℕ
  pub position : ℕ
  pub order : ByteOrder

-- the place moves, and nothing else
abbrev pub moved : Reading → ℕ → Reading
moved r position = record r { position = position }

-- A read gives what stands at the position and moves behind it; where nothing can be read, all is as before.
abbrev pub Takes : {A : Type 0} → (List ℕ → ℕ → Read A) → Reading → Option A → Reading → Type 0
Takes reader old None new = (reader old.bytes old.position ≡ None) × (new ≡ old)
Takes reader old (Some x) new = (reader old.bytes old.position ≡ Some (x, new.position)) × (new ≡ moved old new.position)

-- The same for a read of a list, which may want for memory; then all is as before.
abbrev pub TakesList : {A Z E : Type 0} → (List ℕ → ℕ → Read (List A)) → Reading → Result (Option (Vec A Z)) E → Reading → Type 0
TakesList reader old (Ok read) new = Takes reader old (option_map (λ v. v.items) read) new
TakesList reader old (Err e) new = new ≡ old
