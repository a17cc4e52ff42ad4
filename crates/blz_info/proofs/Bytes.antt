-- Fields of a section: a number of one byte is that byte in both orders, and nothing stands past the end.
use Rattle.std.proofs.Common.{◌≡◌, ◌<◌, ℕ, ◌+◌, Bool, List, length, eqb, None, refl, inl, inr, arith}
use Rattle.std.proofs.lemmas.Bool.{cases_Bool, lt-leb}
use Rattle.blz_model.specs.declared.byte_order.ByteOrder.{ByteOrder}
use Rattle.blz_model.specs.declared.byte_order.ByteOrder.TheVariants.{Little, Big}
use Rattle.blz_model.specs.Reads.{number}
use Rattle.blz_bytes.specs.Pieces.{byte}
use Rattle.blz_info.specs.Contents.{Contents, moved_number, address_at, offset_at, offset_len}

pub number_of_one : (order : ByteOrder) (bytes : List ℕ) (at : ℕ) → number order 1 bytes at ≡ byte bytes at
number_of_one Little bytes at = grind arith
number_of_one Big bytes at = grind arith

pub number_past : (n : ℕ) (s : Contents) (at : ℕ) → length s.bytes < at → moved_number n s at ≡ None
unfolding moved_number
number_past n s at lt = let f = lt-leb (at + n) (length s.bytes) (omega arith) in rw f refl

pub address_past : (size : ℕ) (s : Contents) (at : ℕ) → length s.bytes < at → address_at size s at ≡ None
unfolding address_at
address_past size s at lt = elim (cases_Bool (eqb size 4)) [
  | inl four ↦ rw four (number_past 4 s at lt)
  | inr other ↦ elim (cases_Bool (eqb size 8)) [
    | inl eight ↦ rw (other, eight) (number_past 8 s at lt)
    | inr none ↦ rw (other, none) refl
  ]
]

pub offset_past : (wide : Bool) (s : Contents) (at : ℕ) → length s.bytes < at → offset_at wide s at ≡ None
unfolding offset_at
offset_past wide s at lt = number_past (offset_len wide) s at lt
