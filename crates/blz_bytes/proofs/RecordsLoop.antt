-- Records of one size, one after another.
use Rattle.std.proofs.Common.{◌≡◌, ℕ, suc, ◌+◌, ◌*◌, ◌≤◌, ◌<◌, List, [], ◌∷◌, ◌++◌, length, take, drop, None, refl, sym, ◌∙◌, append_assoc, arith}
use Rattle.std.proofs.lemmas.Bool.{lt-leb}
use Rattle.std.proofs.lemmas.List.{append-nil, drop-drop}
use Rattle.blz_model.specs.declared.byte_order.ByteOrder.{ByteOrder}
use Rattle.blz_bytes.specs.Records.{values_in, pods}

pub values_on : {A : Type 0} (value : List ℕ → A) (size m n at next : ℕ) (front : List A) (bytes : List ℕ) (total : List A) → m ≡ suc n → next ≡ at + size → front ++ values_in value size m (drop at bytes) ≡ total → (front ++ value (take size (drop at bytes)) ∷ []) ++ values_in value size n (drop next bytes) ≡ total
values_on value size m n at next front bytes total em en so_far =
    let rest = drop at bytes in
    let moved : drop size rest ≡ drop next bytes = rw en (drop-drop size at bytes) in
    rw (← moved) (append_assoc front (value (take size rest) ∷ []) (values_in value size n (drop size rest)) ∙ (rw em at so_far))

pub values_end : {A : Type 0} (value : List ℕ → A) (size m : ℕ) (front : List A) (rest : List ℕ) (total : List A) → m ≡ 0 → front ++ values_in value size m rest ≡ total → front ≡ total
values_end value size m front rest total em so_far = sym (append-nil front) ∙ (rw em at so_far)

pub room_for_one : (size m n at all : ℕ) → m ≡ suc n → at + m * size ≡ all → (at + size ≤ all) × (at + size + n * size ≡ all)
room_for_one size m n at all em left =
    let one : m * size ≡ size + n * size = rw em (omega arith) in
    (omega arith, omega arith)

pub none_left : {A : Type 0} (value : ByteOrder → List ℕ → A) (size n : ℕ) (order : ByteOrder) (bytes : List ℕ) (at : ℕ) → length bytes < n * size → pods value size n order bytes at ≡ None
none_left value size n order bytes at lt = rw (lt-leb (at + n * size) (length bytes) (omega arith)) refl
