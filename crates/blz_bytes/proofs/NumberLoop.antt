-- A number that is made from its greatest byte down.
use Rattle.std.proofs.Common.{◌≡◌, ℕ, suc, ◌+◌, ◌*◌, ◌-◌, ◌^◌, ◌<◌, ◌≤◌, List, get_or, refl, ap, arith}
use Rattle.std.proofs.Math.Nat.{pow-le-pow_right, pow-suc}
use Rattle.blz_model.specs.declared.byte_order.ByteOrder.{ByteOrder}
use Rattle.blz_model.specs.declared.byte_order.ByteOrder.TheVariants.{Little, Big}
use Rattle.blz_model.specs.Numbers.{little, big, field}
use Rattle.blz_bytes.specs.Pieces.{nth_place}

-- the number of the i greatest of the n bytes at a place
abbrev pub top : ByteOrder → List ℕ → ℕ → ℕ → ℕ → ℕ
top Little bytes at n i = little bytes (at + (n - i)) i
top Big bytes at n i = big bytes at i

pub top_all : (order : ByteOrder) (bytes : List ℕ) (at n : ℕ) → top order bytes at n n ≡ field order bytes at n
top_all Little bytes at n = ap (λ (k : ℕ). little bytes k n) (omega arith)
top_all Big bytes at n = refl

pub top_more : (order : ByteOrder) (bytes : List ℕ) (at n i byte : ℕ) → i < n → byte ≡ get_or bytes (nth_place order at n i) 0 → top order bytes at n (i + 1) ≡ top order bytes at n i * 256 + byte
top_more Little bytes at n i byte lt is =
    let k : i + 1 ≡ suc i = omega arith in
    let here : at + (n - suc i) ≡ at + (n - 1 - i) = omega arith in
    let next : at + (n - 1 - i) + 1 ≡ at + (n - i) = omega arith in
    rw (k, here, next, ← is) (omega arith)
top_more Big bytes at n i byte lt is =
    let k : i + 1 ≡ suc i = omega arith in
    rw (k, ← is) (omega arith)

pub bound_more : (value byte i : ℕ) → value < 256 ^ i → byte < 256 → i < 8 → (value * 256 < 2 ^ 64) × (value * 256 + byte < 256 ^ (i + 1)) × (value * 256 + byte < 2 ^ 64)
bound_more value byte i small low lt =
    let a : 256 ^ (i + 1) ≤ 256 ^ 8 = pow-le-pow_right {n = 256} (omega arith) {i = i + 1} {j = 8} (omega arith) in
    let e : i + 1 ≡ suc i = omega arith in
    let p : 256 ^ (i + 1) ≡ 256 ^ i * 256 = rw (e, pow-suc 256 i) refl in
    (omega arith, omega arith, omega arith)
