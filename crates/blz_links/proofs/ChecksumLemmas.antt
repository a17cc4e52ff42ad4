-- The register of a checksum: xor goes through every step, and bits that are 0 fall out of it.
use Rattle.std.proofs.Common.{◌≡◌, ◌<◌, ◌≤◌, ℕ, zero, suc, ◌+◌, ◌*◌, ◌/◌, ◌%◌, ◌^◌, List, [], ◌∷◌, length, drop, get_or, refl, sym, ap, ◌∙◌, arith}
use Rattle.std.specs.Int.Bits.{bit_xor, xor_assoc, xor_zero_r, xor_shifted}
use Rattle.std.proofs.lemmas.Nat.{xor_comm, xor_mod, xor_shr}
use Rattle.std.proofs.lemmas.List.{drop_more}
use Rattle.blz_model.specs.Numbers.{little}
use Rattle.blz_links.specs.Checksums.{bit_step, bit_steps, checksum_from, polynomial}
use Rattle.blz_links.specs.ChecksumTables.{IsAfterByte, IsTable}

both : (f : ℕ → ℕ → ℕ) {a b c d : ℕ} → a ≡ b → c ≡ d → f a c ≡ f b d
both f {a} {b} {c} {d} p q = ap (λ x. f x c) p ∙ ap (λ y. f b y) q

-- a bit that is put over another, as a multiple
over_bits : (x y : ℕ) → x < 2 → y < 2 → bit_xor x y * polynomial ≡ bit_xor (x * polynomial) (y * polynomial)
over_bits zero zero hx hy = refl
over_bits zero (suc zero) hx hy = refl
over_bits zero (suc (suc y)) hx hy = omega arith
over_bits (suc zero) zero hx hy = refl
over_bits (suc zero) (suc zero) hx hy = refl
over_bits (suc zero) (suc (suc y)) hx hy = omega arith
over_bits (suc (suc x)) y hx hy = omega arith

xor_pairs : (a b c d : ℕ) → bit_xor (bit_xor a b) (bit_xor c d) ≡ bit_xor (bit_xor a c) (bit_xor b d)
xor_pairs a b c d =
    xor_assoc a b (bit_xor c d)
    ∙ ap (bit_xor a) (sym (xor_assoc b c d) ∙ ap (λ x. bit_xor x d) (xor_comm b c) ∙ xor_assoc c b d)
    ∙ sym (xor_assoc a c (bit_xor b d))

pub bit_step-xor : (a b : ℕ) → bit_step (bit_xor a b) ≡ bit_xor (bit_step a) (bit_step b)
unfolding bit_step
bit_step-xor a b =
    let halves : bit_xor a b / 2 ≡ bit_xor (a / 2) (b / 2) = xor_shr a b 1 in
    let lows : bit_xor a b % 2 ≡ bit_xor (a % 2) (b % 2) = xor_mod a b 1 in
    both bit_xor halves (ap (λ x. x * polynomial) lows ∙ over_bits (a % 2) (b % 2) (omega arith) (omega arith))
    ∙ xor_pairs (a / 2) (b / 2) (a % 2 * polynomial) (b % 2 * polynomial)

pub bit_steps-xor : (n a b : ℕ) → bit_steps n (bit_xor a b) ≡ bit_xor (bit_steps n a) (bit_steps n b)
unfolding bit_steps
bit_steps-xor zero a b = refl
bit_steps-xor (suc n) a b = ap (bit_steps n) (bit_step-xor a b) ∙ bit_steps-xor n (bit_step a) (bit_step b)

-- some steps, then others
pub bit_steps-add : (k m n r : ℕ) → k ≡ m + n → bit_steps k r ≡ bit_steps n (bit_steps m r)
unfolding bit_steps
bit_steps-add k zero n r e = let same : k ≡ n = omega arith in ap (λ i. bit_steps i r) same
bit_steps-add zero (suc m) n r e = absurd (let f : ⊥ = omega arith in f)
bit_steps-add (suc k) (suc m) n r e = bit_steps-add k m n (bit_step r) (omega arith)

bit_step-even : (a : ℕ) → bit_step (a * 2) ≡ a
unfolding bit_step
bit_step-even a =
    let half : a * 2 / 2 ≡ a = omega arith in
    let low : a * 2 % 2 ≡ 0 = omega arith in
    both bit_xor half (ap (λ x. x * polynomial) low) ∙ xor_zero_r a

-- the eight bits of a zero byte fall out
pub bit_steps-shifted : (a : ℕ) → bit_steps 8 (a * 256) ≡ a
unfolding bit_steps
bit_steps-shifted a =
    let next : (n : ℕ) → bit_step (a * (n * 2)) ≡ a * n = λ n. ap bit_step (let e : a * (n * 2) ≡ a * n * 2 = grind arith in e) ∙ bit_step-even (a * n) in
    ap (bit_steps 7) (next 128) ∙ ap (bit_steps 6) (next 64) ∙ ap (bit_steps 5) (next 32) ∙ ap (bit_steps 4) (next 16)
    ∙ ap (bit_steps 3) (next 8) ∙ ap (bit_steps 2) (next 4) ∙ ap (bit_steps 1) (next 2) ∙ next 1 ∙ (let e : a * 1 ≡ a = omega arith in e)

-- a number by its lowest byte and the others
low_over_rest : (x : ℕ) → x ≡ bit_xor (x / 256 * 256) (x % 256)
low_over_rest x =
    let parts : x ≡ x / 256 * 256 + x % 256 = omega arith in
    parts ∙ sym (xor_shifted (x / 256) 8 (x % 256) (omega arith))

-- The steps of a number are those of its lowest byte, over those of the others, which come eight steps later.
pub bit_steps-low : (k m x : ℕ) → k ≡ 8 + m → bit_steps k x ≡ bit_xor (bit_steps m (x / 256)) (bit_steps k (x % 256))
bit_steps-low k m x e =
    ap (bit_steps k) (low_over_rest x) ∙ bit_steps-xor k (x / 256 * 256) (x % 256)
    ∙ ap (λ high. bit_xor high (bit_steps k (x % 256))) (bit_steps-add k 8 m (x / 256 * 256) e ∙ ap (bit_steps m) (bit_steps-shifted (x / 256)))

-- n bytes from a place on at once
pub checksum_from-little : (n at r : ℕ) (bytes : List ℕ) → at + n ≤ length bytes → ((k : ℕ) → get_or bytes k 0 < 256)
    → checksum_from r (drop at bytes) ≡ checksum_from (bit_steps (8 * n) (bit_xor r (little bytes at n))) (drop (at + n) bytes)
unfolding checksum_from bit_steps
checksum_from-little zero at r bytes inside small =
    both (λ i j. checksum_from j (drop i bytes)) (let e : at ≡ at + 0 = omega arith in e) (sym (xor_zero_r r))
checksum_from-little (suc n) at r bytes inside small =
    let byte = get_or bytes at 0 in
    let rest = little bytes (at + 1) n in
    let seen : drop at bytes ≡ byte ∷ drop (at + 1) bytes = drop_more bytes at 0 (omega arith) in
    let mixed : bit_xor r (byte + 256 * rest) ≡ bit_xor (bit_xor r byte) (rest * 256) =
    ap (bit_xor r) ((let e : byte + 256 * rest ≡ rest * 256 + byte = omega arith in e) ∙ sym (xor_shifted rest 8 byte (small at)) ∙ xor_comm (rest * 256) byte)
    ∙ sym (xor_assoc r byte (rest * 256)) in
    let stepped : bit_steps (8 * suc n) (bit_xor r (byte + 256 * rest)) ≡ bit_steps (8 * n) (bit_xor (bit_steps 8 (bit_xor r byte)) rest) =
    ap (bit_steps (8 * suc n)) mixed ∙ bit_steps-add (8 * suc n) 8 (8 * n) (bit_xor (bit_xor r byte) (rest * 256)) (omega arith)
    ∙ ap (bit_steps (8 * n)) (bit_steps-xor 8 (bit_xor r byte) (rest * 256) ∙ ap (bit_xor (bit_steps 8 (bit_xor r byte))) (bit_steps-shifted rest)) in
    ap (checksum_from r) seen
    ∙ checksum_from-little n (at + 1) (bit_steps 8 (bit_xor r byte)) bytes (omega arith) small
    ∙ both (λ i j. checksum_from j (drop i bytes)) (let e : at + 1 + n ≡ at + suc n = omega arith in e) (sym stepped)

-- one step of many, and no step
pub bit_steps-suc : (n m r : ℕ) → n ≡ m + 1 → bit_steps n r ≡ bit_steps m (bit_step r)
unfolding bit_steps
bit_steps-suc zero m r e = absurd (let f : ⊥ = omega arith in f)
bit_steps-suc (suc n) m r e = let same : n ≡ m = omega arith in ap (λ k. bit_steps k (bit_step r)) same

pub bit_steps-none : (n r : ℕ) → n ≡ 0 → bit_steps n r ≡ r
unfolding bit_steps
bit_steps-none zero r e = refl
bit_steps-none (suc n) r e = absurd (let f : ⊥ = omega arith in f)

-- one byte: the lowest one by a table, the others as they are
pub bit_steps-byte : (x : ℕ) → bit_steps 8 x ≡ bit_xor (x / 256) (bit_steps 8 (x % 256))
bit_steps-byte x = bit_steps-low 8 0 x refl ∙ ap (λ high. bit_xor high (bit_steps 8 (x % 256))) (bit_steps-none 0 (x / 256) refl)

-- one byte of several
pub bit_steps-over : (k m x high low : ℕ) → k ≡ 8 + m → high ≡ bit_steps m (x / 256) → low ≡ bit_steps k (x % 256) → bit_xor high low ≡ bit_steps k x
bit_steps-over k m x high low e h l = both bit_xor h l ∙ sym (bit_steps-low k m x e)

-- a byte more
pub checksum_from-cons : (r byte : ℕ) (bytes : List ℕ) → checksum_from r (byte ∷ bytes) ≡ checksum_from (bit_steps 8 (bit_xor r byte)) bytes
unfolding checksum_from
checksum_from-cons r byte bytes = refl

pub checksum_from-nil : (r : ℕ) (bytes : List ℕ) → length bytes ≡ 0 → checksum_from r bytes ≡ r
unfolding checksum_from
checksum_from-nil r [] e = refl
checksum_from-nil r (b ∷ bs) e = absurd (let f : ⊥ = omega arith in f)

-- ---- by tables

pub at_byte : (bits word index : ℕ) (table : List ℕ) → IsTable bits table → index ≡ word % 256 → get_or table index 0 ≡ bit_steps bits (word % 256)
at_byte bits word index table is e = ap (λ i. get_or table i 0) e ∙ is (word % 256) (omega arith)

pub IsTable-later : (bits later : ℕ) (before after : List ℕ) → later ≡ bits + 8 → IsTable bits before → IsAfterByte before after → IsTable later after
IsTable-later bits later before after e is next byte lt = next byte lt ∙ ap (bit_steps 8) (is byte lt) ∙ sym (bit_steps-add later bits 8 byte e)

pub last_byte : (x : ℕ) → x < 2 ^ 64 → x / 256 / 256 / 256 / 256 / 256 / 256 / 256 % 256 ≡ x / 256 / 256 / 256 / 256 / 256 / 256 / 256
last_byte x small = omega arith
