-- Keys that compare as equal are one.
use Rattle.std.proofs.Common.{◌≡◌, ℕ, Bool, true, false, Ordering, Less, Equal, Greater, refl}
use Rattle.std.specs.Ordering.{bool_cmp, nat_cmp, ordering_then}
use Rattle.std.proofs.lemmas.Map.Lookups.{CmpEqualImpliesEq, exact_unsigned}
use Rattle.blz_units.specs.SharedPrograms.{program_cmp}
use Rattle.blz_units.specs.contracts.shared.program_key.LinesKeyOrd.TheImpl as lines

both : (a b : Ordering) → ordering_then a b ≡ Equal → (a ≡ Equal) × (b ≡ Equal)
both Less b e = absurd cc
both Equal b e = (refl, e)
both Greater b e = absurd cc

-- one field, and what stands behind it
number : (x y : ℕ) (rest : Ordering) → ordering_then (nat_cmp x y) rest ≡ Equal → (x ≡ y) × (rest ≡ Equal)
number x y rest e = let h = both (nat_cmp x y) rest e in (exact_unsigned x y h.0, h.1)

exact_flag : CmpEqualImpliesEq bool_cmp
exact_flag false false e = refl
exact_flag false true e = absurd cc
exact_flag true false e = absurd cc
exact_flag true true e = refl

flag : (x y : Bool) (rest : Ordering) → ordering_then (bool_cmp x y) rest ≡ Equal → (x ≡ y) × (rest ≡ Equal)
flag x y rest e = let h = both (bool_cmp x y) rest e in (exact_flag x y h.0, h.1)

exact_lines : CmpEqualImpliesEq lines.ghosts.cmp
exact_lines x y e =
    let size = number x.address_size y.address_size _ e in
    let wide = flag x.wide y.wide _ size.1 in
    let base = exact_unsigned x.str_offsets_base y.str_offsets_base wide.1 in
    λ i. record { address_size = size.0 i; wide = wide.0 i; str_offsets_base = base i }

pub exact_program : CmpEqualImpliesEq program_cmp
exact_program x y e =
    let first = both (lines.ghosts.cmp x.lines y.lines) _ e in
    let lines = exact_lines x.lines y.lines first.0 in
    let offset = exact_unsigned x.offset y.offset first.1 in
    λ i. record { lines = lines i; offset = offset i }
