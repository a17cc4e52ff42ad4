-- The ranges of a set, one after the other.
use Rattle.std.proofs.Common.{◌≡◌, ℕ, zero, suc, ◌+◌, ◌-◌, ◌*◌, ◌≤◌, ◌<◌, leb, eqb, List, [], ◌∷◌, ◌++◌, Option, Some, None, refl, ap, ◌∙◌, arith, inl, inr}
use Rattle.std.specs.Prelude.{IfSome}
use Rattle.std.specs.Option.{option_to_list}
use Rattle.std.proofs.lemmas.Bool.{cases_Bool, leb-true, eqb-true}
use Rattle.blz_model.specs.Reads.{Read, ◌>>=◌}
use Rattle.blz_entry.specs.AddressSets.{length_at, kept, range_pair, next_pair, then_pairs, pairs_in, pairs_from}
use Rattle.blz_info.specs.Contents.{Contents, moved_number, address_at}
use Rattle.blz_ranges.specs.declared.span.Span.{Span}
use Rattle.blz_info.proofs.Ahead.{Ahead, Past, number_ahead, address_past, if_ahead}

length_ahead : (size : ℕ) (s : Contents) (at : ℕ) → Ahead s.bytes at (length_at size s at)
unfolding length_at
length_ahead size s at = if_ahead s.bytes at (eqb size 4) _ _ (number_ahead s.order 4 s.bytes at) (if_ahead s.bytes at (eqb size 8) _ _ (number_ahead s.order 8 s.bytes at) tt)

always : {A : Type 0} (o : Option A) (P : Type 0) → P → IfSome o (λ (r : A). P)
always None P p = tt
always (Some x) P p = p

-- an address has bytes
size_some : (size : ℕ) (s : Contents) (at : ℕ) → IfSome (address_at size s at) (λ (r : ℕ × ℕ). 0 < size)
unfolding address_at
size_some size s at = elim (cases_Bool (eqb size 4)) [
  | inl four ↦ let e = eqb-true size 4 four in let some : 0 < size = omega arith in rw four (always (moved_number 4 s at) (0 < size) some)
  | inr other ↦ elim (cases_Bool (eqb size 8)) [
    | inl eight ↦ let e = eqb-true size 8 eight in let some : 0 < size = omega arith in rw (other, eight) (always (moved_number 8 s at) (0 < size) some)
    | inr none ↦ rw (other, none) tt
  ]
]

behind_length : (size begin at end next : ℕ) (bytes : List ℕ) (o : Read ℕ) → at < next → at < end → Ahead bytes next o → IfSome (o >>= λ len. Some (kept size begin len.0, len.1)) (λ (r : Option Span × ℕ). (at < r.1) × (at < end))
behind_length size begin at end next bytes None lt room h = tt
behind_length size begin at end next bytes (Some len) lt room h = (omega (arith, h), room)

behind_address : (size at end : ℕ) (s : Contents) (o : Read ℕ) → at + 2 * size ≤ end → Past s.bytes at o → IfSome o (λ (r : ℕ × ℕ). 0 < size) → IfSome (o >>= λ begin. length_at size s begin.1 >>= λ len. Some (kept size begin.0 len.0, len.1)) (λ (r : Option Span × ℕ). (at < r.1) × (at < end))
behind_address size at end s None room h some = tt
behind_address size at end s (Some begin) room h some = behind_length size begin.0 at end begin.1 s.bytes (length_at size s begin.1) h.0 (omega (arith, some)) (length_ahead size s begin.1)

-- a pair leads on
pair_leads : (end size : ℕ) (s : Contents) (at : ℕ) → IfSome (next_pair end size s at) (λ (r : Option Span × ℕ). (at < r.1) × (at < end))
unfolding next_pair range_pair
pair_leads end size s at = elim (cases_Bool (leb (at + 2 * size) end)) [
  | inl t ↦ rw t (behind_address size at end s (address_at size s at) (leb-true _ _ t) (address_past size s at) (size_some size s at))
  | inr f ↦ rw f tt
]

same_rest : (at end : ℕ) (o : Read (Option Span)) (f g : ℕ → List Span) → IfSome o (λ (r : Option Span × ℕ). (at < r.1) × (at < end)) → ((next : ℕ) → at < next → at < end → f next ≡ g next) → then_pairs o f ≡ then_pairs o g
same_rest at end None f g h same = refl
same_rest at end (Some r) f g h same = ap (λ (xs : List Span). option_to_list r.0 ++ xs) (same r.1 h.0 h.1)

enough : (end size : ℕ) (s : Contents) (m n at : ℕ) → end - at < m → end - at < n → pairs_in m end size s at ≡ pairs_in n end size s at
unfolding pairs_in
enough end size s zero n at p q = absurd (omega arith)
enough end size s (suc m) zero at p q = absurd (omega arith)
enough end size s (suc m) (suc n) at p q = same_rest at end (next_pair end size s at) (λ next. pairs_in m end size s next) (λ next. pairs_in n end size s next) (pair_leads end size s at) (λ next lt room. enough end size s m n next (omega arith) (omega arith))

-- the pairs behind a pair
pub pairs_on : (end size : ℕ) (s : Contents) (at : ℕ) → pairs_from end size s at ≡ then_pairs (next_pair end size s at) (λ next. pairs_from end size s next)
unfolding pairs_in
pairs_on end size s at = same_rest at end (next_pair end size s at) (λ next. pairs_in (end - at) end size s next) (λ next. pairs_from end size s next) (pair_leads end size s at) (λ next lt room. enough end size s (end - at) (suc (end - next)) next (omega arith) (omega arith))

pub pair_kept : (end size : ℕ) (s : Contents) (at next : ℕ) (x : Span) → next_pair end size s at ≡ Some (Some x, next) → pairs_from end size s at ≡ x ∷ pairs_from end size s next
pair_kept end size s at next x e = pairs_on end size s at ∙ rw e refl

pub pair_passed : (end size : ℕ) (s : Contents) (at next : ℕ) → next_pair end size s at ≡ Some (None, next) → pairs_from end size s at ≡ pairs_from end size s next
pair_passed end size s at next e = pairs_on end size s at ∙ rw e refl

pub pairs_end : (end size : ℕ) (s : Contents) (at : ℕ) → next_pair end size s at ≡ None → pairs_from end size s at ≡ []
pairs_end end size s at e = pairs_on end size s at ∙ rw e refl

pub pair_ahead : (end size : ℕ) (s : Contents) (at : ℕ) (r : Option Span × ℕ) → next_pair end size s at ≡ Some r → (at < r.1) × (at < end)
pair_ahead end size s at r e = let h = pair_leads end size s at in rw e at h
