-- A unit ends behind its beginning, and not past its section.
use Rattle.std.proofs.Common.{◌≡◌, ℕ, zero, suc, ◌+◌, ◌-◌, ◌≤◌, ◌<◌, Bool, true, false, cond, ltb, leb, eqb, List, [], ◌∷◌, length, Option, Some, None, refl, ap, arith, inl, inr}
use Rattle.std.specs.Prelude.{IfSome, ◌&&◌}
use Rattle.std.proofs.lemmas.Bool.{cases_Bool, leb-true, ltb-true, lt-ltb, le-ltb}
use Rattle.std.proofs.lemmas.Option.{IfSome_then}
use Rattle.blz_model.specs.Reads.{Read, ◌>>=◌}
use Rattle.blz_bytes.specs.Pieces.{byte}
use Rattle.blz_info.specs.Contents.{Contents, cut, number_at, offset_at}
use Rattle.blz_info.specs.Headers.{initial_length, extent_at, kind_of, id_at, is_address_size, header_of_4, header_of_5, header_in, header_at, headers_in, headers_from, headers_behind}
use Rattle.blz_info.specs.declared.extent.Extent.{Extent}
use Rattle.blz_info.specs.declared.units.UnitHeader.{UnitHeader}
use Rattle.blz_info.proofs.Ahead.{Ahead, Past, number_ahead}

each : {A B : Type 0} (o : Option A) (f : A → Option B) (P : B → Type 0) → ((x : A) → IfSome (f x) P) → IfSome (o >>= f) P
each None f P h = tt
each (Some x) f P h = h x

if_passed : {A : Type 0} (b : Bool) (x : A) (P : A → Type 0) → P x → IfSome (cond b (Some x) None) P
if_passed true x P p = p
if_passed false x P p = tt

either : {A : Type 0} (b : Bool) (o p : Option A) (P : A → Type 0) → IfSome o P → IfSome p P → IfSome (cond b o p) P
either true o p P h k = h
either false o p P h k = k

abbrev EndsAt : Extent → UnitHeader → Type 0
EndsAt extent h = h.end ≡ extent.end

end_of_4 : (version start : ℕ) (extent : Extent) (s : Contents) (at : ℕ) → IfSome (header_of_4 version start extent s at) (EndsAt extent)
unfolding header_of_4
end_of_4 version start extent s at = each (offset_at extent.wide s at) _ (EndsAt extent) (λ table. each (byte s.bytes table.1) _ (EndsAt extent) (λ size. if_passed (is_address_size size.0) _ (EndsAt extent) refl))

end_of_5 : (start : ℕ) (extent : Extent) (s : Contents) (at : ℕ) → IfSome (header_of_5 start extent s at) (EndsAt extent)
unfolding header_of_5
end_of_5 start extent s at = each (byte s.bytes at) _ (EndsAt extent) (λ code. each (kind_of code.0) _ (EndsAt extent) (λ kind. each (byte s.bytes code.1) _ (EndsAt extent) (λ size. each (offset_at extent.wide s size.1) _ (EndsAt extent) (λ table. each (id_at kind extent.wide s table.1) _ (EndsAt extent) (λ id. if_passed (is_address_size size.0) _ (EndsAt extent) refl)))))

end_in : (start : ℕ) (extent : Extent) (s : Contents) (at : ℕ) → IfSome (header_in start extent s at) (EndsAt extent)
unfolding header_in
end_in start extent s at = each (number_at 2 s at) _ (EndsAt extent) (λ version. either (eqb version.0 5) _ _ (EndsAt extent) (end_of_5 start extent s version.1) (either (leb 2 version.0 && leb version.0 4) _ _ (EndsAt extent) (end_of_4 version.0 start extent s version.1) tt))

-- a length takes bytes
abbrev Lengths : List ℕ → ℕ → (Bool × ℕ) × ℕ → Type 0
Lengths bytes at r = (at < r.1) × (r.1 ≤ length bytes)

four_bytes : (s : Contents) (at : ℕ) → Past s.bytes at (number_at 4 s at)
four_bytes s at = elim (cases_Bool (leb (at + 4) (length s.bytes))) [ inl t ↦ rw t (omega arith, leb-true _ _ t) | inr f ↦ rw f tt ]

long_length : (s : Contents) (at next : ℕ) (o : Read ℕ) → at < next → Ahead s.bytes next o → IfSome (o >>= λ long. Some ((true, long.0), long.1)) (Lengths s.bytes at)
long_length s at next None lt h = tt
long_length s at next (Some r) lt h = (omega (arith, h), h.1)

behind_short : (s : Contents) (at : ℕ) (o : Read ℕ) → Past s.bytes at o → IfSome (o >>= λ short. cond (ltb short.0 0xfffffff0) (Some ((false, short.0), short.1)) (cond (eqb short.0 0xffffffff) (number_at 8 s short.1 >>= λ long. Some ((true, long.0), long.1)) None)) (Lengths s.bytes at)
behind_short s at None h = tt
behind_short s at (Some r) h = either (ltb r.0 0xfffffff0) _ _ (Lengths s.bytes at) h (either (eqb r.0 0xffffffff) _ _ (Lengths s.bytes at) (long_length s at r.1 (number_at 8 s r.1) h.0 (number_ahead s.order 8 s.bytes r.1)) tt)

length_ahead : (s : Contents) (at : ℕ) → IfSome (initial_length s at) (Lengths s.bytes at)
unfolding initial_length
length_ahead s at = behind_short s at (number_at 4 s at) (four_bytes s at)

abbrev Extends : List ℕ → ℕ → Extent × ℕ → Type 0
Extends bytes at r = (at < r.0.end) × (r.0.end ≤ length bytes)

behind_length : (s : Contents) (at : ℕ) (o : Read (Bool × ℕ)) → IfSome o (Lengths s.bytes at) → IfSome (o >>= λ len. cond (leb (len.1 + len.0.1) (length s.bytes)) (Some (record { wide = len.0.0; end = len.1 + len.0.1 }, len.1)) None) (Extends s.bytes at)
behind_length s at None h = tt
behind_length s at (Some r) h = elim (cases_Bool (leb (r.1 + r.0.1) (length s.bytes))) [ inl t ↦ rw t (omega (arith, h), leb-true _ _ t) | inr f ↦ rw f tt ]

pub extent_ahead : (s : Contents) (at : ℕ) → IfSome (extent_at s at) (λ (r : Extent × ℕ). (at < r.0.end) × (r.0.end ≤ length s.bytes))
unfolding extent_at
extent_ahead s at = behind_length s at (initial_length s at) (length_ahead s at)

abbrev Follows : List ℕ → ℕ → UnitHeader → Type 0
Follows bytes at h = (at < h.end) × (h.end ≤ length bytes)

behind_extent : (s : Contents) (at : ℕ) (o : Read Extent) → IfSome o (Extends s.bytes at) → IfSome (o >>= λ extent. header_in at extent.0 (cut extent.0.end s) extent.1) (Follows s.bytes at)
behind_extent s at None h = tt
behind_extent s at (Some r) h = IfSome_then (header_in at r.0 (cut r.0.end s) r.1) {Q = Follows s.bytes at} (end_in at r.0 (cut r.0.end s) r.1) (λ header e. (omega (arith, h, e), omega (arith, h, e)))

-- the unit of a header ends behind the header's place
pub header_ahead : (s : Contents) (at : ℕ) → IfSome (header_at s at) (λ (h : UnitHeader). (at < h.end) × (h.end ≤ length s.bytes))
unfolding header_at
header_ahead s at = behind_extent s at (extent_at s at) (extent_ahead s at)

-- ---- the headers of all units of a section

same_rest : (s : Contents) (at : ℕ) (o : Option UnitHeader) (f g : ℕ → Option (List UnitHeader)) → IfSome o (Follows s.bytes at) → ((next : ℕ) → at < next → next ≤ length s.bytes → f next ≡ g next) → (o >>= λ h. f h.end >>= λ rest. Some (h ∷ rest)) ≡ (o >>= λ h. g h.end >>= λ rest. Some (h ∷ rest))
same_rest s at None f g p same = refl
same_rest s at (Some h) f g p same = ap (λ (o : Option (List UnitHeader)). o >>= λ rest. Some (h ∷ rest)) (same h.end p.0 p.1)

enough : (s : Contents) (m n at : ℕ) → length s.bytes - at < m → length s.bytes - at < n → headers_in m s at ≡ headers_in n s at
unfolding headers_in
enough s zero n at p q = absurd (omega arith)
enough s (suc m) zero at p q = absurd (omega arith)
enough s (suc m) (suc n) at p q = elim (cases_Bool (ltb at (length s.bytes))) [
  | inl t ↦ let below = ltb-true _ _ t in rw t (same_rest s at (header_at s at) (λ next. headers_in m s next) (λ next. headers_in n s next) (header_ahead s at) (λ next lt le. enough s m n next (omega arith) (omega arith)))
  | inr f ↦ rw f refl
]

-- the headers behind a header
pub headers_on : (s : Contents) (at : ℕ) → at < length s.bytes → headers_from s at ≡ headers_behind s (header_at s at)
unfolding headers_in
headers_on s at below =
    let t = lt-ltb _ _ below in
    rw t (same_rest s at (header_at s at) (λ next. headers_in (length s.bytes - at) s next) (λ next. headers_from s next) (header_ahead s at) (λ next lt le. enough s (length s.bytes - at) (suc (length s.bytes - next)) next (omega arith) (omega arith)))

pub headers_end : (s : Contents) (at : ℕ) → length s.bytes ≤ at → headers_from s at ≡ Some []
unfolding headers_in
headers_end s at le = let f = le-ltb at (length s.bytes) le in rw f refl
