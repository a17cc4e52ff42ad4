-- The headers of the units of a section, one after the other.
use Rattle.std.proofs.Common.{◌≡◌, ℕ, ◌≤◌, ◌<◌, ltb, List, [], ◌∷◌, ◌++◌, length, Option, Some, None, refl, sym, ap, subst, ◌∙◌, append_assoc, arith, inl, inr}
use Rattle.std.proofs.lemmas.Bool.{cases_Bool, ltb-true, ltb-false}
use Rattle.std.proofs.lemmas.List.{append-nil}
use Rattle.blz_error.specs.declared.kind.ErrorKind.{ErrorKind}
use Rattle.blz_error.specs.declared.kind.ErrorKind.TheVariants.{InvalidDwarf}
use Rattle.blz_model.specs.Part.{Good, Broken, Fails}
use Rattle.blz_model.specs.Reads.{◌>>=◌}
use Rattle.blz_info.specs.Contents.{Contents}
use Rattle.blz_entry.specs.Folds.{fold_maybe}
use Rattle.blz_info.specs.Headers.{header_at, UnitList, next_unit, behind, headers_from, headers_behind}
use Rattle.blz_info.specs.Marks.{or_invalid}
use Rattle.blz_info.specs.declared.units.UnitHeader.{UnitHeader}
use Rattle.blz_info.proofs.HeadersEnd.{headers_on, headers_end}
use Rattle.blz_info.proofs.Marked.{marks, good_some}
use Rattle.blz_units.specs.UnitTables.{is_type, no_types}

-- ---- one call

pub record IsMet (u : UnitList) (h : UnitHeader) : Type 0 where
  pub below : u.place < length u.section.bytes
  pub here : header_at u.section u.place ≡ Some h

read_header : (u : UnitList) (o : Option UnitHeader) (h : UnitHeader) → (o >>= λ x. Some (Some x)) ≡ Some (Some h) → o ≡ Some h
read_header u None h is = absurd cc
read_header u (Some x) h is = cc

met : (u : UnitList) (h : UnitHeader) → next_unit u ≡ Some (Some h) → IsMet u h
unfolding next_unit
met u h is = elim (cases_Bool (ltb u.place (length u.section.bytes))) [
  | inl t ↦ record { below = ltb-true _ _ t; here = read_header u (header_at u.section u.place) h (rw t at is) }
  | inr f ↦ absurd (let k = rw f at is in cc)
]

no_header : (o : Option UnitHeader) → (o >>= λ x. Some (Some x)) ≡ Some None → ⊥
no_header None is = cc
no_header (Some x) is = cc

over : (u : UnitList) → next_unit u ≡ Some None → length u.section.bytes ≤ u.place
unfolding next_unit
over u is = elim (cases_Bool (ltb u.place (length u.section.bytes))) [
  | inl t ↦ absurd (no_header (header_at u.section u.place) (rw t at is))
  | inr f ↦ let k = ltb-false _ _ f in omega arith
]

unread : (o : Option UnitHeader) → (o >>= λ x. Some (Some x)) ≡ None → o ≡ None
unread None is = refl
unread (Some x) is = absurd cc

broken_header : (u : UnitList) → next_unit u ≡ None → (u.place < length u.section.bytes) × (header_at u.section u.place ≡ None)
unfolding next_unit
broken_header u is = elim (cases_Bool (ltb u.place (length u.section.bytes))) [
  | inl t ↦ (ltb-true _ _ t, unread (header_at u.section u.place) (rw t at is))
  | inr f ↦ absurd (let k = rw f at is in cc)
]

-- where the list stands behind a header
pub place_behind : (u new : UnitList) (h : UnitHeader) → next_unit u ≡ Some (Some h) → new ≡ behind u (next_unit u) → new.place ≡ h.end
place_behind u new h is moves = ap (λ (k : UnitList). k.place) (moves ∙ ap (λ o. behind u o) is)

pub section_behind : (u new : UnitList) (h : UnitHeader) → next_unit u ≡ Some (Some h) → new ≡ behind u (next_unit u) → new.section ≡ u.section
section_behind u new h is moves = ap (λ (k : UnitList). k.section) (moves ∙ ap (λ o. behind u o) is)

-- ---- what is made of all headers, after those that were read

first_read : {B : Type 0} (f g : List UnitHeader → Option B) (h : UnitHeader) (o : Option (List UnitHeader)) → ((rest : List UnitHeader) → f (h ∷ rest) ≡ g rest) → ((o >>= λ rest. Some (h ∷ rest)) >>= f) ≡ (o >>= g)
first_read f g h None same = refl
first_read f g h (Some rest) same = same rest

first_fails : {B : Type 0} (f : List UnitHeader → Option B) (h : UnitHeader) (o : Option (List UnitHeader)) → ((rest : List UnitHeader) → f (h ∷ rest) ≡ None) → ((o >>= λ rest. Some (h ∷ rest)) >>= f) ≡ None
first_fails f h None fails = refl
first_fails f h (Some rest) fails = fails rest

on : {B : Type 0} (f : List UnitHeader → Option B) (s : Contents) (u : UnitList) (o : Option UnitHeader) → u.section ≡ s → u.place < length u.section.bytes → header_at u.section u.place ≡ o → (headers_from s u.place >>= f) ≡ (headers_behind s o >>= f)
on f s u o e below here =
    ap (λ (k : Option (List UnitHeader)). k >>= f) (headers_on s u.place (subst (λ (c : Contents). u.place < length c.bytes) e below) ∙ ap (λ (k : Option UnitHeader). headers_behind s k) (subst (λ (c : Contents). header_at c u.place ≡ o) e here))

pub headers_more : {B : Type 0} (f g : List UnitHeader → Option B) (s : Contents) (u new : UnitList) (h : UnitHeader) → u.section ≡ s → next_unit u ≡ Some (Some h) → new ≡ behind u (next_unit u) → ((rest : List UnitHeader) → f (h ∷ rest) ≡ g rest) → (headers_from s u.place >>= f) ≡ (headers_from s new.place >>= g)
headers_more f g s u new h e is moves same =
    let m = met u h is in
    on f s u (Some h) e m.below m.here ∙ first_read f g h (headers_from s h.end) same ∙ ap (λ (n : ℕ). headers_from s n >>= g) (sym (place_behind u new h is moves))

pub headers_fail : {B : Type 0} (f : List UnitHeader → Option B) (s : Contents) (u : UnitList) (h : UnitHeader) → u.section ≡ s → next_unit u ≡ Some (Some h) → ((rest : List UnitHeader) → f (h ∷ rest) ≡ None) → (headers_from s u.place >>= f) ≡ None
headers_fail f s u h e is fails = let m = met u h is in on f s u (Some h) e m.below m.here ∙ first_fails f h (headers_from s h.end) fails

pub headers_none : {B : Type 0} (f : List UnitHeader → Option B) (s : Contents) (u : UnitList) → u.section ≡ s → next_unit u ≡ None → (headers_from s u.place >>= f) ≡ None
headers_none f s u e is = let b = broken_header u is in on f s u None e b.0 b.1

pub headers_over : {B : Type 0} (f : List UnitHeader → Option B) (s : Contents) (u : UnitList) → u.section ≡ s → next_unit u ≡ Some None → (headers_from s u.place >>= f) ≡ f []
headers_over f s u e is = ap (λ (k : Option (List UnitHeader)). k >>= f) (headers_end s u.place (subst (λ (c : Contents). length c.bytes ≤ u.place) e (over u is)))

-- ---- a step of a fold

pub step_on : {S : Type 0} (step : S → UnitHeader → Option S) (s t : S) (h : UnitHeader) → step s h ≡ Some t → (rest : List UnitHeader) → fold_maybe step s (h ∷ rest) ≡ fold_maybe step t rest
step_on {S = S} step s t h e rest = ap (λ (o : Option S). o >>= λ k. fold_maybe step k rest) e

pub step_fails : {S : Type 0} (step : S → UnitHeader → Option S) (s : S) (h : UnitHeader) → step s h ≡ None → (rest : List UnitHeader) → fold_maybe step s (h ∷ rest) ≡ None
step_fails {S = S} step s h e rest = ap (λ (o : Option S). o >>= λ k. fold_maybe step k rest) e

-- ---- headers without type units, behind others

abbrev pub with_units : List UnitHeader → List UnitHeader → Option (List UnitHeader)
with_units front headers = Some (front ++ no_types headers)

pub units_more : (front : List UnitHeader) (h : UnitHeader) (rest : List UnitHeader) → with_units front (h ∷ rest) ≡ with_units (front ++ no_types (h ∷ [])) rest
units_more front h rest = elim (cases_Bool (is_type h.kind)) [
  | inl t ↦ rw t (ap (λ (l : List UnitHeader). Some (l ++ no_types rest)) (sym (append-nil front)))
  | inr f ↦ rw f (ap (λ (l : List UnitHeader). Some l) (sym (append_assoc front (h ∷ []) (no_types rest))))
]

pub units_over : (front : List UnitHeader) → with_units front [] ≡ Some front
units_over front = ap (λ (l : List UnitHeader). Some l) (append-nil front)

-- ---- what a call answers

pub good_header : (o : Option (Option UnitHeader)) (found : Option UnitHeader) {h : UnitHeader} → or_invalid o ≡ Good found → found ≡ Some h → o ≡ Some (Some h)
good_header o found e is = good_some o found e ∙ ap (λ (x : Option UnitHeader). Some x) is

pub no_header_left : (o : Option (Option UnitHeader)) (found : Option UnitHeader) → or_invalid o ≡ Good found → found ≡ None → o ≡ Some None
no_header_left o found e is = good_some o found e ∙ ap (λ (x : Option UnitHeader). Some x) is

not_read : (o : Option (Option UnitHeader)) (kind : ErrorKind) → or_invalid o ≡ Broken kind → (o ≡ None) × (kind ≡ InvalidDwarf)
not_read None kind e = (refl, cc)
not_read (Some x) kind e = absurd cc

pub bad_header : {B : Type 0} (kind : ErrorKind) (whole : Option B) (f : List UnitHeader → Option B) (s : Contents) (u : UnitList) → u.section ≡ s → or_invalid (next_unit u) ≡ Broken kind → (headers_from s u.place >>= f) ≡ whole → Fails kind (or_invalid whole)
bad_header kind whole f s u e broken rest = let n = not_read (next_unit u) kind broken in marks kind whole (sym rest ∙ headers_none f s u e n.0) n.1
