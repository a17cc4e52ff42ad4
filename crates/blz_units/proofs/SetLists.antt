-- The sets of address ranges of a section, one after the other.
use Rattle.std.proofs.Common.{◌≡◌, ℕ, zero, suc, ◌+◌, ◌-◌, ◌*◌, ◌≤◌, ◌<◌, Bool, true, false, cond, ltb, leb, eqb, List, [], ◌∷◌, ◌++◌, length, Option, Some, None, refl, sym, ap, ◌∙◌, subst, append_assoc, arith, inl, inr}
use Rattle.std.specs.Prelude.{IfSome, ◌&&◌}
use Rattle.std.proofs.lemmas.Bool.{cases_Bool, ltb-true, lt-ltb, le-ltb, ltb-false}
use Rattle.std.proofs.lemmas.List.{append-nil}
use Rattle.std.proofs.lemmas.Option.{IfSome_then}
use Rattle.blz_model.specs.Reads.{Read, ◌>>=◌}
use Rattle.blz_bytes.specs.Pieces.{byte}
use Rattle.blz_entry.specs.AddressSets.{rounded_up, set_of, set_in, set_at, SetList, next_set}
use Rattle.blz_info.specs.Contents.{Contents, cut, number_at, offset_at}
use Rattle.blz_info.specs.Headers.{extent_at, is_address_size}
use Rattle.blz_entry.specs.declared.aranges.ArangeSet.{ArangeSet}
use Rattle.blz_info.specs.declared.extent.Extent.{Extent}
use Rattle.blz_info.proofs.HeadersEnd.{extent_ahead}
use Rattle.blz_units.specs.Sets.{sets_in, sets_from, sets_behind}

each : {A B : Type 0} (o : Option A) (f : A → Option B) (P : B → Type 0) → ((x : A) → IfSome (f x) P) → IfSome (o >>= f) P
each None f P h = tt
each (Some x) f P h = h x

if_passed : {A : Type 0} (b : Bool) (x : A) (P : A → Type 0) → P x → IfSome (cond b (Some x) None) P
if_passed true x P p = p
if_passed false x P p = tt

either : {A : Type 0} (b : Bool) (o p : Option A) (P : A → Type 0) → IfSome o P → IfSome p P → IfSome (cond b o p) P
either true o p P h k = h
either false o p P h k = k

abbrev EndsAt : Extent → ArangeSet → Type 0
EndsAt extent set = set.end ≡ extent.end

end_of : (start : ℕ) (extent : Extent) (unit size next : ℕ) → IfSome (set_of start extent unit size next) (EndsAt extent)
end_of start extent unit size next = if_passed (leb (start + rounded_up (next - start) (2 * size)) extent.end) _ (EndsAt extent) refl

end_in : (start : ℕ) (extent : Extent) (s : Contents) (at : ℕ) → IfSome (set_in start extent s at) (EndsAt extent)
unfolding set_in
end_in start extent s at = each (number_at 2 s at) _ (EndsAt extent) (λ version. each (offset_at extent.wide s version.1) _ (EndsAt extent) (λ unit. each (byte s.bytes unit.1) _ (EndsAt extent) (λ size. each (byte s.bytes size.1) _ (EndsAt extent) (λ segment. either (eqb version.0 2 && is_address_size size.0 && eqb segment.0 0) _ _ (EndsAt extent) (end_of start extent unit.0 size.0 segment.1) tt))))

abbrev Follows : List ℕ → ℕ → ArangeSet → Type 0
Follows bytes at set = (at < set.end) × (set.end ≤ length bytes)

behind_extent : (s : Contents) (at : ℕ) (o : Read Extent) → IfSome o (λ (r : Extent × ℕ). (at < r.0.end) × (r.0.end ≤ length s.bytes)) → IfSome (o >>= λ extent. set_in at extent.0 (cut extent.0.end s) extent.1) (Follows s.bytes at)
behind_extent s at None h = tt
behind_extent s at (Some r) h = IfSome_then (set_in at r.0 (cut r.0.end s) r.1) {Q = Follows s.bytes at} (end_in at r.0 (cut r.0.end s) r.1) (λ set e. (omega (arith, h, e), omega (arith, h, e)))

-- a set ends behind its beginning, and not past its section
pub set_ahead : (s : Contents) (at : ℕ) → IfSome (set_at s at) (λ (set : ArangeSet). (at < set.end) × (set.end ≤ length s.bytes))
unfolding set_at
set_ahead s at = behind_extent s at (extent_at s at) (extent_ahead s at)

same_rest : (s : Contents) (at : ℕ) (o : Option ArangeSet) (f g : ℕ → Option (List ArangeSet)) → IfSome o (Follows s.bytes at) → ((next : ℕ) → at < next → next ≤ length s.bytes → f next ≡ g next) → (o >>= λ x. f x.end >>= λ rest. Some (x ∷ rest)) ≡ (o >>= λ x. g x.end >>= λ rest. Some (x ∷ rest))
same_rest s at None f g p same = refl
same_rest s at (Some x) f g p same = ap (λ (o : Option (List ArangeSet)). o >>= λ rest. Some (x ∷ rest)) (same x.end p.0 p.1)

enough : (s : Contents) (m n at : ℕ) → length s.bytes - at < m → length s.bytes - at < n → sets_in m s at ≡ sets_in n s at
unfolding sets_in
enough s zero n at p q = absurd (omega arith)
enough s (suc m) zero at p q = absurd (omega arith)
enough s (suc m) (suc n) at p q = elim (cases_Bool (ltb at (length s.bytes))) [
  | inl t ↦ let below = ltb-true _ _ t in rw t (same_rest s at (set_at s at) (λ next. sets_in m s next) (λ next. sets_in n s next) (set_ahead s at) (λ next lt le. enough s m n next (omega arith) (omega arith)))
  | inr f ↦ rw f refl
]

sets_on : (s : Contents) (at : ℕ) → at < length s.bytes → sets_from s at ≡ sets_behind s (set_at s at)
unfolding sets_in
sets_on s at below =
    let t = lt-ltb _ _ below in
    rw t (same_rest s at (set_at s at) (λ next. sets_in (length s.bytes - at) s next) (λ next. sets_from s next) (set_ahead s at) (λ next lt le. enough s (length s.bytes - at) (suc (length s.bytes - next)) next (omega arith) (omega arith)))

sets_end : (s : Contents) (at : ℕ) → length s.bytes ≤ at → sets_from s at ≡ Some []
unfolding sets_in
sets_end s at le = let f = le-ltb at (length s.bytes) le in rw f refl

-- ---- one call

pub record IsMet (l : SetList) (set : ArangeSet) (new : SetList) : Type 0 where
  pub below : l.place < length l.section.bytes
  pub here : set_at l.section l.place ≡ Some set
  pub section : new.section ≡ l.section
  pub place : new.place ≡ set.end

abbrev at_end : SetList → ArangeSet → SetList
at_end l x = record { section = l.section; place = x.end }

abbrev set_and_list : SetList → Option ArangeSet → Option (Option ArangeSet × SetList)
set_and_list l o = ◌>>=◌ {A = ArangeSet} {B = Option ArangeSet × SetList} o (λ x. Some (Some x, at_end l x))

abbrev found_of : Option (Option ArangeSet × SetList) → Option ArangeSet
found_of None = None
found_of (Some r) = r.0

abbrev list_of : SetList → Option (Option ArangeSet × SetList) → SetList
list_of l None = l
list_of l (Some r) = r.1

same_set : (x y : ArangeSet) → Some x ≡ Some y → x ≡ y
same_set x y e = cc

no_such : (x : ArangeSet) → None ≡ Some x → ⊥
no_such x e = cc

read_set : (l : SetList) (o : Option ArangeSet) (set : ArangeSet) (new : SetList) → l.place < length l.section.bytes → set_at l.section l.place ≡ o → set_and_list l o ≡ Some (Some set, new) → IsMet l set new
read_set l None set new below e is = absurd cc
read_set l (Some x) set new below e is =
    let same : x ≡ set = same_set x set (ap found_of is) in
    let n : at_end l x ≡ new = ap (list_of l) is in
    record { below = below; here = e ∙ ap (λ (y : ArangeSet). Some y) same; section = sym (ap (λ (k : SetList). k.section) n); place = sym (ap (λ (k : SetList). k.place) n) ∙ ap (λ (y : ArangeSet). y.end) same }

pub met : (l : SetList) (set : ArangeSet) (new : SetList) → next_set l ≡ Some (Some set, new) → IsMet l set new
unfolding next_set
met l set new is = elim (cases_Bool (ltb l.place (length l.section.bytes))) [
  | inl t ↦ read_set l (set_at l.section l.place) set new (ltb-true _ _ t) refl (rw t at is)
  | inr f ↦ absurd (no_such set (ap found_of (rw f at is)))
]

no_set : (l : SetList) (o : Option ArangeSet) (new : SetList) → set_and_list l o ≡ Some (None, new) → ⊥
no_set l None new is = cc
no_set l (Some x) new is = no_such x (sym (ap found_of is))

over : (l new : SetList) → next_set l ≡ Some (None, new) → length l.section.bytes ≤ l.place
unfolding next_set
over l new is = elim (cases_Bool (ltb l.place (length l.section.bytes))) [
  | inl t ↦ absurd (no_set l (set_at l.section l.place) new (rw t at is))
  | inr f ↦ let k = ltb-false _ _ f in omega arith
]

unread : (l : SetList) (o : Option ArangeSet) → set_and_list l o ≡ None → o ≡ None
unread l None is = refl
unread l (Some x) is = absurd cc

broken_set : (l : SetList) → next_set l ≡ None → (l.place < length l.section.bytes) × (set_at l.section l.place ≡ None)
unfolding next_set
broken_set l is = elim (cases_Bool (ltb l.place (length l.section.bytes))) [
  | inl t ↦ (ltb-true _ _ t, unread l (set_at l.section l.place) (rw t at is))
  | inr f ↦ absurd (let k = rw f at is in cc)
]

-- ---- the sets behind those that were read

abbrev pub put_before : List ArangeSet → Option (List ArangeSet) → Option (List ArangeSet)
put_before front rest = rest >>= λ xs. Some (front ++ xs)

nothing_before : (o : Option (List ArangeSet)) → put_before [] o ≡ o
nothing_before None = refl
nothing_before (Some rest) = refl

pub at_start : (s : Contents) (front : List ArangeSet) (place : ℕ) → front ≡ [] → place ≡ 0 → put_before front (sets_from s place) ≡ sets_from s 0
at_start s front place e z = ap (λ (l : List ArangeSet). put_before l (sets_from s place)) e ∙ (nothing_before (sets_from s place) ∙ ap (λ (n : ℕ). sets_from s n) z)

moved : (front : List ArangeSet) (x : ArangeSet) (o : Option (List ArangeSet)) → put_before front (o >>= λ rest. Some (x ∷ rest)) ≡ put_before (front ++ x ∷ []) o
moved front x None = refl
moved front x (Some rest) = ap (λ (l : List ArangeSet). Some l) (sym (append_assoc front (x ∷ []) rest))

more_at : (s : Contents) (front : List ArangeSet) (at : ℕ) (set : ArangeSet) → at < length s.bytes → set_at s at ≡ Some set → put_before front (sets_from s at) ≡ put_before (front ++ set ∷ []) (sets_from s set.end)
more_at s front at set below here =
    ap (λ (o : Option (List ArangeSet)). put_before front o) (sets_on s at below ∙ ap (λ (o : Option ArangeSet). sets_behind s o) here) ∙ moved front set (sets_from s set.end)

pub sets_more : (s : Contents) (front : List ArangeSet) (l : SetList) (set : ArangeSet) (new : SetList) → l.section ≡ s → next_set l ≡ Some (Some set, new) → put_before front (sets_from s l.place) ≡ put_before (front ++ set ∷ []) (sets_from s new.place)
sets_more s front l set new e is =
    let m = met l set new is in
    more_at s front l.place set (subst (λ (c : Contents). l.place < length c.bytes) e m.below) (subst (λ (c : Contents). set_at c l.place ≡ Some set) e m.here) ∙ ap (λ (n : ℕ). put_before (front ++ set ∷ []) (sets_from s n)) (sym m.place)

pub sets_none : (s : Contents) (front : List ArangeSet) (l : SetList) → l.section ≡ s → next_set l ≡ None → put_before front (sets_from s l.place) ≡ None
sets_none s front l e is =
    let b = broken_set l is in
    ap (λ (o : Option (List ArangeSet)). put_before front o) (sets_on s l.place (subst (λ (c : Contents). l.place < length c.bytes) e b.0) ∙ ap (λ (o : Option ArangeSet). sets_behind s o) (subst (λ (c : Contents). set_at c l.place ≡ None) e b.1))

pub sets_over : (s : Contents) (front : List ArangeSet) (l new : SetList) → l.section ≡ s → next_set l ≡ Some (None, new) → put_before front (sets_from s l.place) ≡ Some front
sets_over s front l new e is =
    ap (λ (o : Option (List ArangeSet)). put_before front o) (sets_end s l.place (subst (λ (c : Contents). length c.bytes ≤ l.place) e (over l new is))) ∙ ap (λ (xs : List ArangeSet). Some xs) (append-nil front)
