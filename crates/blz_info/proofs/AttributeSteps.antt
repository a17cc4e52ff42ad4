-- One turn of a loop over attributes.
use Rattle.std.proofs.Common.{◌≡◌, ℕ, zero, suc, ◌+◌, ◌≤◌, ◌<◌, List, [], ◌∷◌, ◌++◌, length, get_or, drop, Some, None, refl, sym, ap, ◌∙◌, arith, append_assoc, drop-cons}
use Rattle.std.proofs.lemmas.List.{append-nil}
use Rattle.blz_model.specs.Reads.{Read, ◌>>=◌}
use Rattle.std.proofs.Math.ListN.{drop_of_length-le}
use Rattle.blz_info.specs.Contents.{Contents}
use Rattle.blz_info.specs.Attributes.{attribute, attributes, passed}
use Rattle.blz_info.specs.Sizes.{behind}
use Rattle.blz_info.proofs.Sizes.{next_place, behind_is}
use Rattle.blz_info.specs.declared.abbreviations.AttrSpec.{AttrSpec}
use Rattle.blz_info.specs.declared.encoding.Encoding.{Encoding}
use Rattle.blz_info.specs.declared.text.StrBase.{StrBase}
use Rattle.blz_info.specs.declared.forms.value.AttrValue.{AttrValue}

passed_more : (specs : List AttrSpec) (i : ℕ) (d : AttrSpec) (e : Encoding) (base : StrBase) (s : Contents) (at next : ℕ) (v : AttrValue) → i < length specs → attribute (get_or specs i d) e base s at ≡ Some (v, next) → passed (drop i specs) e base s at ≡ passed (drop (i + 1) specs) e base s next
unfolding passed
passed_more specs i d e base s at next v lt h =
    let first = drop-cons specs i d lt in
    let k : i + 1 ≡ suc i = omega arith in
    rw (k, first, h) refl

passed_none : (specs : List AttrSpec) (i : ℕ) (d : AttrSpec) (e : Encoding) (base : StrBase) (s : Contents) (at : ℕ) → i < length specs → attribute (get_or specs i d) e base s at ≡ None → passed (drop i specs) e base s at ≡ None
unfolding passed
passed_none specs i d e base s at lt h = let first = drop-cons specs i d lt in rw (first, h) refl

-- the attribute that is passed over has some value
behind_some : (specs : List AttrSpec) (i : ℕ) (d : AttrSpec) (e : Encoding) (base : StrBase) (s : Contents) (at next : ℕ) (o : Read AttrValue) → i < length specs → attribute (get_or specs i d) e base s at ≡ o → next_place o ≡ Some next → passed (drop i specs) e base s at ≡ passed (drop (i + 1) specs) e base s next
behind_some specs i d e base s at next None lt h n = absurd cc
behind_some specs i d e base s at next (Some r) lt h n =
    let same : r.1 ≡ next = cc in
    rw (← same) (passed_more specs i d e base s at r.1 r.0 lt h)

behind_nothing : (specs : List AttrSpec) (i : ℕ) (d : AttrSpec) (e : Encoding) (base : StrBase) (s : Contents) (at : ℕ) (o : Read AttrValue) → i < length specs → attribute (get_or specs i d) e base s at ≡ o → next_place o ≡ None → passed (drop i specs) e base s at ≡ None
behind_nothing specs i d e base s at None lt h n = passed_none specs i d e base s at lt h
behind_nothing specs i d e base s at (Some r) lt h n = absurd cc

pub behind_more : (specs : List AttrSpec) (i : ℕ) (d : AttrSpec) (e : Encoding) (base : StrBase) (s : Contents) (at next : ℕ) → i < length specs → behind (get_or specs i d) e s at ≡ Some next → passed (drop i specs) e base s at ≡ passed (drop (i + 1) specs) e base s next
behind_more specs i d e base s at next lt h = behind_some specs i d e base s at next _ lt refl (behind_is (get_or specs i d) e base s at ∙ h)

pub behind_none : (specs : List AttrSpec) (i : ℕ) (d : AttrSpec) (e : Encoding) (base : StrBase) (s : Contents) (at : ℕ) → i < length specs → behind (get_or specs i d) e s at ≡ None → passed (drop i specs) e base s at ≡ None
behind_none specs i d e base s at lt h = behind_nothing specs i d e base s at _ lt refl (behind_is (get_or specs i d) e base s at ∙ h)

pub passed_end : (specs : List AttrSpec) (i : ℕ) (e : Encoding) (base : StrBase) (s : Contents) (at : ℕ) → length specs ≤ i → passed (drop i specs) e base s at ≡ Some at
unfolding passed
passed_end specs i e base s at le = let h = drop_of_length-le specs {i = i} le in rw h refl

-- the values that were read, before those that are left
abbrev pub behind_values : List (ℕ × AttrValue) → Read (List (ℕ × AttrValue)) → Read (List (ℕ × AttrValue))
behind_values front read = read >>= λ r. Some (front ++ r.0, r.1)

one_more : (front : List (ℕ × AttrValue)) (x : ℕ × AttrValue) (o : Read (List (ℕ × AttrValue))) → behind_values front (o >>= λ others. Some (x ∷ others.0, others.1)) ≡ behind_values (front ++ x ∷ []) o
one_more front x None = refl
one_more front x (Some r) = ap (λ (xs : List (ℕ × AttrValue)). Some (xs, r.1)) (sym (append_assoc front (x ∷ []) r.0))

pub values_more : (front : List (ℕ × AttrValue)) (specs : List AttrSpec) (i : ℕ) (d : AttrSpec) (e : Encoding) (base : StrBase) (s : Contents) (at next : ℕ) (v : AttrValue) → i < length specs → attribute (get_or specs i d) e base s at ≡ Some (v, next) → behind_values front (attributes (drop i specs) e base s at) ≡ behind_values (front ++ ((get_or specs i d).name, v) ∷ []) (attributes (drop (i + 1) specs) e base s next)
unfolding attributes
values_more front specs i d e base s at next v lt h =
    let first = drop-cons specs i d lt in
    let k : i + 1 ≡ suc i = omega arith in
    rw (k, first, h) (one_more front ((get_or specs i d).name, v) (attributes (drop (suc i) specs) e base s next))

pub values_none : (front : List (ℕ × AttrValue)) (specs : List AttrSpec) (i : ℕ) (d : AttrSpec) (e : Encoding) (base : StrBase) (s : Contents) (at : ℕ) → i < length specs → attribute (get_or specs i d) e base s at ≡ None → behind_values front (attributes (drop i specs) e base s at) ≡ None
unfolding attributes
values_none front specs i d e base s at lt h = let first = drop-cons specs i d lt in rw (first, h) refl

pub values_end : (front : List (ℕ × AttrValue)) (specs : List AttrSpec) (i : ℕ) (e : Encoding) (base : StrBase) (s : Contents) (at : ℕ) → length specs ≤ i → behind_values front (attributes (drop i specs) e base s at) ≡ Some (front, at)
unfolding attributes
values_end front specs i e base s at le = let h = drop_of_length-le specs {i = i} le in rw h (ap (λ (xs : List (ℕ × AttrValue)). Some (xs, at)) (append-nil front))

pub drop_one_more : (specs : List AttrSpec) (i : ℕ) → drop 1 (drop i specs) ≡ drop (i + 1) specs
drop_one_more [] zero = refl
drop_one_more [] (suc i) = let k : suc i + 1 ≡ suc (i + 1) = omega arith in rw k refl
drop_one_more (x ∷ xs) zero = refl
drop_one_more (x ∷ xs) (suc i) = let k : suc i + 1 ≡ suc (i + 1) = omega arith in rw k (drop_one_more xs i)
