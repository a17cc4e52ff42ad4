-- Attributes of which each has a fixed size are passed over in one step.
use Rattle.std.proofs.Common.{◌≡◌, ◌∙◌, ℕ, ◌+◌, eqb, leb, List, [], ◌∷◌, ◌++◌, length, Option, Some, None, refl, sym, ap, inl, inr, arith}
use Rattle.std.specs.Prelude.{◌⊎◌}
use Rattle.std.proofs.lemmas.Bool.{cases_Bool, eqb-true, eqb-false, ne_eqb, lt-leb, leb-false}
use Rattle.blz_model.specs.Reads.{Read, ◌>>=◌, passed_over}
use Rattle.blz_info.specs.Contents.{Contents}
use Rattle.blz_info.specs.Forms.{form_of}
use Rattle.blz_info.specs.Attributes.{attribute, passed}
use Rattle.blz_info.specs.Sizes.{over, behind_form, behind_code, behind, form_size, attribute_size, size_together}
use Rattle.blz_info.specs.declared.abbreviations.AttrSpec.{AttrSpec}
use Rattle.blz_info.specs.declared.encoding.Encoding.{Encoding}
use Rattle.blz_info.specs.declared.forms.form.Form.{Form}
use Rattle.blz_info.specs.declared.forms.form.Form.TheVariants as forms
use Rattle.blz_info.specs.declared.forms.form.Form.TheVariants.{Numeric}
use Rattle.blz_info.specs.declared.text.StrBase.{StrBase}
use Rattle.blz_info.specs.declared.forms.value.AttrValue.{AttrValue}
use Rattle.blz_info.proofs.Sizes.{next_place, sized, behind_is}

look : {A : Type 0} (o : Option A) → (o ≡ None) ⊎ ((x : A) × (o ≡ Some x))
look None = inl refl
look (Some x) = inr (x, refl)

some_is : {A : Type 0} {x y : A} → Some x ≡ Some y → x ≡ y
some_is h = cc

then_none : (bytes : List ℕ) (o : Option ℕ) → (o >>= λ place. over 0 bytes place) ≡ o
unfolding over
then_none bytes None = refl
then_none bytes (Some place) = refl

both_passed : (n m : ℕ) (bytes : List ℕ) (at : ℕ) → (passed_over n bytes at >>= λ place. passed_over m bytes place) ≡ passed_over (n + m) bytes at
unfolding passed_over
both_passed n m bytes at = elim (cases_Bool (leb (at + n) (length bytes))) [
  | inl e ↦ let k : at + n + m ≡ at + (n + m) = omega arith in rw (e, k) refl
  | inr e ↦
      let past = leb-false _ _ e in
      let all = lt-leb (at + (n + m)) (length bytes) (omega arith) in
      rw (e, all) refl
]

over_over : (n m : ℕ) (bytes : List ℕ) (at : ℕ) → (over n bytes at >>= λ place. over m bytes place) ≡ over (n + m) bytes at
unfolding over
over_over n m bytes at = elim (cases_Bool (eqb n 0)) [
  | inl none ↦ let k = eqb-true n 0 none in let j : 0 + m ≡ m = omega arith in rw (k, j) refl
  | inr some ↦ elim (cases_Bool (eqb m 0)) [
    | inl none ↦ let k = eqb-true m 0 none in let j : n + 0 ≡ n = omega arith in rw (k, j) (then_none bytes (over n bytes at))
    | inr more ↦ let sum = ne_eqb (n + m) 0 (λ h. eqb-false n 0 some (omega arith)) in rw (some, more, sum) (both_passed n m bytes at)
  ]
]

form_passed : (o : Option Form) (e : Encoding) (s : Contents) (at n : ℕ) → form_size o e ≡ Some n → (o >>= λ f. behind_form f e s at) ≡ over n s.bytes at
unfolding behind_form
form_passed None e s at n h = absurd cc
form_passed (Some (Numeric field makes)) e s at n h = sized field e s at n h
form_passed (Some forms.Signed) e s at n h = absurd cc
form_passed (Some forms.Text) e s at n h = absurd cc

no_indirect : (code : ℕ) (e : Encoding) → code ≡ 0x16 → form_size (form_of code) e ≡ None
unfolding form_of
no_indirect code e h = rw h refl

attribute_passed : (a : AttrSpec) (e : Encoding) (s : Contents) (at n : ℕ) → attribute_size a e ≡ Some n → behind a e s at ≡ over n s.bytes at
unfolding behind behind_code over
attribute_passed a e s at n h = elim (cases_Bool (eqb a.form 0x21)) [
  | inl constant ↦ let k = rw constant at h in rw (constant, ← some_is k) refl
  | inr other ↦ elim (cases_Bool (eqb a.form 0x16)) [
    | inl indirect ↦ absurd (let k = rw other at h in let no = no_indirect a.form e (eqb-true a.form 0x16 indirect) in cc)
    | inr direct ↦ let k = rw other at h in rw (other, direct) (form_passed (form_of a.form) e s at n k)
  ]
]

-- one attribute, and then the others in one step
first_passed : (o : Read AttrValue) (n m : ℕ) (rest : ℕ → Option ℕ) (bytes : List ℕ) (at : ℕ) → next_place o ≡ over n bytes at → ((place : ℕ) → rest place ≡ over m bytes place) → (o >>= λ v. rest v.1) ≡ over (n + m) bytes at
first_passed None n m rest bytes at h others = ap (λ (o : Option ℕ). o >>= λ place. over m bytes place) h ∙ over_over n m bytes at
first_passed (Some v) n m rest bytes at h others = others v.1 ∙ ap (λ (o : Option ℕ). o >>= λ place. over m bytes place) h ∙ over_over n m bytes at

none_passed : (bytes : List ℕ) (at : ℕ) → Some at ≡ over 0 bytes at
unfolding over
none_passed bytes at = refl

pub passed_together : (specs : List AttrSpec) (e : Encoding) (base : StrBase) (s : Contents) (at n : ℕ) → size_together specs e ≡ Some n → passed specs e base s at ≡ over n s.bytes at
unfolding passed size_together
passed_together [] e base s at n h = let k : n ≡ 0 = sym (some_is h) in rw k (none_passed s.bytes at)
passed_together (a ∷ rest) e base s at n h =
    elim (look (attribute_size a e)) [
      | inl none ↦ absurd (let k = rw none at h in cc)
      | inr first ↦ elim (look (size_together rest e)) [
        | inl none ↦ absurd (let k = rw (first.1, none) at h in cc)
        | inr others ↦
            let k = rw (first.1, others.1) at h in
            rw (← some_is k) (first_passed (attribute a e base s at) first.0 others.0 (λ place. passed rest e base s place) s.bytes at (behind_is a e base s at ∙ attribute_passed a e s at first.0 first.1) (λ place. passed_together rest e base s place others.0 others.1))
      ]
    ]

pub together_more : (specs : List AttrSpec) (a : AttrSpec) (e : Encoding) (n m : ℕ) → size_together specs e ≡ Some n → attribute_size a e ≡ Some m → size_together (specs ++ a ∷ []) e ≡ Some (n + m)
unfolding size_together
together_more [] a e n m h k = let z : n ≡ 0 = sym (some_is h) in rw (k, z) (ap (λ (n : ℕ). Some n) (omega arith))
together_more (x ∷ rest) a e n m h k =
    elim (look (attribute_size x e)) [
      | inl none ↦ absurd (let q = rw none at h in cc)
      | inr first ↦ elim (look (size_together rest e)) [
        | inl none ↦ absurd (let q = rw (first.1, none) at h in cc)
        | inr others ↦
            let q = some_is (rw (first.1, others.1) at h) in
            let more = together_more rest a e others.0 m others.1 k in
            rw (first.1, more) (ap (λ (n : ℕ). Some n) (omega arith))
      ]
    ]
