-- The place behind an attribute is where its size tells, and does not hang on its value.
use Rattle.std.proofs.Common.{◌≡◌, ◌∙◌, ℕ, ◌+◌, Bool, true, false, eqb, leb, List, length, Option, Some, None, refl, sym, ap, inl, inr}
use Rattle.std.specs.Prelude.{option_map, ◌&&◌, ◌||◌, if◌then◌else◌, nat_lt}
use Rattle.std.proofs.lemmas.Bool.{cases_Bool, and_parts, eqb-true}
use Rattle.blz_model.specs.declared.byte_order.ByteOrder.{ByteOrder}
use Rattle.blz_model.specs.Reads.{Read, ◌>>=◌, number, passed_over}
use Rattle.blz_model.specs.LebNumbers.{uleb}
use Rattle.blz_info.specs.Contents.{Contents, number_at, moved_number, address_at, offset_at, offset_len, skipped, field_at}
use Rattle.blz_info.specs.Forms.{form_of, text_here, value_by}
use Rattle.blz_info.specs.Attributes.{is_offset, form_for, direct_attribute, attribute}
use Rattle.blz_info.specs.Sizes.{address_len, size_of, over, behind_form, behind_code, behind}
use Rattle.blz_info.specs.declared.abbreviations.AttrSpec.{AttrSpec}
use Rattle.blz_info.specs.declared.encoding.Encoding.{Encoding}
use Rattle.blz_info.specs.declared.forms.form.Width.TheVariants.{One, Two, Three, Four, Eight}
use Rattle.blz_info.specs.declared.forms.form.Field.{Field}
use Rattle.blz_info.specs.declared.forms.form.Field.TheVariants.{Nothing, Fixed, Address, Offset, RefAddress, Uleb, Sixteen, Block, UlebBlock}
use Rattle.blz_info.specs.declared.forms.form.Makes.TheVariants as makes
use Rattle.blz_info.specs.declared.forms.form.Form.{Form}
use Rattle.blz_info.specs.declared.forms.form.Form.TheVariants as forms
use Rattle.blz_info.specs.declared.forms.form.Form.TheVariants.{Numeric}
use Rattle.blz_info.specs.declared.text.StrBase.{StrBase}

-- the place behind what is read
abbrev pub next_place : {A : Type 0} → Read A → Option ℕ
next_place o = option_map (λ r. r.1) o

same_place : {A B : Type 0} (f : A × ℕ → B) (o : Read A) → next_place (o >>= λ r. Some (f r, r.1)) ≡ next_place o
same_place f None = refl
same_place f (Some r) = refl

number_behind : (order : ByteOrder) (n : ℕ) (bytes : List ℕ) (at : ℕ) → next_place (number order n bytes at) ≡ passed_over n bytes at
unfolding passed_over
number_behind order n bytes at = elim (cases_Bool (leb (at + n) (length bytes))) [
  | inl e ↦ rw e refl
  | inr e ↦ rw e refl
]

moved_behind : (n : ℕ) (s : Contents) (at : ℕ) → next_place (moved_number n s at) ≡ passed_over n s.bytes at
unfolding moved_number
moved_behind n s at = same_place _ (number_at n s at) ∙ number_behind s.order n s.bytes at

skipped_behind : (n : ℕ) (bytes : List ℕ) (at : ℕ) → next_place (skipped n bytes at) ≡ passed_over n bytes at
unfolding passed_over skipped
skipped_behind n bytes at = elim (cases_Bool (leb (at + n) (length bytes))) [
  | inl e ↦ rw e refl
  | inr e ↦ rw e refl
]

some_is : {A : Type 0} {x y : A} → Some x ≡ Some y → x ≡ y
some_is h = cc

address_behind : (size : ℕ) (s : Contents) (at n : ℕ) → address_len size ≡ Some n → next_place (address_at size s at) ≡ over n s.bytes at
unfolding address_at over
address_behind size s at n h = elim (cases_Bool (eqb size 4)) [
  | inl four ↦
      let k = rw four at h in
      let same : n ≡ 4 = sym (some_is k) ∙ eqb-true size 4 four in
      rw (four, same) (moved_behind 4 s at)
  | inr other ↦ elim (cases_Bool (eqb size 8)) [
    | inl eight ↦
        let k = rw (other, eight) at h in
        let same : n ≡ 8 = sym (some_is k) ∙ eqb-true size 8 eight in
        rw (other, eight, same) (moved_behind 8 s at)
    | inr none ↦ absurd (let k = rw (other, none) at h in cc)
  ]
]

offset_behind : (wide : Bool) (s : Contents) (at : ℕ) → next_place (offset_at wide s at) ≡ over (offset_len wide) s.bytes at
unfolding offset_at over
offset_behind true s at = moved_behind 8 s at
offset_behind false s at = moved_behind 4 s at

pub sized : (f : Field) (e : Encoding) (s : Contents) (at n : ℕ) → size_of f e ≡ Some n → option_map (λ r. r.1) (field_at f e s at) ≡ over n s.bytes at
unfolding field_at over
sized Nothing e s at n h = rw (← some_is h) refl
sized (Fixed One) e s at n h = rw (← some_is h) (number_behind s.order 1 s.bytes at)
sized (Fixed Two) e s at n h = rw (← some_is h) (number_behind s.order 2 s.bytes at)
sized (Fixed Three) e s at n h = rw (← some_is h) (number_behind s.order 3 s.bytes at)
sized (Fixed Four) e s at n h = rw (← some_is h) (number_behind s.order 4 s.bytes at)
sized (Fixed Eight) e s at n h = rw (← some_is h) (number_behind s.order 8 s.bytes at)
sized Address e s at n h = address_behind e.address_size s at n h
sized Offset e s at n h = rw (← some_is h) (offset_behind e.wide s at)
sized RefAddress e s at n h = elim (cases_Bool (eqb e.version 2)) [
  | inl two ↦ let k = rw two at h in rw two (address_behind e.address_size s at n k)
  | inr later ↦ let k = rw later at h in rw (later, ← some_is k) (offset_behind e.wide s at)
]
sized Uleb e s at n h = absurd cc
sized Sixteen e s at n h = rw (← some_is h) (skipped_behind 16 s.bytes at)
sized (Block w) e s at n h = absurd cc
sized UlebBlock e s at n h = absurd cc

pub behind_value : (f : Form) (e : Encoding) (base : StrBase) (s : Contents) (at : ℕ) → next_place (value_by f e base s at) ≡ behind_form f e s at
unfolding value_by behind_form text_here
behind_value (Numeric field makes) e base s at = same_place _ (field_at field e s at)
behind_value forms.Signed e base s at = same_place _ _
behind_value forms.Text e base s at = same_place _ _

behind_opened : (o : Option Form) (e : Encoding) (base : StrBase) (s : Contents) (at : ℕ) → next_place (o >>= λ f. value_by f e base s at) ≡ (o >>= λ f. behind_form f e s at)
behind_opened None e base s at = refl
behind_opened (Some f) e base s at = behind_value f e base s at

-- before version 4 an offset has the size of the number that it is written as
offset_as_number : (e : Encoding) (base : StrBase) (s : Contents) (at : ℕ) → next_place (value_by (Numeric Offset makes.SecOffset) e base s at) ≡ behind_code (if e.wide then 7 else 6) e s at
unfolding value_by field_at offset_at behind_code form_of behind_form
offset_as_number e base s at = elim (cases_Bool e.wide) [
  | inl wide ↦ rw wide (same_place _ (moved_number 8 s at) ∙ moved_behind 8 s at ∙ sym (number_behind s.order 8 s.bytes at))
  | inr narrow ↦ rw narrow (same_place _ (moved_number 4 s at) ∙ moved_behind 4 s at ∙ sym (number_behind s.order 4 s.bytes at))
]

behind_direct : (name code : ℕ) (e : Encoding) (base : StrBase) (s : Contents) (at : ℕ) → next_place (direct_attribute name code e base s at) ≡ behind_code code e s at
unfolding direct_attribute form_for behind_code
behind_direct name code e base s at = elim (cases_Bool (is_offset name e code)) [
  | inl moved ↦
      let size = eqb-true code (if e.wide then 7 else 6) (and_parts ((eqb name 0x10 || eqb name 0x55) && nat_lt e.version 4) (eqb code (if e.wide then 7 else 6)) moved).1 in
      rw moved (offset_as_number e base s at ∙ ap (λ (code : ℕ). behind_code code e s at) (sym size))
  | inr same ↦ rw same (behind_opened (form_of code) e base s at)
]

behind_indirect : (name : ℕ) (o : Read ℕ) (e : Encoding) (base : StrBase) (s : Contents) → next_place (o >>= λ inner. direct_attribute name inner.0 e base s inner.1) ≡ (o >>= λ inner. behind_code inner.0 e s inner.1)
behind_indirect name None e base s = refl
behind_indirect name (Some r) e base s = behind_direct name r.0 e base s r.1

pub behind_is : (a : AttrSpec) (e : Encoding) (base : StrBase) (s : Contents) (at : ℕ) → option_map (λ r. r.1) (attribute a e base s at) ≡ behind a e s at
unfolding attribute behind
behind_is a e base s at = elim (cases_Bool (eqb a.form 0x21)) [
  | inl constant ↦ rw constant refl
  | inr other ↦ elim (cases_Bool (eqb a.form 0x16)) [
    | inl indirect ↦ rw (other, indirect) (behind_indirect a.name (uleb s.bytes at) e base s)
    | inr direct ↦ rw (other, direct) (behind_direct a.name a.form e base s at)
  ]
]
