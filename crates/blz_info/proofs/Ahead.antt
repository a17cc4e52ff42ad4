-- Each reader leads on, and not past the end.
use Rattle.std.proofs.Common.{◌≡◌, ℕ, zero, suc, ◌+◌, ◌-◌, ◌≤◌, ◌<◌, Bool, true, false, cond, ltb, leb, eqb, ◌*◌, ◌^◌, List, [], ◌∷◌, length, drop, Option, Some, None, refl, arith, inl, inr}
use Rattle.std.specs.Prelude.{ℤ, option_map, IfSome, slice_get}
use Rattle.std.specs.FinMap as map
use Rattle.std.proofs.lemmas.Bool.{cases_Bool, leb-true}
use Rattle.std.proofs.lemmas.Option.{slice_get_within, IfSome_then}
use Rattle.std.proofs.lemmas.List.{length-drop}
use Rattle.blz_model.specs.declared.byte_order.ByteOrder.{ByteOrder}
use Rattle.blz_model.specs.declared.leb.Leb.{Leb}
use Rattle.blz_model.specs.LebNumbers.{leb_in, uleb, sleb, fits_i64, signed}
use Rattle.blz_model.specs.Reads.{Read, ◌>>=◌, number}
use Rattle.blz_model.specs.Texts.{c_string, text_at}
use Rattle.blz_bytes.specs.Pieces.{zero_ended}
use Rattle.blz_relocations.specs.Relocations.{relocated}
use Rattle.blz_info.specs.Attributes.{form_for, direct_attribute, attribute, attributes}
use Rattle.blz_info.specs.Contents.{Contents, moved_number, address_at, offset_at, offset_len, skipped, block, field_at, bytes_in}
use Rattle.blz_info.specs.Forms.{text_here, value_by, made}
use Rattle.blz_info.specs.declared.abbreviations.AttrSpec.{AttrSpec}
use Rattle.blz_info.specs.declared.encoding.Encoding.{Encoding}
use Rattle.blz_info.specs.declared.forms.form.Field.{Field}
use Rattle.blz_info.specs.declared.forms.form.Field.TheVariants.{Nothing, Fixed, Address, Offset, RefAddress, Uleb, Sixteen, Block, UlebBlock}
use Rattle.blz_info.specs.declared.forms.form.Form.{Form}
use Rattle.blz_info.specs.declared.forms.form.Form.TheVariants as forms
use Rattle.blz_info.specs.declared.forms.form.Form.TheVariants.{Numeric}
use Rattle.blz_info.specs.declared.text.StrBase.{StrBase}
use Rattle.blz_info.specs.declared.forms.value.AttrValue.{AttrValue}
use Rattle.blz_info.specs.declared.forms.value.AttrValue.TheVariants.{Signed, Text}

abbrev pub Ahead : {A : Type 0} → List ℕ → ℕ → Read A → Type 0
Ahead bytes at o = IfSome o (λ r. (at ≤ r.1) × (r.1 ≤ length bytes))

abbrev pub Past : {A : Type 0} → List ℕ → ℕ → Read A → Type 0
Past bytes at o = IfSome o (λ r. (at < r.1) × (r.1 ≤ length bytes))

pub number_ahead : (order : ByteOrder) (n : ℕ) (bytes : List ℕ) (at : ℕ) → Ahead bytes at (number order n bytes at)
number_ahead order n bytes at =
    elim (cases_Bool (leb (at + n) (length bytes))) [ inl t ↦ rw t (omega arith, leb-true _ _ t) | inr f ↦ rw f tt ]

skipped_ahead : (n : ℕ) (bytes : List ℕ) (at : ℕ) → Ahead bytes at (skipped n bytes at)
unfolding skipped
skipped_ahead n bytes at =
    elim (cases_Bool (leb (at + n) (length bytes))) [ inl t ↦ rw t (omega arith, leb-true _ _ t) | inr f ↦ rw f tt ]

leb_more : (bytes : List ℕ) (at byte : ℕ) (o : Read Leb) → Past bytes (at + 1) o → Past {A = Leb} bytes at (o >>= λ rest. Some (record { value = byte - 128 + 128 * rest.0.value; weight = 128 * rest.0.weight; negative = rest.0.negative }, rest.1))
leb_more bytes at byte None h = tt
leb_more bytes at byte (Some r) h = (omega (arith, h), h.1)

leb_here : (n : ℕ) (bytes : List ℕ) (at : ℕ) (o : Option ℕ) → slice_get bytes at ≡ o → ((k : ℕ) → Past bytes k (leb_in n bytes k)) → Past {A = Leb} bytes at (o >>= λ byte. cond (ltb byte 128) (Some (record { value = byte; weight = 128; negative = leb 64 byte }, at + 1)) (leb_in n bytes (at + 1) >>= λ rest. Some (record { value = byte - 128 + 128 * rest.0.value; weight = 128 * rest.0.weight; negative = rest.0.negative }, rest.1)))
leb_here n bytes at None e h = tt
leb_here n bytes at (Some byte) e h =
    let lt = slice_get_within bytes at byte e in
    elim (cases_Bool (ltb byte 128)) [ inl t ↦ rw t (omega arith, omega (arith, lt)) | inr f ↦ rw f (leb_more bytes at byte (leb_in n bytes (at + 1)) (h (at + 1))) ]

leb_past : (n : ℕ) (bytes : List ℕ) (at : ℕ) → Past bytes at (leb_in n bytes at)
unfolding leb_in
leb_past zero bytes at = tt
leb_past (suc n) bytes at = leb_here n bytes at (slice_get bytes at) refl (λ k. leb_past n bytes k)

uleb_of : (bytes : List ℕ) (at : ℕ) (o : Read Leb) → Past bytes at o → Past bytes at (o >>= λ r. cond (ltb r.0.value (2 ^ 64)) (Some (r.0.value, r.1)) None)
uleb_of bytes at None h = tt
uleb_of bytes at (Some r) h = elim (cases_Bool (ltb r.0.value (2 ^ 64))) [ inl t ↦ rw t h | inr f ↦ rw f tt ]

pub uleb_past : (bytes : List ℕ) (at : ℕ) → Past bytes at (uleb bytes at)
unfolding uleb
uleb_past bytes at = uleb_of bytes at (leb_in 10 bytes at) (leb_past 10 bytes at)

pub bind_ahead : {A B : Type 0} (bytes : List ℕ) (at : ℕ) (o : Read A) (f : A × ℕ → Read B) → Ahead bytes at o → ((r : A × ℕ) → at ≤ r.1 → r.1 ≤ length bytes → Ahead bytes r.1 (f r)) → Ahead bytes at (o >>= f)
bind_ahead bytes at None f h k = tt
bind_ahead {A} {B} bytes at (Some r) f h k = IfSome_then (f r) {Q = λ r. (at ≤ r.1) × (r.1 ≤ length bytes)} (k r h.0 h.1) (λ x p. (omega (arith, p, h), p.1))

pub map_ahead : {A B : Type 0} (bytes : List ℕ) (at : ℕ) (o : Read A) (g : A × ℕ → B) → Ahead bytes at o → Ahead bytes at (o >>= λ r. Some (g r, r.1))
map_ahead bytes at None g h = tt
map_ahead bytes at (Some r) g h = h

pub weaker : {A : Type 0} (bytes : List ℕ) (at : ℕ) (o : Read A) → Past bytes at o → Ahead bytes at o
weaker bytes at None h = tt
weaker bytes at (Some r) h = (omega (arith, h), h.1)

pub if_ahead : {A : Type 0} (bytes : List ℕ) (at : ℕ) (b : Bool) (o p : Read A) → Ahead bytes at o → Ahead bytes at p → Ahead bytes at (cond b o p)
if_ahead bytes at true o p h k = h
if_ahead bytes at false o p h k = k

signed_ahead : (bytes : List ℕ) (at : ℕ) (r : Leb × ℕ) (o : Option ℤ) → r.1 ≤ length bytes → Ahead bytes r.1 (o >>= λ v. Some (v, r.1))
signed_ahead bytes at r None h = tt
signed_ahead bytes at r (Some v) h = (omega arith, h)

sleb_ahead : (bytes : List ℕ) (at : ℕ) → Ahead bytes at (sleb bytes at)
unfolding sleb
sleb_ahead bytes at = bind_ahead bytes at (leb_in 10 bytes at) (λ r. fits_i64 (signed r.0) >>= λ v. Some (v, r.1)) (weaker bytes at _ (leb_past 10 bytes at)) (λ r p q. signed_ahead bytes at r (fits_i64 (signed r.0)) q)

moved_ahead : (n : ℕ) (s : Contents) (at : ℕ) → Ahead s.bytes at (moved_number n s at)
unfolding moved_number
moved_ahead n s at = map_ahead s.bytes at (number s.order n s.bytes at) (λ x. relocated (map.get s.relocations at) x.0) (number_ahead s.order n s.bytes at)

address_ahead : (size : ℕ) (s : Contents) (at : ℕ) → Ahead s.bytes at (address_at size s at)
unfolding address_at
address_ahead size s at = if_ahead s.bytes at (eqb size 4) _ _ (moved_ahead 4 s at) (if_ahead s.bytes at (eqb size 8) _ _ (moved_ahead 8 s at) tt)

offset_ahead : (wide : Bool) (s : Contents) (at : ℕ) → Ahead s.bytes at (offset_at wide s at)
unfolding offset_at
offset_ahead wide s at = moved_ahead (offset_len wide) s at

block_ahead : (bytes : List ℕ) (at : ℕ) (o : Read ℕ) → Ahead bytes at o → Ahead bytes at (block o bytes)
unfolding block
block_ahead bytes at o h = bind_ahead bytes at o (λ n. skipped n.0 bytes n.1) h (λ r p q. skipped_ahead r.0 bytes r.1)

field_ahead : (f : Field) (z : Encoding) (s : Contents) (at : ℕ) → at ≤ length s.bytes → Ahead s.bytes at (field_at f z s at)
unfolding field_at
field_ahead Nothing z s at le = (omega arith, le)
field_ahead (Fixed w) z s at le = number_ahead s.order (bytes_in w) s.bytes at
field_ahead Address z s at le = address_ahead z.address_size s at
field_ahead Offset z s at le = offset_ahead z.wide s at
field_ahead RefAddress z s at le = if_ahead s.bytes at (eqb z.version 2) _ _ (address_ahead z.address_size s at) (offset_ahead z.wide s at)
field_ahead Uleb z s at le = weaker s.bytes at _ (uleb_past s.bytes at)
field_ahead Sixteen z s at le = skipped_ahead 16 s.bytes at
field_ahead (Block w) z s at le = block_ahead s.bytes at _ (number_ahead s.order (bytes_in w) s.bytes at)
field_ahead UlebBlock z s at le = block_ahead s.bytes at _ (weaker s.bytes at _ (uleb_past s.bytes at))

text_read : (base : StrBase) (bytes : List ℕ) (at : ℕ) → at ≤ length bytes → (o : Option (List ℕ)) → text_at bytes at ≡ o → Ahead {A = AttrValue} bytes at (option_map {U = List ℕ × ℕ} (λ (text : List ℕ). (text, at + length text + 1)) o >>= λ text. Some (Text (record { part = base.part; start = base.start + at; len = length text.0 }), text.1))
text_read base bytes at le None e = tt
text_read base bytes at le (Some text) e = let p = text_within (drop at bytes) text e in (omega arith, omega (arith, p, length-drop at bytes))
  where
    longer : (b : ℕ) (bytes text : List ℕ) (o : Option (List ℕ)) → c_string bytes ≡ o → ((x : List ℕ) → c_string bytes ≡ Some x → length x < length bytes) → option_map (λ (t : List ℕ). b ∷ t) o ≡ Some text → length text < length (b ∷ bytes)
    longer b bytes text None is within e = absurd cc
    longer b bytes text (Some x) is within e = let same : b ∷ x ≡ text = cc in let lt = within x is in rw (← same) (omega (arith, lt))

    text_within : (bytes text : List ℕ) → c_string bytes ≡ Some text → length text < length bytes
    text_within [] text e = absurd cc
    text_within (b ∷ bytes) text e = elim (cases_Bool (eqb b 0)) [
      | inl t ↦ let k = rw t at e in let empty : [] ≡ text = cc in rw (← empty) (omega arith)
      | inr f ↦ longer b bytes text (c_string bytes) refl (λ x p. text_within bytes x p) (rw f at e)
    ]

text_ahead : (base : StrBase) (bytes : List ℕ) (at : ℕ) → at ≤ length bytes → Ahead bytes at (text_here base bytes at)
unfolding text_here zero_ended
text_ahead base bytes at le = text_read base bytes at le (text_at bytes at) refl

value_ahead : (r : Form) (z : Encoding) (base : StrBase) (s : Contents) (at : ℕ) → at ≤ length s.bytes → Ahead s.bytes at (value_by r z base s at)
unfolding value_by
value_ahead (Numeric f m) z base s at le = map_ahead s.bytes at (field_at f z s at) (λ n. made m n.0) (field_ahead f z s at le)
value_ahead forms.Signed z base s at le = map_ahead s.bytes at (sleb s.bytes at) (λ n. Signed n.0) (sleb_ahead s.bytes at)
value_ahead forms.Text z base s at le = text_ahead base s.bytes at le

form_ahead : (o : Option Form) (z : Encoding) (base : StrBase) (s : Contents) (at : ℕ) → at ≤ length s.bytes → Ahead {A = AttrValue} s.bytes at (o >>= λ form. value_by form z base s at)
form_ahead None z base s at le = tt
form_ahead (Some r) z base s at le = value_ahead r z base s at le

direct_ahead : (name code : ℕ) (z : Encoding) (base : StrBase) (s : Contents) (at : ℕ) → at ≤ length s.bytes → Ahead s.bytes at (direct_attribute name code z base s at)
unfolding direct_attribute
direct_ahead name code z base s at le = form_ahead (form_for name z code) z base s at le

pub attribute_ahead : (a : AttrSpec) (z : Encoding) (base : StrBase) (s : Contents) (at : ℕ) → at ≤ length s.bytes → Ahead s.bytes at (attribute a z base s at)
unfolding attribute
attribute_ahead a z base s at le =
    if_ahead s.bytes at (eqb a.form 0x21) _ _ (omega arith, le) (if_ahead s.bytes at (eqb a.form 0x16) _ _
    (bind_ahead s.bytes at (uleb s.bytes at) (λ f. direct_attribute a.name f.0 z base s f.1) (weaker s.bytes at _ (uleb_past s.bytes at)) (λ r p q. direct_ahead a.name r.0 z base s r.1 q))
    (direct_ahead a.name a.form z base s at le))

pub attributes_ahead : (specs : List AttrSpec) (z : Encoding) (base : StrBase) (s : Contents) (at : ℕ) → at ≤ length s.bytes → Ahead s.bytes at (attributes specs z base s at)
unfolding attributes
attributes_ahead [] z base s at le = (omega arith, le)
attributes_ahead (a ∷ rest) z base s at le =
    bind_ahead s.bytes at (attribute a z base s at) (λ v. attributes rest z base s v.1 >>= λ others. Some ((a.name, v.0) ∷ others.0, others.1)) (attribute_ahead a z base s at le) (λ v p q.
    map_ahead s.bytes v.1 (attributes rest z base s v.1) (λ others. (a.name, v.0) ∷ others.0) (attributes_ahead rest z base s v.1 q))

-- an address takes bytes
pub address_past : (size : ℕ) (s : Contents) (at : ℕ) → Past s.bytes at (address_at size s at)
unfolding address_at moved_number
address_past size s at = elim (cases_Bool (eqb size 4)) [
  | inl four ↦ rw four (fixed_past 4 (omega arith) s at)
  | inr other ↦ elim (cases_Bool (eqb size 8)) [
    | inl eight ↦ rw (other, eight) (fixed_past 8 (omega arith) s at)
    | inr none ↦ rw (other, none) tt
  ]
]
  where
    fixed_past : (n : ℕ) → 0 < n → (s : Contents) (at : ℕ) → Past {A = ℕ} s.bytes at (number s.order n s.bytes at >>= λ x. Some (relocated (map.get s.relocations at) x.0, x.1))
    fixed_past n some s at = elim (cases_Bool (leb (at + n) (length s.bytes))) [ inl t ↦ rw t (omega arith, leb-true _ _ t) | inr f ↦ rw f tt ]
