-- Names of a table: texts that are UTF-8, and their tails.
use Rattle.std.proofs.Common.{◌≡◌, ℕ, zero, suc, ◌+◌, ◌-◌, ◌<◌, ◌≤◌, Bool, true, false, cond, eqb, List, [], ◌∷◌, length, take, drop, Option, Some, None, refl, sym, ap, subst, ◌∙◌, arith, length-drop}
use Rattle.std.proofs.lemmas.List.{drop-drop}
use Rattle.std.specs.Option.{option_map}
use Rattle.std.specs.Str.{is_utf8, IsCharBoundary}
use Rattle.std.proofs.lemmas.Str.{IsUtf8-drop, IsUtf8-from_is_utf8, is_utf8-from_IsUtf8}
use Rattle.std.proofs.lemmas.Bool.{le-leb}
use Rattle.blz_error.specs.declared.kind.ErrorKind.TheVariants.{InvalidData, InvalidInput}
use Rattle.blz_model.specs.Part.{Good, ◌>>=◌, or_mark, check}
use Rattle.blz_model.specs.Texts.{c_string, text_at, name_at}
use Rattle.blz_bytes.specs.declared.orders.NameSpan.{NameSpan}
use Rattle.blz_bytes.specs.NameOrder.{text_in}

-- a name that is read is the text that is there
pub name_text : (table : List ℕ) (at : ℕ) (name : List ℕ) → name_at table at ≡ Good name → text_at table at ≡ Some name
unfolding name_at
name_text table at name e = by (text_at table at) e
  where
    by : (o : Option (List ℕ)) → (or_mark o InvalidInput >>= λ text. check (is_utf8 text) InvalidData >>= λ utf8. Good text) ≡ Good name → o ≡ Some name
    by None e = absurd cc
    by (Some text) e = utf8 (is_utf8 text) e
      where
        utf8 : (t : Bool) → (check t InvalidData >>= λ u. Good text) ≡ Good name → Some text ≡ Some name
        utf8 true e = cc
        utf8 false e = absurd cc

-- a text stands at the front of the bytes, and a zero behind it
pub record Fronts (bytes text : List ℕ) : Type 0 where
  pub shorter : length text < length bytes
  pub is : take (length text) bytes ≡ text

pub c_string_fronts : (bytes text : List ℕ) → c_string bytes ≡ Some text → Fronts bytes text
c_string_fronts [] text e = absurd cc
c_string_fronts (b ∷ bytes) text e = by (c_string_fronts bytes) (eqb b 0) e
  where
    more : ((u : List ℕ) → c_string bytes ≡ Some u → Fronts bytes u) → (o : Option (List ℕ)) → c_string bytes ≡ o → option_map (λ (u : List ℕ). b ∷ u) o ≡ Some text → Fronts (b ∷ bytes) text
    more k None is f = absurd cc
    more k (Some u) is f =
        let t : b ∷ u ≡ text = cc in
        let h = k u is in
        rw (← t) (record { shorter = omega (arith, h.shorter); is = ap (λ (v : List ℕ). b ∷ v) h.is })

    by : ((u : List ℕ) → c_string bytes ≡ Some u → Fronts bytes u) → (t : Bool) → cond t (Some []) (option_map (λ (u : List ℕ). b ∷ u) (c_string bytes)) ≡ Some text → Fronts (b ∷ bytes) text
    by k true f = let t : [] ≡ text = cc in rw (← t) (record { shorter = omega arith; is = refl })
    by k false f = more k (c_string bytes) refl f

-- the span of a text that was found holds it
pub span_of_text : (table text : List ℕ) (at : ℕ) (s : NameSpan) → text_at table at ≡ Some text → s.start ≡ at → s.len ≡ length text → text_in table (Some s) ≡ text
span_of_text table text at s found start len =
    let h = c_string_fronts (drop at table) text found in
    let low : at + length text ≤ length table = omega (arith, h.shorter, length-drop at table) in
    let n : at + length text - at ≡ length text = omega arith in
    rw (start, len, le-leb (at + length text) (length table) low) (ap (λ (k : ℕ). take k (drop at table)) n ∙ h.is)

-- ---- a tail of a name

pub name_utf8 : (table : List ℕ) (at : ℕ) (name : List ℕ) → name_at table at ≡ Good name → is_utf8 name ≡ true
unfolding name_at
name_utf8 table at name e = by (text_at table at) e
  where
    by : (o : Option (List ℕ)) → (or_mark o InvalidInput >>= λ text. check (is_utf8 text) InvalidData >>= λ utf8. Good text) ≡ Good name → is_utf8 name ≡ true
    by None e = absurd cc
    by (Some text) e = utf8 (is_utf8 text) refl e
      where
        utf8 : (t : Bool) → is_utf8 text ≡ t → (check t InvalidData >>= λ u. Good text) ≡ Good name → is_utf8 name ≡ true
        utf8 true h e = let same : text ≡ name = cc in rw (← same) h
        utf8 false h e = absurd cc

c_string_tail : (bytes text : List ℕ) (k : ℕ) → c_string bytes ≡ Some text → k ≤ length text → c_string (drop k bytes) ≡ Some (drop k text)
c_string_tail bytes text zero e le = e
c_string_tail [] text (suc k) e le = absurd cc
c_string_tail (b ∷ bytes) text (suc k) e le = by (c_string_tail bytes) (eqb b 0) e
  where
    more : ((u : List ℕ) (j : ℕ) → c_string bytes ≡ Some u → j ≤ length u → c_string (drop j bytes) ≡ Some (drop j u)) → (o : Option (List ℕ)) → c_string bytes ≡ o → option_map (λ (u : List ℕ). b ∷ u) o ≡ Some text → c_string (drop k bytes) ≡ Some (drop (suc k) text)
    more tail None is f = absurd cc
    more tail (Some u) is f =
        let t : b ∷ u ≡ text = cc in
        let h : suc k ≤ length (b ∷ u) = subst (λ (v : List ℕ). suc k ≤ length v) (sym t) le in
        rw (← t) (tail u k is (omega arith))

    by : ((u : List ℕ) (j : ℕ) → c_string bytes ≡ Some u → j ≤ length u → c_string (drop j bytes) ≡ Some (drop j u)) → (t : Bool) → cond t (Some []) (option_map (λ (u : List ℕ). b ∷ u) (c_string bytes)) ≡ Some text → c_string (drop k bytes) ≡ Some (drop (suc k) text)
    by tail true f = let t : [] ≡ text = cc in let h : suc k ≤ 0 = subst (λ (v : List ℕ). suc k ≤ length v) (sym t) le in absurd (omega arith)
    by tail false f = more tail (c_string bytes) refl f

pub tail_read : (table name : List ℕ) (from at : ℕ) → name_at table from ≡ Good name → from ≤ at → IsCharBoundary name (at - from) → name_at table at ≡ Good (drop (at - from) name)
unfolding name_at
tail_read table name from at e le b =
    let found = c_string_tail (drop from table) name (at - from) (name_text table from name e) b.0 in
    let place : from + (at - from) ≡ at = omega arith in
    let there : text_at table at ≡ Some (drop (at - from) name) = subst (λ (p : ℕ). c_string (drop p table) ≡ Some (drop (at - from) name)) place (ap c_string (sym (drop-drop (at - from) from table)) ∙ found) in
    let utf8 = is_utf8-from_IsUtf8 (drop (at - from) name) (IsUtf8-drop name (at - from) (IsUtf8-from_is_utf8 name (name_utf8 table from name e)) b) in
    rw (there, utf8) refl
