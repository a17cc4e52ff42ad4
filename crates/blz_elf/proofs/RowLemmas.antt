-- Records of an image, one after another.
use Rattle.std.proofs.Common.{◌≡◌, ℕ, ◌+◌, ◌-◌, ◌*◌, ◌≤◌, List, [], ◌∷◌, length, map, drop, None, refl, ap, sym, ◌∙◌, arith, add_assoc, mul-add, length-drop}
use Rattle.std.proofs.lemmas.List.{get_or-drop, same_lists}
use Rattle.std.proofs.lemmas.List.FromFn.{length-map-range_with_len, get_or-map-range_with_len}
use Rattle.std.specs.List.{range_with_len, slice_get}
use Rattle.blz_image.specs.declared.format.Class.{Class}
use Rattle.blz_image.specs.declared.format.Format.{Format}
use Rattle.blz_image.specs.declared.span.Rows.{Rows}
use Rattle.blz_image.specs.Places.{rows_in}
use Rattle.blz_image.proofs.Tables.{count_is, item_is}

-- the rest of a list that is made from a function of the index
pub drop_is : {X : Type 0} (f g : ℕ → X) (n k : ℕ) (xs : List X) → map f (range_with_len 0 n) ≡ xs → k ≤ n → ((i : ℕ) → g i ≡ f (k + i)) → map g (range_with_len 0 (n - k)) ≡ drop k xs
drop_is f g n k xs e le after =
    let n-is = count_is f n xs e in
    let count : length (map g (range_with_len 0 (n - k))) ≡ n - k = length-map-range_with_len g 0 (n - k) in
    same_lists _ _ (count ∙ rw n-is (sym (length-drop k xs))) (λ i d lt.
    get_or-map-range_with_len g 0 (n - k) i i d (omega arith) (omega arith)
    ∙ after i
    ∙ sym (get_or-drop k xs i d ∙ item_is f n (k + i) xs d e (omega arith)))

shifted : (at size k i : ℕ) → at + size * k + size * i ≡ at + size * (k + i)
shifted at size k i = add_assoc at (size * k) (size * i) ∙ ap (λ n. at + n) (sym (mul-add size k i))

-- all rows but the first ones
pub rows_in-after : {A : Type 0} (record_at : Format → List ℕ → ℕ → A) (size : Class → ℕ) (image : List ℕ) (r s : Rows) (k : ℕ) (xs : List A) → rows_in record_at size image r ≡ xs → k ≤ r.count
    → s.format ≡ r.format → s.at ≡ r.at + size r.format.class * k → s.count ≡ r.count - k → rows_in record_at size image s ≡ drop k xs
rows_in-after record_at size image r s k xs e le format at count =
    let step = size r.format.class in
    rw (format, at, count) (drop_is (λ i. record_at r.format image (r.at + step * i)) (λ i. record_at r.format image (r.at + step * k + step * i)) r.count k xs e le (λ i. ap (record_at r.format image) (shifted r.at step k i)))

-- no first record
pub nil_from_first : {X : Type 0} (xs : List X) → None ≡ slice_get xs 0 → xs ≡ []
nil_from_first [] e = refl
nil_from_first (x ∷ xs) e = absurd cc
