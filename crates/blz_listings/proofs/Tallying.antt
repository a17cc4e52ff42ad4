-- Items that are tallied one by one have the tallies of the whole list.
use Rattle.std.proofs.Common.{◌≡◌, ◌+◌, ◌||◌, Bool, true, false, cond, List, [], ◌∷◌, ◌++◌, length, map, refl, sym, ap, ◌∙◌, fold, sum_by, if◌then◌else◌, append_assoc, arith}
use Rattle.std.specs.Prelude.{count_by}
use Rattle.std.specs.Cmp.{IsEquivalence}
use Rattle.std.specs.List.{list_any, AllByRecursion, IsDistinct}
use Rattle.std.proofs.lemmas.List.{append-nil}
use Rattle.std.proofs.lemmas.List.Folds.{list_any-append}
use Rattle.std.proofs.lemmas.List.Sums.{fold_push, sum_by-cons, sum_by_push}
use Rattle.std.proofs.lemmas.Map.Keys.{IsDistinct-push}
use Rattle.std.proofs.lemmas.Map.Steps.{list_any_congr}
use Rattle.blz_listings.specs.Tallies.{Tally, with_new, distinct, tally_of, tallies_of, tallied}

neither : (a b : Bool) → (a || b) ≡ false → (a ≡ false) × (b ≡ false)
neither true b e = absurd cc
neither false b e = (refl, e)

neither_of : (a b : Bool) → (a || (b || false)) ≡ false → (a ≡ false) × (b ≡ false)
neither_of true b e = absurd cc
neither_of false true e = absurd cc
neither_of false false e = (refl, refl)

false_unless : (b : Bool) → (b ≡ true → ⊥) → b ≡ false
false_unless true h = absurd (h refl)
false_unless false h = refl

module _ {K : Type 0} (same : K → K → Bool) (laws : IsEquivalence same) where
  count_push : (k : K) (items : List K) (x : K) → count_by (same k) (items ++ x ∷ []) ≡ count_by (same k) items + cond (same k x) 1 0
  count_push k items x = sum_by_push (λ y. cond (same k y) 1 0) items x

  -- one more of another item
  other_stays : (items : List K) (x k : K) → same k x ≡ false → tally_of same (items ++ x ∷ []) k ≡ tally_of same items k
  other_stays items x k isnt =
      let more = rw isnt at (count_push k items x) in
      let stays : count_by (same k) (items ++ x ∷ []) ≡ count_by (same k) items = omega (arith, more) in
      ap (λ n. record { item = k; count = n }) stays

  others_stay : (items : List K) (x : K) (seen : List K) → list_any (same x) seen ≡ false → map (tally_of same (items ++ x ∷ [])) seen ≡ map (tally_of same items) seen
  others_stay items x [] none = refl
  others_stay items x (s ∷ seen) none =
      let parts = neither (same x s) (list_any (same x) seen) none in
      let first = other_stays items x s (laws.symm s x ∙ parts.0) in
      let rest = others_stay items x seen parts.1 in
      λ i. first i ∷ rest i

  -- one more of the same
  counts_more : (items : List K) (x s : K) → same x s ≡ true → record { item = s; count = count_by (same s) items + 1 } ≡ tally_of same (items ++ x ∷ []) s
  counts_more items x s is =
      let turned : same s x ≡ true = laws.symm s x ∙ is in
      let more = rw turned at (count_push s items x) in
      ap (λ n. record { item = s; count = n }) (sym more)

  none_same : (x s : K) (seen : List K) → same x s ≡ true → AllByRecursion (λ y. same s y ≡ false) seen → list_any (same x) seen ≡ false
  none_same x s [] is apart = refl
  none_same x s (y ∷ seen) is apart =
      let isnt : same x y ≡ false = laws.congr x s y is ∙ apart.0 in
      rw isnt (none_same x s seen is apart.1)

  -- an item that is there
  seen_again : (items : List K) (x : K) (seen : List K) → IsDistinct same seen → list_any (same x) seen ≡ true
      → tallied same (map (tally_of same items) seen) x ≡ map (tally_of same (items ++ x ∷ [])) seen
  unfolding IsDistinct
  seen_again items x [] apart some = absurd cc
  seen_again items x (s ∷ seen) apart some = by (same x s) refl some (seen_again items x seen apart.1)
    where
      by : (b : Bool) → same x s ≡ b → (b || list_any (same x) seen) ≡ true
          → (list_any (same x) seen ≡ true → tallied same (map (tally_of same items) seen) x ≡ map (tally_of same (items ++ x ∷ [])) seen)
          → cond b (record { item = s; count = count_by (same s) items + 1 } ∷ map (tally_of same items) seen) (tally_of same items s ∷ tallied same (map (tally_of same items) seen) x)
          ≡ map (tally_of same (items ++ x ∷ [])) (s ∷ seen)
      by true is some later =
          let first = counts_more items x s is in
          let rest = sym (others_stay items x seen (none_same x s seen is apart.0)) in
          λ i. first i ∷ rest i
      by false isnt some later =
          let first = sym (other_stays items x s (laws.symm s x ∙ isnt)) in
          let rest = later some in
          λ i. first i ∷ rest i

  -- and one that is new
  seen_first : (items : List K) (x : K) (seen : List K) → list_any (same x) seen ≡ false → count_by (same x) items ≡ 0
      → tallied same (map (tally_of same items) seen) x ≡ map (tally_of same (items ++ x ∷ [])) (seen ++ x ∷ [])
  seen_first items x [] none zero =
      let more = rw (laws.refl x) at (count_push x items x) in
      let one : 1 ≡ count_by (same x) (items ++ x ∷ []) = omega (arith, more, zero) in
      ap (λ n. record { item = x; count = n } ∷ []) one
  seen_first items x (s ∷ seen) none zero =
      let parts = neither (same x s) (list_any (same x) seen) none in
      let first = sym (other_stays items x s (laws.symm s x ∙ parts.0)) in
      let rest = seen_first items x seen parts.1 zero in
      rw (parts.0) (λ i. first i ∷ rest i)

  -- ---- the distinct items

  apart_with : (seen : List K) (x : K) (b : Bool) → list_any (same x) seen ≡ b → IsDistinct same seen → IsDistinct same (if b then seen else seen ++ x ∷ [])
  apart_with seen x true is apart = apart
  apart_with seen x false is apart = IsDistinct-push laws seen x apart is

  apart_from : (items seen : List K) → IsDistinct same seen → IsDistinct same (fold (with_new same) seen items)
  apart_from [] seen apart = apart
  apart_from (x ∷ items) seen apart = apart_from items (with_new same seen x) (apart_with seen x (list_any (same x) seen) refl apart)

  -- no two of the distinct items are the same
  pub distinct_apart : (items : List K) → IsDistinct same (distinct same items)
  unfolding IsDistinct
  distinct_apart items = apart_from items [] tt

  unseen_step : (k x : K) (seen : List K) (b : Bool) → list_any (same x) seen ≡ b → list_any (same k) (if b then seen else seen ++ x ∷ []) ≡ false
      → (list_any (same k) seen ≡ false) × (same k x ≡ false)
  unseen_step k x seen true again h = (h, false_unless (same k x) (λ is. let e = list_any_congr laws k x seen is in cc))
  unseen_step k x seen false new h = neither_of (list_any (same k) seen) (same k x) (rw list_any-append at h)

  unseen_from : (k : K) (items seen : List K) → list_any (same k) (fold (with_new same) seen items) ≡ false
      → (list_any (same k) seen ≡ false) × (count_by (same k) items ≡ 0)
  unseen_from k [] seen h = (h, refl)
  unseen_from k (x ∷ items) seen h =
      let later = unseen_from k items (with_new same seen x) h in
      let here = unseen_step k x seen (list_any (same x) seen) refl later.0 in
      (here.0, rw (sum_by-cons, here.1) (omega (arith, later.1)))

  -- ---- one item more

  tallied_push : (items : List K) (x : K) → tallied same (tallies_of same items) x ≡ tallies_of same (items ++ x ∷ [])
  tallied_push items x = by (list_any (same x) (distinct same items)) refl ∙ ap (map (tally_of same (items ++ x ∷ []))) (sym (fold_push (with_new same) [] items x))
    where
      by : (b : Bool) → list_any (same x) (distinct same items) ≡ b
          → tallied same (tallies_of same items) x ≡ map (tally_of same (items ++ x ∷ [])) (if b then distinct same items else distinct same items ++ x ∷ [])
      by true is = seen_again items x (distinct same items) (distinct_apart items) is
      by false is = seen_first items x (distinct same items) is (unseen_from x items [] is).1

  tallied_from : (done items : List K) → fold (tallied same) (tallies_of same done) items ≡ tallies_of same (done ++ items)
  tallied_from done [] = ap (tallies_of same) (sym (append-nil done))
  tallied_from done (x ∷ items) =
      ap (λ ts. fold (tallied same) ts items) (tallied_push done x) ∙ tallied_from (done ++ x ∷ []) items ∙ ap (tallies_of same) (append_assoc done (x ∷ []) items)

  pub tallied_all : (items : List K) → fold (tallied same) [] items ≡ tallies_of same items
  tallied_all items = tallied_from [] items

  -- ---- the sum

  total_more : (ts : List (Tally K)) (x : K) → sum_by (λ t. t.count) (tallied same ts x) ≡ sum_by (λ t. t.count) ts + 1
  total_more [] x = refl
  total_more (t ∷ ts) x = by (same x t.item) (total_more ts x)
    where
      by : (b : Bool) → sum_by (λ t. t.count) (tallied same ts x) ≡ sum_by (λ t. t.count) ts + 1
          → sum_by (λ t. t.count) (cond b (record { item = t.item; count = t.count + 1 } ∷ ts) (t ∷ tallied same ts x)) ≡ sum_by (λ t. t.count) (t ∷ ts) + 1
      by true h = rw (sum_by-cons, sum_by-cons) (omega arith)
      by false h = rw (sum_by-cons, sum_by-cons) (omega (arith, h))

  total_from : (ts : List (Tally K)) (items : List K) → sum_by (λ t. t.count) (fold (tallied same) ts items) ≡ sum_by (λ t. t.count) ts + length items
  total_from ts [] = omega arith
  total_from ts (x ∷ items) = let rest = total_from (tallied same ts x) items in omega (arith, rest, total_more ts x)

  -- the numbers sum to that of the items
  pub tallies_total : (items : List K) → sum_by (λ t. t.count) (tallies_of same items) ≡ length items
  tallies_total items =
      let sums : sum_by (λ (t : Tally K). t.count) (fold (tallied same) [] items) ≡ length items = let h = total_from [] items in omega (arith, h) in
      ap (λ ts. sum_by (λ (t : Tally K). t.count) ts) (sym (tallied_all items)) ∙ sums
