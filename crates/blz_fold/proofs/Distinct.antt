-- Lists in which each item stands once.
use Rattle.std.proofs.Common.{◌≡◌, Bool, true, false, ◌||◌, List, [], ◌∷◌, ◌++◌, refl, sym, ap, ◌∙◌, if◌then◌else◌, append_assoc}
use Rattle.std.specs.Bool.{Decides}
use Rattle.std.specs.List.{fold, flat_map, list_any, AllByRecursion, IsDistinct}
use Rattle.std.proofs.lemmas.Bool.Decides.{same_from_decides, Decides-like}
use Rattle.std.proofs.lemmas.List.{append-nil}
use Rattle.std.proofs.lemmas.List.Folds.{list_any-append}
use Rattle.std.proofs.lemmas.List.Sums.{fold-append}
use Rattle.blz_fold.specs.Counted.{with_new, distinct}

pub or_false : (b : Bool) → (b || false) ≡ b
or_false true = refl
or_false false = refl

pub or_true : (b : Bool) → (b || true) ≡ true
or_true true = refl
or_true false = refl

pub or_assoc : (a b c : Bool) → ((a || b) || c) ≡ (a || (b || c))
or_assoc true b c = refl
or_assoc false b c = refl

pub neither : (a b : Bool) → (a || b) ≡ false → (a ≡ false) × (b ≡ false)
neither true b e = absurd cc
neither false b e = (refl, e)

pub all_push : {K : Type 0} (Q : K → Type 0) (xs : List K) (x : K) → AllByRecursion Q xs → Q x → AllByRecursion Q (xs ++ x ∷ [])
all_push Q [] x all one = (one, tt)
all_push Q (y ∷ ys) x all one = (all.0, all_push Q ys x all.1 one)

pub all_append : {K : Type 0} (Q : K → Type 0) (xs ys : List K) → AllByRecursion Q xs → AllByRecursion Q ys → AllByRecursion Q (xs ++ ys)
all_append Q [] ys all more = more
all_append Q (x ∷ xs) ys all more = (all.0, all_append Q xs ys all.1 more)

pub all_weaker : {K : Type 0} (Q R : K → Type 0) → ((x : K) → Q x → R x) → (xs : List K) → AllByRecursion Q xs → AllByRecursion R xs
all_weaker Q R weaker [] all = tt
all_weaker Q R weaker (x ∷ xs) all = (weaker x all.0, all_weaker Q R weaker xs all.1)

-- what holds of all items holds of the distinct ones
pub all_distinct : {K : Type 0} (same : K → K → Bool) (Q : K → Type 0) (xs seen : List K) → AllByRecursion Q seen → AllByRecursion Q xs → AllByRecursion Q (fold (with_new same) seen xs)
all_distinct same Q [] seen all more = all
all_distinct same Q (x ∷ xs) seen all more = all_distinct same Q xs (with_new same seen x) (kept (list_any (same x) seen)) more.1
  where
    kept : (b : Bool) → AllByRecursion Q (if b then seen else seen ++ x ∷ [])
    kept true = all
    kept false = all_push Q seen x all more.0

module _ {K : Type 0} (same : K → K → Bool) (decides : (x y : K) → Decides (same x y) (x ≡ y)) where
  pub same_itself : (x : K) → same x x ≡ true
  same_itself x = (decides x x).1 refl

  pub same_swapped : (x y : K) → same x y ≡ same y x
  same_swapped x y = same_from_decides (same x y) (same y x) (decides x y) (Decides-like (same y x) (λ e. sym e) (λ e. sym e) (decides y x))

  any_with_new : (k : K) (seen : List K) (x : K) → list_any (same k) (with_new same seen x) ≡ (list_any (same k) seen || same k x)
  any_with_new k seen x = by (list_any (same x) seen) refl (same k x) refl
    where
      by : (b : Bool) → list_any (same x) seen ≡ b → (c : Bool) → same k x ≡ c → list_any (same k) (if b then seen else seen ++ x ∷ []) ≡ (list_any (same k) seen || c)
      by true there true is = ap (λ z. list_any (same z) seen) ((decides k x).0 is) ∙ there ∙ sym (or_true (list_any (same k) seen))
      by true there false is = sym (or_false (list_any (same k) seen))
      by false there c is = list_any-append (same k) seen (x ∷ []) ∙ ap (λ z. list_any (same k) seen || z) (or_false (same k x) ∙ is)

  any_grown : (k : K) (xs seen : List K) → list_any (same k) (fold (with_new same) seen xs) ≡ (list_any (same k) seen || list_any (same k) xs)
  any_grown k [] seen = sym (or_false (list_any (same k) seen))
  any_grown k (x ∷ xs) seen = any_grown k xs (with_new same seen x) ∙ ap (λ b. b || list_any (same k) xs) (any_with_new k seen x) ∙ or_assoc (list_any (same k) seen) (same k x) (list_any (same k) xs)

  -- the distinct items are the items
  pub any_distinct : (k : K) (xs : List K) → list_any (same k) (distinct same xs) ≡ list_any (same k) xs
  any_distinct k xs = any_grown k xs []

  pub distinct_push : (seen : List K) (x : K) → IsDistinct same seen → list_any (same x) seen ≡ false → IsDistinct same (seen ++ x ∷ [])
  unfolding IsDistinct
  distinct_push [] x apart none = (tt, tt)
  distinct_push (y ∷ ys) x apart none =
      let parts = neither (same x y) (list_any (same x) ys) none in
      (all_push (λ z. same y z ≡ false) ys x apart.0 (same_swapped y x ∙ parts.0), distinct_push ys x apart.1 parts.1)

  distinct_grown : (xs seen : List K) → IsDistinct same seen → IsDistinct same (fold (with_new same) seen xs)
  distinct_grown [] seen apart = apart
  distinct_grown (x ∷ xs) seen apart = distinct_grown xs (with_new same seen x) (kept (list_any (same x) seen) refl)
    where
      kept : (b : Bool) → list_any (same x) seen ≡ b → IsDistinct same (if b then seen else seen ++ x ∷ [])
      kept true there = apart
      kept false none = distinct_push seen x apart none

  none_apart : IsDistinct same []
  unfolding IsDistinct
  none_apart = tt

  -- no two of the distinct items are the same
  pub distinct_apart : (xs : List K) → IsDistinct same (distinct same xs)
  distinct_apart xs = distinct_grown xs [] none_apart

  -- items that are there already add nothing
  pub nothing_new : (seen xs : List K) → AllByRecursion (λ x. list_any (same x) seen ≡ true) xs → fold (with_new same) seen xs ≡ seen
  nothing_new seen [] there = refl
  nothing_new seen (x ∷ xs) there = ap (λ b. fold (with_new same) (if b then seen else seen ++ x ∷ []) xs) there.0 ∙ nothing_new seen xs there.1

  all_in : (xs ys : List K) → AllByRecursion (λ x. list_any (same x) (ys ++ xs) ≡ true) xs
  all_in [] ys = tt
  all_in (x ∷ xs) ys =
      let here : list_any (same x) (ys ++ x ∷ xs) ≡ true = list_any-append (same x) ys (x ∷ xs) ∙ ap (λ b. list_any (same x) ys || (b || list_any (same x) xs)) (same_itself x) ∙ or_true (list_any (same x) ys) in
      (here, all_weaker (λ z. list_any (same z) ((ys ++ x ∷ []) ++ xs) ≡ true) (λ z. list_any (same z) (ys ++ x ∷ xs) ≡ true) (λ z e. sym (ap (λ l. list_any (same z) l) (append_assoc ys (x ∷ []) xs)) ∙ e) xs (all_in xs (ys ++ x ∷ [])))

  -- each item of a list is in it
  pub all_among : (xs : List K) → AllByRecursion (λ x. list_any (same x) xs ≡ true) xs
  all_among xs = all_in xs []

pub flat_map-append : {A B : Type 0} (f : A → List B) (xs ys : List A) → flat_map f (xs ++ ys) ≡ flat_map f xs ++ flat_map f ys
flat_map-append f [] ys = refl
flat_map-append f (x ∷ xs) ys = ap (λ z. f x ++ z) (flat_map-append f xs ys) ∙ sym (append_assoc (f x) (flat_map f xs) (flat_map f ys))

module _ {A K : Type 0} (alike : A → A → Bool) (alike_decides : (x y : A) → Decides (alike x y) (x ≡ y)) (same : K → K → Bool) (decides : (x y : K) → Decides (same x y) (x ≡ y)) (f : A → List K) where
  -- what an item gives is there where the item is
  given : (x : A) (seen : List A) → list_any (alike x) seen ≡ true → AllByRecursion (λ y. list_any (same y) (flat_map f seen) ≡ true) (f x)
  given x [] none = absurd cc
  given x (z ∷ seen) there = by (alike x z) refl there (given x seen)
    where
      by : (b : Bool) → alike x z ≡ b → (b || list_any (alike x) seen) ≡ true → (list_any (alike x) seen ≡ true → AllByRecursion (λ y. list_any (same y) (flat_map f seen) ≡ true) (f x)) → AllByRecursion (λ y. list_any (same y) (f z ++ flat_map f seen) ≡ true) (f x)
      by true is e rest = all_weaker (λ y. list_any (same y) (f x) ≡ true) (λ y. list_any (same y) (f z ++ flat_map f seen) ≡ true)
          (λ y h. list_any-append (same y) (f z) (flat_map f seen) ∙ ap (λ b. b || list_any (same y) (flat_map f seen)) (ap (λ w. list_any (same y) (f w)) (sym ((alike_decides x z).0 is)) ∙ h)) (f x) (all_among same decides (f x))
      by false is e rest = all_weaker (λ y. list_any (same y) (flat_map f seen) ≡ true) (λ y. list_any (same y) (f z ++ flat_map f seen) ≡ true)
          (λ y h. list_any-append (same y) (f z) (flat_map f seen) ∙ ap (λ b. list_any (same y) (f z) || b) h ∙ or_true (list_any (same y) (f z))) (f x) (rest e)

  one_more : (seen : List A) (x : A) → distinct same (flat_map f (with_new alike seen x)) ≡ fold (with_new same) (distinct same (flat_map f seen)) (f x)
  one_more seen x = by (list_any (alike x) seen) refl
    where
      by : (b : Bool) → list_any (alike x) seen ≡ b → distinct same (flat_map f (if b then seen else seen ++ x ∷ [])) ≡ fold (with_new same) (distinct same (flat_map f seen)) (f x)
      by true there = sym (nothing_new same decides (distinct same (flat_map f seen)) (f x)
          (all_weaker (λ y. list_any (same y) (flat_map f seen) ≡ true) (λ y. list_any (same y) (distinct same (flat_map f seen)) ≡ true) (λ y h. any_distinct same decides y (flat_map f seen) ∙ h) (f x) (given x seen there)))
      by false none = ap (λ z. distinct same z) (flat_map-append f seen (x ∷ [])) ∙ fold-append (with_new same) [] (flat_map f seen) (f x ++ []) ∙ ap (λ z. fold (with_new same) (distinct same (flat_map f seen)) z) (append-nil (f x))

  same_given : (xs seen : List A) → distinct same (flat_map f (fold (with_new alike) seen xs)) ≡ fold (with_new same) (distinct same (flat_map f seen)) (flat_map f xs)
  same_given [] seen = refl
  same_given (x ∷ xs) seen = same_given xs (with_new alike seen x)
      ∙ ap (λ z. fold (with_new same) z (flat_map f xs)) (one_more seen x)
      ∙ sym (fold-append (with_new same) (distinct same (flat_map f seen)) (f x) (flat_map f xs))

  -- the distinct items give the same distinct things as all items
  pub distinct_given : (xs : List A) → distinct same (flat_map f (distinct alike xs)) ≡ distinct same (flat_map f xs)
  distinct_given xs = same_given xs []
