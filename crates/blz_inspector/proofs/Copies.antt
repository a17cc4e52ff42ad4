-- A list whose items are copied one after another.
use Rattle.std.proofs.Common.{◌≡◌, ◌<◌, ◌≤◌, ◌+◌, ℕ, List, [], ◌∷◌, ◌++◌, length, map, take, get_or, sym, ap, ◌∙◌}
use Rattle.std.proofs.lemmas.List.{map_push, take_all, take_more}

module _ {A B C : Type 0} (f : A → C) (g : B → C) where
  pub copied_more : (xs : List A) (x : A) (ys : List B) (i : ℕ) (y : B) → i < length ys → y ≡ get_or ys i y → f x ≡ g y → map f xs ≡ map g (take i ys) → map f (xs ++ x ∷ []) ≡ map g (take (i + 1) ys)
  copied_more xs x ys i y lt here same so_far =
      let next : take (i + 1) ys ≡ take i ys ++ y ∷ [] = take_more ys i y lt ∙ ap (λ (z : B). take i ys ++ z ∷ []) (sym here) in
      map_push f xs x ∙ ap (λ (t : List C). t ++ f x ∷ []) so_far ∙ ap (λ (z : C). map g (take i ys) ++ z ∷ []) same ∙ sym (map_push g (take i ys) y) ∙ ap (λ (t : List B). map g t) (sym next)

  pub copied_all : (xs : List A) (ys : List B) (i : ℕ) → length ys ≤ i → map f xs ≡ map g (take i ys) → map f xs ≡ map g ys
  copied_all xs ys i past so_far = so_far ∙ ap (λ (t : List B). map g t) (take_all i ys past)
