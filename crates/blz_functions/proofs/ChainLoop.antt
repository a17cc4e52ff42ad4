-- The steps of the loop over the depths.
use Rattle.std.proofs.Common.{◌≡◌, ℕ, suc, ◌+◌, ◌-◌, ◌<◌, ◌≤◌, List, [], ◌∷◌, ◌++◌, Option, Some, None, sym, ap, append_assoc, arith, ◌∙◌}
use Rattle.std.proofs.lemmas.List.{append-nil}
use Rattle.blz_functions.specs.Chain.{picked, with_next}

step : (pick : ℕ → Option ℕ) (l d : ℕ) (o : Option ℕ) → d < l → pick d ≡ o → picked pick (l - d) d ≡ with_next o (picked pick (l - (d + 1)) (d + 1))
unfolding picked
step pick l d o lt is = let e : l - d ≡ suc (l - (d + 1)) = omega arith in rw e (ap (λ (x : Option ℕ). with_next x (picked pick (l - (d + 1)) (d + 1))) is)

pub stop : (pick : ℕ → Option ℕ) (l d : ℕ) (xs ys : List ℕ) → d < l → pick d ≡ None → xs ++ picked pick (l - d) d ≡ ys → xs ≡ ys
stop pick l d xs ys lt is h = sym (append-nil xs) ∙ (ap (λ (x : List ℕ). xs ++ x) (sym (step pick l d None lt is)) ∙ h)

pub goes : (pick : ℕ → Option ℕ) (l d c : ℕ) (xs ys new : List ℕ) → d < l → pick d ≡ Some c → new ≡ xs ++ c ∷ [] → xs ++ picked pick (l - d) d ≡ ys → new ++ picked pick (l - (d + 1)) (d + 1) ≡ ys
goes pick l d c xs ys new lt is e h =
    ap (λ (x : List ℕ). x ++ picked pick (l - (d + 1)) (d + 1)) e
    ∙ (append_assoc xs (c ∷ []) (picked pick (l - (d + 1)) (d + 1)) ∙ (ap (λ (x : List ℕ). xs ++ x) (sym (step pick l d (Some c) lt is)) ∙ h))

pub done : (pick : ℕ → Option ℕ) (l d : ℕ) (xs ys : List ℕ) → l ≤ d → xs ++ picked pick (l - d) d ≡ ys → xs ≡ ys
unfolding picked
done pick l d xs ys le h = let e : l - d ≡ 0 = omega arith in sym (append-nil xs) ∙ (ap (λ (n : ℕ). xs ++ picked pick n d) (sym e) ∙ h)
