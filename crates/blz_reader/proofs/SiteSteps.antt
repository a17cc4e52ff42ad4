-- An item of a list, whatever stands past its end.
use Rattle.std.proofs.Common.{◌≡◌, ℕ, zero, suc, ◌<◌, List, [], ◌∷◌, length, get_or, refl, arith}

pub get_or_again : {X : Type 0} (xs : List X) (i : ℕ) (d : X) → i < length xs → get_or xs i d ≡ get_or xs i (get_or xs i d)
get_or_again [] i d lt = absurd (omega arith)
get_or_again (x ∷ xs) zero d lt = refl
get_or_again (x ∷ xs) (suc i) d lt = get_or_again xs i d (omega arith)
