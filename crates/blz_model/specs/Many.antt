-- Items one after another.
use Rattle.std.specs.Prelude.{◌≡◌, ◌<◌, ◌≤◌, ℕ, zero, suc, ◌+◌, ◌-◌, List, [], ◌∷◌}
use Rattle.blz_error.specs.declared.kind.ErrorKind.TheVariants.{InvalidDwarf}
use Rattle.blz_model.specs.Part.{Part, Good, Broken, ◌>>=◌}

-- one step: the list ends before a place, or has an item and goes on from a place
pub data Step (A : Type 0) : Type 0 where
  Ends : ℕ → Step A
  Item : A → ℕ → Step A

abbrev pub then_more : {A : Type 0} → (ℕ → Part (List A × ℕ)) → Step A → Part (List A × ℕ)
then_more rest (Ends end) = Good ([], end)
then_more rest (Item x next) = rest next >>= λ r. Good (x ∷ r.0, r.1)

-- the items from a place on, and the place behind them, in at most n steps
unfoldable pub many : {A : Type 0} → (ℕ → Part (Step A)) → ℕ → ℕ → Part (List A × ℕ)
many step zero at = Broken InvalidDwarf
many step (suc n) at = step at >>= then_more (λ next. many step n next)

-- Each item takes bytes, and none lies past the end: so `many` never wants for steps.
pub record Advances {A : Type 0} (step : ℕ → Part (Step A)) (end : ℕ) : Type 0 where
  pub up : (at : ℕ) (x : A) (next : ℕ) → step at ≡ Good (Item x next) → (at < next) × (next ≤ end)

-- the items from a place up to an end
abbrev pub items : {A : Type 0} → (ℕ → Part (Step A)) → ℕ → ℕ → Part (List A × ℕ)
items step end at = many step (end + 1 - at) at
