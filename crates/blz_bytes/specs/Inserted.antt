-- A map as the list of its pairs, in the order in which they were put.
use Rattle.std.specs.Prelude.{◌≡◌, ◌⊎◌, Bool, true, false, List, [], ◌∷◌, ◌++◌, is_some, if◌then◌else◌}
use Rattle.std.specs.Borrow.{Bor}
use Rattle.std.specs.Map.{lookup}

-- a value is put where the key has none
abbrev pub put_absent : {K V : Type 0} → (K → K → Bool) → K → V → List (K × V) → List (K × V)
put_absent eq key value pairs = if is_some (lookup (eq key) pairs) then pairs else pairs ++ (key, value) ∷ []

-- a call of a test at a key and a value, and what it answers
pub record Says {F K V : Type 0} (post : F → Bor K → Bor V → Bool → Type 0) (f : F) (key : K) (value : V) (answer : Bool) : Type 0 where
  pub shown_key : Bor K
  pub shown_value : Bor V
  pub shows : (shown_key.now ≡ key) × (shown_value.now ≡ value)
  pub answers : post f shown_key shown_value answer

-- the pairs of which a test says true, in their order
abbrev pub Retains : {K V : Type 0} → (K → V → Bool → Type 0) → List (K × V) → List (K × V) → Type 0
Retains says [] new = new ≡ []
Retains {K = K} {V = V} says (e ∷ es) new = ((rest : List (K × V)) × says e.0 e.1 true × Retains says es rest × (new ≡ e ∷ rest)) ⊎ (says e.0 e.1 false × Retains says es new)
