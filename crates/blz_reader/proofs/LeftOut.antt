-- What is asked of units in turn is the same where units are left out that were asked before.
use Rattle.std.proofs.Common.{◌≡◌, ℕ, zero, suc, List, [], ◌∷◌, drop, Option, Some, None, refl, sym, ap, subst, ◌∙◌, inl, inr, ◌⊎◌}
use Rattle.std.specs.Prelude.{option_and_then}
use Rattle.std.specs.List.{slice_get}
use Rattle.blz_model.specs.Part.{Part, Good, Broken, ◌>>=◌}
use Rattle.blz_model.specs.Answers.{Site}
use Rattle.blz_info.specs.declared.text.Texts.{Texts}
use Rattle.blz_units.specs.BuiltUnits.{Files}
use Rattle.blz_units.specs.Seen.{LeavesOut}
use Rattle.blz_units.specs.UnitAnswers.{best_function, first_function, found_or}
use Rattle.blz_units.specs.UnitSites.{first_line, line_in, site_or}
use Rattle.blz_units.specs.UnitTables.{UnitTable}

-- ---- any question

-- a unit that knows nothing, and one behind which no other is asked
abbrev Passes : {R : Type 0} → (ℕ → R → R) → ℕ → Type 0
Passes {R = R} step unit = (r : R) → step unit r ≡ r

abbrev Stops : {R : Type 0} → (ℕ → R → R) → ℕ → Type 0
Stops {R = R} step unit = (r s : R) → step unit r ≡ step unit s

module _ {R : Type 0} (asked : List ℕ → R) (step : ℕ → R → R) (steps : (unit : ℕ) (rest : List ℕ) → asked (unit ∷ rest) ≡ step unit (asked rest)) (one : (unit : ℕ) → Passes step unit ⊎ Stops step unit) where
  passed_on : (before : List ℕ) (n : ℕ) → ((i k : ℕ) → slice_get before i ≡ Some k → Passes step k) → Passes step n → (i k : ℕ) → slice_get (n ∷ before) i ≡ Some k → Passes step k
  passed_on before n passed p zero k is = let e : n ≡ k = cc in subst (Passes step) e p
  passed_on before n passed p (suc i) k is = passed i k is

  pub asked_again : (before all few : List ℕ) → ((i k : ℕ) → slice_get before i ≡ Some k → Passes step k) → LeavesOut before all few → asked all ≡ asked few
  asked_again before [] few passed out = ap asked (sym out)
  asked_again before (n ∷ all) few passed (inl out) = steps n all ∙ (passed out.0.0 n out.0.1 (asked all) ∙ asked_again before all few passed out.1)
  asked_again before (n ∷ all) few passed (inr out) = by (λ p. asked_again (n ∷ before) all out.0 (passed_on before n passed p) out.2) (one n)
    where
      by : (Passes step n → asked all ≡ asked out.0) → Passes step n ⊎ Stops step n → asked (n ∷ all) ≡ asked few
      by again (inl p) = steps n all ∙ (p (asked all) ∙ (again p ∙ (sym (p (asked out.0)) ∙ (sym (steps n out.0) ∙ ap asked (sym out.1)))))
      by again (inr s) = steps n all ∙ (s (asked all) (asked out.0) ∙ (sym (steps n out.0) ∙ ap asked (sym out.1)))

nothing_before : (P : ℕ → Type 0) (i k : ℕ) → slice_get [] i ≡ Some k → P k
nothing_before P i k is = absurd cc

-- ---- the function of an address

abbrev function_step : Option (Option ℕ) → ℕ → Option (Option (ℕ × ℕ)) → Option (Option (ℕ × ℕ))
function_step None unit r = None
function_step (Some n) unit r = found_or unit n r

function_then : (o : Option (Option ℕ)) (unit : ℕ) (r : Option (Option (ℕ × ℕ))) → option_and_then (λ n. found_or unit n r) o ≡ function_step o unit r
function_then None unit r = refl
function_then (Some n) unit r = refl

function_steps : (f : Files) (t : UnitTable) (addr unit : ℕ) (rest : List ℕ) → first_function f t addr (unit ∷ rest) ≡ function_step (best_function f t addr unit) unit (first_function f t addr rest)
unfolding first_function
function_steps f t addr unit rest = function_then (best_function f t addr unit) unit (first_function f t addr rest)

function_one : (o : Option (Option ℕ)) (unit : ℕ) → ((r : Option (Option (ℕ × ℕ))) → function_step o unit r ≡ r) ⊎ ((r s : Option (Option (ℕ × ℕ))) → function_step o unit r ≡ function_step o unit s)
function_one None unit = inr (λ r s. refl)
function_one (Some None) unit = inl (λ r. refl)
function_one (Some (Some n)) unit = inr (λ r s. refl)

pub function_again : (f : Files) (t : UnitTable) (addr : ℕ) (all few : List ℕ) → LeavesOut [] all few → first_function f t addr all ≡ first_function f t addr few
function_again f t addr all few out = asked_again (first_function f t addr) (λ unit r. function_step (best_function f t addr unit) unit r) (function_steps f t addr) (λ unit. function_one (best_function f t addr unit) unit) [] all few (nothing_before _) out

-- ---- the line of an address

abbrev line_step : Part (Option Site) → Part (Option Site) → Part (Option Site)
line_step (Broken kind) r = Broken kind
line_step (Good site) r = site_or site r

line_then : (p : Part (Option Site)) (r : Part (Option Site)) → (p >>= λ site. site_or site r) ≡ line_step p r
line_then (Broken kind) r = refl
line_then (Good site) r = refl

line_one : (p : Part (Option Site)) → ((r : Part (Option Site)) → line_step p r ≡ r) ⊎ ((r s : Part (Option Site)) → line_step p r ≡ line_step p s)
line_one (Broken kind) = inr (λ r s. refl)
line_one (Good None) = inl (λ r. refl)
line_one (Good (Some site)) = inr (λ r s. refl)

line_steps : (texts : Texts) (f : Files) (t : UnitTable) (addr unit : ℕ) (rest : List ℕ) → first_line texts f t addr (unit ∷ rest) ≡ line_step (line_in texts f t addr unit) (first_line texts f t addr rest)
unfolding first_line
line_steps texts f t addr unit rest = line_then (line_in texts f t addr unit) (first_line texts f t addr rest)

pub line_again : (texts : Texts) (f : Files) (t : UnitTable) (addr : ℕ) (all few : List ℕ) → LeavesOut [] all few → first_line texts f t addr all ≡ first_line texts f t addr few
line_again texts f t addr all few out = asked_again (first_line texts f t addr) (λ unit r. line_step (line_in texts f t addr unit) r) (line_steps texts f t addr) (λ unit. line_one (line_in texts f t addr unit)) [] all few (nothing_before _) out

-- ---- where nothing is left

pub none_more : (all few : List ℕ) → LeavesOut [] all few → drop 1 all ≡ [] → drop 1 few ≡ []
none_more [] few out e = rw out refl
none_more (n ∷ []) few (inl out) e = rw out.1 refl
none_more (n ∷ []) few (inr out) e = rw (out.1, out.2) refl
none_more (n ∷ (m ∷ all)) few out e = absurd cc
