-- Items one after another: enough steps are enough, and what a loop over them keeps.
use Rattle.std.proofs.Common.{◌≡◌, ℕ, zero, suc, ◌+◌, ◌-◌, ◌<◌, ◌≤◌, List, [], ◌∷◌, ◌++◌, refl, sym, ap, ◌∙◌, append_assoc, arith}
use Rattle.std.proofs.lemmas.List.{append-nil}
use Rattle.blz_error.specs.declared.kind.ErrorKind.{ErrorKind}
use Rattle.blz_model.specs.Part.{Part, Good, Broken, ◌>>=◌}
use Rattle.blz_model.specs.Many.{Step, Ends, Item, then_more, many, items, Advances}

pub many_same : {A : Type 0} (step : ℕ → Part (Step A)) (end : ℕ) → Advances step end → (n m at : ℕ) → end - at < n → end - at < m → many step n at ≡ many step m at
unfolding many
many_same step end advances zero m at p q = absurd (omega arith)
many_same step end advances (suc n) zero at p q = absurd (omega arith)
many_same {A = A} step end advances (suc n) (suc m) at p q = by (λ next up le. many_same step end advances n m next (omega arith) (omega arith)) (step at) refl
  where
    by : ((next : ℕ) → at < next → next ≤ end → many step n next ≡ many step m next) → (s : Part (Step A)) → step at ≡ s → (s >>= then_more (λ next. many step n next)) ≡ (s >>= then_more (λ next. many step m next))
    by again (Broken k) e = refl
    by again (Good (Ends last)) e = refl
    by again (Good (Item x next)) e =
        let up = advances.up at x next e in
        ap (λ (r : Part (List A × ℕ)). r >>= λ r. Good (x ∷ r.0, r.1)) (again next up.0 up.1)

pub items_on : {A : Type 0} (step : ℕ → Part (Step A)) (end at : ℕ) (x : A) (next : ℕ) → Advances step end → step at ≡ Good (Item x next) → items step end at ≡ (items step end next >>= λ r. Good (x ∷ r.0, r.1))
unfolding many
items_on step end at x next advances e =
    let up = advances.up at x next e in
    let k : end + 1 - at ≡ suc (end - at) = omega arith in
    rw (k, e) (ap (λ (r : Part (List _ × ℕ)). r >>= λ r. Good (x ∷ r.0, r.1)) (many_same step end advances (end - at) (end + 1 - next) next (omega arith) (omega arith)))

pub items_end : {A : Type 0} (step : ℕ → Part (Step A)) (end at last : ℕ) → at ≤ end → step at ≡ Good (Ends last) → items step end at ≡ Good ([], last)
unfolding many
items_end step end at last le e =
    let k : end + 1 - at ≡ suc (end - at) = omega arith in
    rw (k, e) refl

pub items_break : {A : Type 0} (step : ℕ → Part (Step A)) (end at : ℕ) (kind : ErrorKind) → at ≤ end → step at ≡ Broken kind → items step end at ≡ Broken kind
unfolding many
items_break step end at kind le e =
    let k : end + 1 - at ≡ suc (end - at) = omega arith in
    rw (k, e) refl

-- ---- a loop that has read `front`

abbrev pub with_front : {A : Type 0} → List A → Part (List A × ℕ) → Part (List A × ℕ)
with_front front read = read >>= λ r. Good (front ++ r.0, r.1)

regroup : {A : Type 0} (front : List A) (x : A) (read : Part (List A × ℕ)) → with_front front (read >>= λ r. Good (x ∷ r.0, r.1)) ≡ with_front (front ++ x ∷ []) read
regroup front x (Broken k) = refl
regroup {A = A} front x (Good r) = ap (λ (xs : List A). Good (xs, r.1)) (sym (append_assoc front (x ∷ []) r.0))

pub loop_on : {A : Type 0} (step : ℕ → Part (Step A)) (end at : ℕ) (front : List A) (x : A) (next : ℕ) (total : Part (List A × ℕ)) → Advances step end → step at ≡ Good (Item x next) → with_front front (items step end at) ≡ total → with_front (front ++ x ∷ []) (items step end next) ≡ total
loop_on step end at front x next total advances e so_far =
    sym (regroup front x (items step end next)) ∙ ap (with_front front) (sym (items_on step end at x next advances e)) ∙ so_far

pub loop_end : {A : Type 0} (step : ℕ → Part (Step A)) (end at : ℕ) (front : List A) (last : ℕ) (total : Part (List A × ℕ)) → at ≤ end → step at ≡ Good (Ends last) → with_front front (items step end at) ≡ total → total ≡ Good (front, last)
loop_end {A = A} step end at front last total le e so_far =
    sym so_far ∙ ap (with_front front) (items_end step end at last le e) ∙ ap (λ (xs : List A). Good (xs, last)) (append-nil front)

pub loop_break : {A : Type 0} (step : ℕ → Part (Step A)) (end at : ℕ) (front : List A) (kind : ErrorKind) (total : Part (List A × ℕ)) → at ≤ end → step at ≡ Broken kind → with_front front (items step end at) ≡ total → total ≡ Broken kind
loop_break step end at front kind total le e so_far = sym so_far ∙ ap (with_front front) (items_break step end at kind le e)
