-- A list of parts, read one after another.
use Rattle.std.proofs.Common.{◌≡◌, ℕ, zero, suc, ◌+◌, ◌<◌, ◌≤◌, List, [], ◌∷◌, ◌++◌, length, get_or, drop, map, refl, sym, ap, ◌∙◌, append_assoc, arith}
use Rattle.std.proofs.lemmas.List.{append-nil, at_drop_more, at_drop_all}
use Rattle.blz_error.specs.declared.kind.ErrorKind.{ErrorKind}
use Rattle.blz_model.specs.Part.{Part, Good, Broken, ◌>>=◌, all_good}

-- each is Good, so the list is
pub all_good_is : {X A : Type 0} (f : X → Part A) (g : X → A) (xs : List X) → ((k : ℕ) (d : X) → k < length xs → f (get_or xs k d) ≡ Good (g (get_or xs k d))) → all_good (map f xs) ≡ Good (map g xs)
all_good_is f g [] each = refl
all_good_is f g (x ∷ xs) each =
    let first : f x ≡ Good (g x) = each 0 x (omega arith) in
    let others = all_good_is f g xs (λ k d lt. each (suc k) d (omega arith)) in
    rw (first, others) refl

-- each before i is Good, so the mark of i is the list's
pub all_good_breaks : {X A : Type 0} (f : X → Part A) (g : X → A) (xs : List X) (i : ℕ) (kind : ErrorKind) → i < length xs → ((k : ℕ) (d : X) → k < i → f (get_or xs k d) ≡ Good (g (get_or xs k d))) → ((d : X) → f (get_or xs i d) ≡ Broken kind) → all_good (map f xs) ≡ Broken kind
all_good_breaks f g [] i kind lt each here = absurd (omega arith)
all_good_breaks f g (x ∷ xs) zero kind lt each here = rw (here x) refl
all_good_breaks f g (x ∷ xs) (suc i) kind lt each here =
    let first : f x ≡ Good (g x) = each 0 x (omega arith) in
    let others = all_good_breaks f g xs i kind (omega arith) (λ k d below. each (suc k) d (omega arith)) here in
    rw (first, others) refl

-- the value of a step that did not fail
pub bind_good : {A B : Type 0} (p : Part A) (f : A → Part B) (y : B) → (p >>= f) ≡ Good y → (x : A) × (p ≡ Good x) × (f x ≡ Good y)
bind_good (Good x) f y e = (x, refl, e)
bind_good (Broken k) f y e = absurd cc

good_is : {A : Type 0} (x y : A) (p : Part A) → p ≡ Good x → p ≡ Good y → x ≡ y
good_is x y p a b = cc

-- where the list is Good, so is each
pub all_good_at : {X A : Type 0} (f : X → Part A) (xs : List X) (ys : List A) → all_good (map f xs) ≡ Good ys → (k : ℕ) (d : X) (e : A) → k < length xs → f (get_or xs k d) ≡ Good (get_or ys k e)
all_good_at f [] ys all k d e lt = absurd (omega arith)
all_good_at f (x ∷ xs) ys all zero d e lt =
    let first = bind_good (f x) (λ y. all_good (map f xs) >>= λ zs. Good (y ∷ zs)) ys all in
    let others = bind_good (all_good (map f xs)) (λ zs. Good (first.0 ∷ zs)) ys first.2 in
    let ys-is : first.0 ∷ others.0 ≡ ys = good_is _ _ (Good (first.0 ∷ others.0)) refl others.2 in
    rw (← ys-is) first.1
all_good_at f (x ∷ xs) ys all (suc k) d e lt =
    let first = bind_good (f x) (λ y. all_good (map f xs) >>= λ zs. Good (y ∷ zs)) ys all in
    let others = bind_good (all_good (map f xs)) (λ zs. Good (first.0 ∷ zs)) ys first.2 in
    let ys-is : first.0 ∷ others.0 ≡ ys = good_is _ _ (Good (first.0 ∷ others.0)) refl others.2 in
    rw (← ys-is) (all_good_at f xs others.0 others.1 k d e (omega arith))

-- ---- a loop that has read `front`, and stands at item i

abbrev pub after_front : {A : Type 0} → List A → Part (List A) → Part (List A)
after_front front read = read >>= λ r. Good (front ++ r)

pub all_start : {A : Type 0} (p : Part (List A)) → after_front [] p ≡ p
all_start (Good r) = refl
all_start (Broken k) = refl

regroup : {A : Type 0} (front : List A) (y : A) (read : Part (List A)) → after_front front (read >>= λ r. Good (y ∷ r)) ≡ after_front (front ++ y ∷ []) read
regroup front y (Broken k) = refl
regroup front y (Good r) = ap Good (sym (append_assoc front (y ∷ []) r))

pub all_on : {X A : Type 0} (f : X → Part A) (xs : List X) (i : ℕ) (front : List A) (x : X) (y : A) → i < length xs → x ≡ get_or xs i x → f x ≡ Good y → after_front front (all_good (map f (drop i xs))) ≡ all_good (map f xs) → after_front (front ++ y ∷ []) (all_good (map f (drop (i + 1) xs))) ≡ all_good (map f xs)
all_on {X = X} f xs i front x y lt here e so_far =
    let step = at_drop_more (λ (ys : List X). all_good (map f ys)) xs i x lt in
    let one : all_good (map f (drop i xs)) ≡ (all_good (map f (drop (i + 1) xs)) >>= λ r. Good (y ∷ r)) = step ∙ rw (← here, e) refl in
    sym (regroup front y (all_good (map f (drop (i + 1) xs)))) ∙ ap (after_front front) (sym one) ∙ so_far

pub all_end : {X A : Type 0} (f : X → Part A) (xs : List X) (i : ℕ) (front : List A) → length xs ≤ i → after_front front (all_good (map f (drop i xs))) ≡ all_good (map f xs) → all_good (map f xs) ≡ Good front
all_end {X = X} f xs i front past so_far =
    sym so_far ∙ ap (after_front front) (at_drop_all (λ (ys : List X). all_good (map f ys)) xs i past) ∙ ap Good (append-nil front)

pub all_break : {X A : Type 0} (f : X → Part A) (xs : List X) (i : ℕ) (front : List A) (x : X) (kind : ErrorKind) → i < length xs → x ≡ get_or xs i x → f x ≡ Broken kind → after_front front (all_good (map f (drop i xs))) ≡ all_good (map f xs) → all_good (map f xs) ≡ Broken kind
all_break {X = X} f xs i front x kind lt here e so_far =
    let step = at_drop_more (λ (ys : List X). all_good (map f ys)) xs i x lt in
    let one : all_good (map f (drop i xs)) ≡ Broken kind = step ∙ rw (← here, e) refl in
    sym so_far ∙ ap (after_front front) one
