-- The symbol rule over any list, by what its symbols are at each index.
use Rattle.std.proofs.Common.{◌≡◌, ℕ, zero, suc, ◌<◌, ◌≤◌, Bool, true, false, cond, List, [], ◌∷◌, length, get_or, filter, max, Option, Some, None, refl, ap, ◌∙◌, arith, leb}
use Rattle.std.specs.List.{fold}
use Rattle.std.proofs.lemmas.Bool.Decides.{nat_tests}
use Rattle.blz_symbols.specs.SymbolRule.{larger, largest, greatest}
use Rattle.blz_image.specs.declared.symbols.Symbol.{Symbol}
use Rattle.blz_symbols.specs.Accepted.{no_symbol}

abbrev pub Passes : (Symbol → Bool) → List Symbol → ℕ → Type 0
Passes p xs i = (i < length xs) × (p (get_or xs i no_symbol) ≡ true)

abbrev top : ℕ → Symbol → ℕ
top g s = max g s.value

pub top_up : (p : Symbol → Bool) (xs : List Symbol) (a g : ℕ) → a ≤ g → ((i : ℕ) → Passes p xs i → (get_or xs i no_symbol).value ≤ g) → fold top a (filter p xs) ≤ g
top_up p [] a g le each = le
top_up p (x ∷ xs) a g le each = by (λ b k. top_up p xs b g k (λ i h. each (suc i) (omega (arith, h.0), h.1))) (p x) refl
  where
    by : ((b : ℕ) → b ≤ g → fold top b (filter p xs) ≤ g) → (t : Bool) → p x ≡ t → fold top a (cond t (x ∷ filter p xs) (filter p xs)) ≤ g
    by more true e = let h : x.value ≤ g = each 0 (omega arith, e) in more (max a x.value) (omega arith)
    by more false e = more a le

pub top_least : (p : Symbol → Bool) (xs : List Symbol) (a : ℕ) → a ≤ fold top a (filter p xs)
top_least p [] a = omega arith
top_least p (x ∷ xs) a = by (top_least p xs) (p x)
  where
    by : ((b : ℕ) → b ≤ fold top b (filter p xs)) → (t : Bool) → a ≤ fold top a (cond t (x ∷ filter p xs) (filter p xs))
    by more true = omega (arith, more (max a x.value))
    by more false = more a

pub top_at : (p : Symbol → Bool) (xs : List Symbol) (a i : ℕ) → Passes p xs i → (get_or xs i no_symbol).value ≤ fold top a (filter p xs)
top_at p [] a i h = absurd (omega (arith, h.0))
top_at p (x ∷ xs) a zero h = rw (h.1) (omega (arith, top_least p xs (max a x.value)))
top_at p (x ∷ xs) a (suc i) h = by (λ b. top_at p xs b i (omega (arith, h.0), h.1)) (p x)
  where
    by : ((b : ℕ) → (get_or xs i no_symbol).value ≤ fold top b (filter p xs)) → (t : Bool) → (get_or xs i no_symbol).value ≤ fold top a (cond t (x ∷ filter p xs) (filter p xs))
    by more true = more (max a x.value)
    by more false = more a

-- a symbol that passes, and than which none that passes is greater
pub greatest_is : (p : Symbol → Bool) (xs : List Symbol) (i : ℕ) → Passes p xs i → ((j : ℕ) → Passes p xs j → (get_or xs j no_symbol).value ≤ (get_or xs i no_symbol).value) → greatest (filter p xs) ≡ (get_or xs i no_symbol).value
greatest_is p xs i here each =
    let up : fold top 0 (filter p xs) ≤ (get_or xs i no_symbol).value = top_up p xs 0 _ (omega arith) each in
    let at : (get_or xs i no_symbol).value ≤ fold top 0 (filter p xs) = top_at p xs 0 i here in
    omega arith

-- ---- the largest

abbrev Smaller : Option Symbol → Symbol → Type 0
Smaller None s = Unit {0}
Smaller (Some t) s = t.size < s.size

smaller_larger : (o : Option Symbol) (x s : Symbol) → Smaller o s → x.size < s.size → Smaller (larger o x) s
smaller_larger None x s sm lt = lt
smaller_larger (Some t) x s sm lt = by (leb (suc t.size) x.size)
  where
    by : (b : Bool) → Smaller (cond b (Some x) (Some t)) s
    by true = lt
    by false = sm

larger_takes : (o : Option Symbol) (x : Symbol) → Smaller o x → larger o x ≡ Some x
larger_takes None x sm = refl
larger_takes (Some t) x sm = grind (arith, nat_tests)

larger_keeps : (t x : Symbol) → x.size ≤ t.size → larger (Some t) x ≡ Some t
larger_keeps t x le = grind (arith, nat_tests)

keeps : (p : Symbol → Bool) (xs : List Symbol) (t : Symbol) → ((i : ℕ) → Passes p xs i → (get_or xs i no_symbol).size ≤ t.size) → fold larger (Some t) (filter p xs) ≡ Some t
keeps p [] t each = refl
keeps p (x ∷ xs) t each = by (keeps p xs t (λ i h. each (suc i) (omega (arith, h.0), h.1))) (p x) refl
  where
    by : fold larger (Some t) (filter p xs) ≡ Some t → (b : Bool) → p x ≡ b → fold larger (Some t) (cond b (x ∷ filter p xs) (filter p xs)) ≡ Some t
    by more true e = ap (λ (o : Option Symbol). fold larger o (filter p xs)) (larger_keeps t x (each 0 (omega arith, e))) ∙ more
    by more false e = more

takes : (p : Symbol → Bool) (xs : List Symbol) (o : Option Symbol) (m : ℕ) → Passes p xs m → Smaller o (get_or xs m no_symbol) → ((i : ℕ) → i < m → Passes p xs i → (get_or xs i no_symbol).size < (get_or xs m no_symbol).size) → ((i : ℕ) → m < i → Passes p xs i → (get_or xs i no_symbol).size ≤ (get_or xs m no_symbol).size) → fold larger o (filter p xs) ≡ Some (get_or xs m no_symbol)
takes p [] o m here sm before after = absurd (omega (arith, here.0))
takes p (x ∷ xs) o zero here sm before after =
    rw (here.1) (ap (λ (o : Option Symbol). fold larger o (filter p xs)) (larger_takes o x sm) ∙ keeps p xs x (λ i h. after (suc i) (omega arith) (omega (arith, h.0), h.1)))
takes p (x ∷ xs) o (suc m) here sm before after = by (λ u k. takes p xs u m (omega (arith, here.0), here.1) k (λ i lt h. before (suc i) (omega arith) (omega (arith, h.0), h.1)) (λ i lt h. after (suc i) (omega arith) (omega (arith, h.0), h.1))) (p x) refl
  where
    by : ((u : Option Symbol) → Smaller u (get_or xs m no_symbol) → fold larger u (filter p xs) ≡ Some (get_or xs m no_symbol)) → (b : Bool) → p x ≡ b → fold larger o (cond b (x ∷ filter p xs) (filter p xs)) ≡ Some (get_or xs m no_symbol)
    by more true e = more (larger o x) (smaller_larger o x _ sm (before 0 (omega arith) (omega arith, e)))
    by more false e = more o sm

-- a symbol that passes, is as large as each that passes, and is the first of those of its size
pub largest_is : (p : Symbol → Bool) (xs : List Symbol) (m : ℕ) → Passes p xs m → ((i : ℕ) → i < m → Passes p xs i → (get_or xs i no_symbol).size < (get_or xs m no_symbol).size) → ((i : ℕ) → m < i → Passes p xs i → (get_or xs i no_symbol).size ≤ (get_or xs m no_symbol).size) → largest (filter p xs) ≡ Some (get_or xs m no_symbol)
largest_is p xs m here before after = takes p xs None m here tt before after

pub none_pass : (p : Symbol → Bool) (xs : List Symbol) → ((i : ℕ) → Passes p xs i → ⊥) → filter p xs ≡ []
none_pass p [] none = refl
none_pass p (x ∷ xs) none = by (none_pass p xs (λ i h. none (suc i) (omega (arith, h.0), h.1))) (p x) refl
  where
    by : filter p xs ≡ [] → (b : Bool) → p x ≡ b → cond b (x ∷ filter p xs) (filter p xs) ≡ []
    by more true e = absurd (none 0 (omega arith, e))
    by more false e = more

-- ---- a filter over a wider filter

pub filter_within : (p q : Symbol → Bool) (within : (x : Symbol) → p x ≡ true → q x ≡ true) (xs : List Symbol) → filter p (filter q xs) ≡ filter p xs
filter_within p q within [] = refl
filter_within p q within (x ∷ xs) = by (filter_within p q within xs) (q x) refl (p x) refl
  where
    by : filter p (filter q xs) ≡ filter p xs → (b : Bool) → q x ≡ b → (t : Bool) → p x ≡ t → filter p (cond b (x ∷ filter q xs) (filter q xs)) ≡ cond t (x ∷ filter p xs) (filter p xs)
    by more true e t h = rw (h) (ap (λ (ys : List Symbol). cond t (x ∷ ys) ys) more)
    by more false e true h = absurd (let w = within x h in cc)
    by more false e false h = more

pub each_passes : (p : Symbol → Bool) (xs : List Symbol) (i : ℕ) → i < length (filter p xs) → p (get_or (filter p xs) i no_symbol) ≡ true
each_passes p [] i lt = absurd (omega arith)
each_passes p (x ∷ xs) i lt = by (each_passes p xs) (p x) refl i lt
  where
    by : ((j : ℕ) → j < length (filter p xs) → p (get_or (filter p xs) j no_symbol) ≡ true) → (b : Bool) → p x ≡ b → (k : ℕ) → k < length (cond b (x ∷ filter p xs) (filter p xs)) → p (get_or (cond b (x ∷ filter p xs) (filter p xs)) k no_symbol) ≡ true
    by more true e zero lt = e
    by more true e (suc i) lt = more i (omega arith)
    by more false e i lt = more i lt
