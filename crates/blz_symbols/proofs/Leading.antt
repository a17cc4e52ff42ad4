-- The symbol rule in one pass over a table: the greatest value so far, and the best symbol of it.
use Rattle.std.proofs.Common.{◌≡◌, ◌≢◌, ◌⊎◌, inl, inr, ℕ, ◌+◌, ◌<◌, ◌≤◌, Bool, true, false, cond, List, length, get_or, take, filter, max, Option, None, sym, ap, ◌∙◌, arith, eqb}
use Rattle.std.proofs.lemmas.Bool.Decides.{eqb_tells}
use Rattle.std.proofs.lemmas.List.{take_all}
use Rattle.blz_symbols.specs.declared.question.Question.{Question}
use Rattle.blz_image.specs.declared.symbols.Symbol.{Symbol}
use Rattle.blz_symbols.specs.SymbolRule.{is_candidate, answers, greatest, largest, covering}
use Rattle.blz_symbols.specs.Accepted.{no_symbol}
use Rattle.blz_image.proofs.Folds.{fold_filter_more}
use Rattle.blz_symbols.proofs.Greatest.{Passes, none_pass, top_at}
use Rattle.blz_symbols.proofs.Search.{answers_of}

-- the greatest value does not fall
pub not_below : (c : Bool) (g v h : ℕ) → h ≡ cond c (max g v) g → g ≤ h
not_below true g v h e = omega arith
not_below false g v h e = omega arith

pub greater_more : (addr : ℕ) (xs : List Symbol) (i : ℕ) (s : Symbol) (g h : ℕ) → i < length xs → ((d : Symbol) → get_or xs i d ≡ s) → g ≡ greatest (filter (is_candidate addr) (take i xs)) → h ≡ cond (is_candidate addr s) (max g s.value) g → h ≡ greatest (filter (is_candidate addr) (take (i + 1) xs))
greater_more addr xs i s g h lt here is e =
    e ∙ (ap (λ (n : ℕ). cond (is_candidate addr s) (max n s.value) n) is ∙ sym (fold_filter_more (λ (n : ℕ) (t : Symbol). max n t.value) 0 (is_candidate addr) xs i s lt here))

-- where the greatest value has risen, no earlier symbol answers
pub best_so_far : (q : Question) (xs : List Symbol) (g h : ℕ) (old new : Option Symbol) → g ≡ greatest (filter (is_candidate q.addr) xs) → g ≤ h → old ≡ largest (filter (answers q g) xs) → new ≡ cond (eqb h g) old None → new ≡ largest (filter (answers q h) xs)
best_so_far q xs g h old new is le was e = by (eqb_tells h g)
  where
    none : h ≢ g → (i : ℕ) → Passes (answers q h) xs i → ⊥
    none ne i p =
        let a = answers_of q h (get_or xs i no_symbol) p.1 in
        let v : (get_or xs i no_symbol).value ≡ h = a.value in
        let top : (get_or xs i no_symbol).value ≤ greatest (filter (is_candidate q.addr) xs) = top_at (is_candidate q.addr) xs 0 i (p.0, a.candidate) in
        omega arith

    by : ((eqb h g ≡ true) × (h ≡ g)) ⊎ ((eqb h g ≡ false) × (h ≢ g)) → new ≡ largest (filter (answers q h) xs)
    by (inl t) = let f : new ≡ old = rw t.0 at e in f ∙ (was ∙ ap (λ (n : ℕ). largest (filter (answers q n) xs)) (sym t.1))
    by (inr t) = let f : new ≡ None = rw t.0 at e in f ∙ sym (ap largest (none_pass (answers q h) xs (none t.1)))

-- the whole table was gone over
pub covering_is : (q : Question) (xs : List Symbol) (i g : ℕ) (best : Option Symbol) → length xs ≤ i → g ≡ greatest (filter (is_candidate q.addr) (take i xs)) → best ≡ largest (filter (answers q g) (take i xs)) → best ≡ covering q xs
unfolding covering
covering_is q xs i g best le is was =
    let all : take i xs ≡ xs = take_all i xs le in
    let top : g ≡ greatest (filter (is_candidate q.addr) xs) = is ∙ ap (λ (ys : List Symbol). greatest (filter (is_candidate q.addr) ys)) all in
    was ∙ (ap (λ (ys : List Symbol). largest (filter (answers q g) ys)) all ∙ ap (λ (n : ℕ). largest (filter (answers q n) xs)) top)
