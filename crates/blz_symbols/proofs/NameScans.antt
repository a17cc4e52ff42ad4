-- A table whose names are read one symbol after another.
use Rattle.std.proofs.Common.{◌≡◌, ℕ, ◌+◌, ◌<◌, ◌≤◌, Bool, true, false, cond, List, [], ◌∷◌, ◌++◌, length, get_or, drop, map, filter, refl, sym, ap, ◌∙◌, append_assoc}
use Rattle.std.proofs.lemmas.List.{append-nil, at_drop_more, at_drop_all}
use Rattle.blz_error.specs.declared.kind.ErrorKind.{ErrorKind}
use Rattle.blz_model.specs.Part.{Part, Good, Broken, ◌>>=◌, all_good}
use Rattle.blz_model.proofs.PartLemmas.{after_front}
use Rattle.blz_image.specs.declared.symbols.Symbol.{Symbol}
use Rattle.blz_symbols.specs.NameRule.{Named, read_name}
use Rattle.blz_symbols.specs.NameSteps.{with_symbol}

-- the whole list, where `front` is that of the symbols before these
abbrev pub reading : (Symbol → Bool) → List ℕ → List Named → List Symbol → Part (List Named)
reading asked strings front xs = after_front front (all_good (map (read_name strings) (filter asked xs)))

take_one : (front : List Named) (n : Named) (names : Part (List Named)) → after_front front (names >>= λ ns. Good (n ∷ ns)) ≡ after_front (front ++ n ∷ []) names
take_one front n (Broken k) = refl
take_one front n (Good ns) = ap Good (sym (append_assoc front (n ∷ []) ns))

-- the list from a symbol on is that symbol's step, then the list of the others
one_step : (asked : Symbol → Bool) (strings : List ℕ) (front : List Named) (s : Symbol) (rest : List Symbol) → reading asked strings front (s ∷ rest) ≡ (with_symbol asked strings front s >>= λ next. reading asked strings next rest)
unfolding with_symbol
one_step asked strings front s rest = by (asked s)
  where
    by : (t : Bool) → after_front front (all_good (map (read_name strings) (cond t (s ∷ filter asked rest) (filter asked rest)))) ≡ (cond t (read_name strings s >>= λ n. Good (front ++ n ∷ [])) (Good front) >>= λ next. reading asked strings next rest)
    by true = read (read_name strings s)
      where
        read : (r : Part Named) → after_front front (r >>= λ n. all_good (map (read_name strings) (filter asked rest)) >>= λ ns. Good (n ∷ ns)) ≡ ((r >>= λ n. Good (front ++ n ∷ [])) >>= λ next. reading asked strings next rest)
        read (Broken k) = refl
        read (Good n) = take_one front n (all_good (map (read_name strings) (filter asked rest)))
    by false = refl

at : (asked : Symbol → Bool) (strings : List ℕ) (front : List Named) (xs : List Symbol) (i : ℕ) (s : Symbol) → i < length xs → ((d : Symbol) → get_or xs i d ≡ s) → reading asked strings front (drop i xs) ≡ (with_symbol asked strings front s >>= λ next. reading asked strings next (drop (i + 1) xs))
at asked strings front xs i s lt here =
    at_drop_more (reading asked strings front) xs i s lt
    ∙ ap (λ (t : Symbol). reading asked strings front (t ∷ drop (i + 1) xs)) (here s)
    ∙ one_step asked strings front s (drop (i + 1) xs)

pub reading_on : (asked : Symbol → Bool) (strings : List ℕ) (front next : List Named) (xs : List Symbol) (i : ℕ) (s : Symbol) (total : Part (List Named)) → i < length xs → ((d : Symbol) → get_or xs i d ≡ s) → with_symbol asked strings front s ≡ Good next → reading asked strings front (drop i xs) ≡ total → reading asked strings next (drop (i + 1) xs) ≡ total
reading_on asked strings front next xs i s total lt here e so_far =
    sym (at asked strings front xs i s lt here ∙ ap (λ (p : Part (List Named)). p >>= λ next. reading asked strings next (drop (i + 1) xs)) e) ∙ so_far

pub reading_break : (asked : Symbol → Bool) (strings : List ℕ) (front : List Named) (xs : List Symbol) (i : ℕ) (s : Symbol) (total : Part (List Named)) (kind : ErrorKind) → i < length xs → ((d : Symbol) → get_or xs i d ≡ s) → with_symbol asked strings front s ≡ Broken kind → reading asked strings front (drop i xs) ≡ total → total ≡ Broken kind
reading_break asked strings front xs i s total kind lt here e so_far =
    sym so_far ∙ at asked strings front xs i s lt here ∙ ap (λ (p : Part (List Named)). p >>= λ next. reading asked strings next (drop (i + 1) xs)) e

pub reading_end : (asked : Symbol → Bool) (strings : List ℕ) (front : List Named) (xs : List Symbol) (i : ℕ) (total : Part (List Named)) → length xs ≤ i → reading asked strings front (drop i xs) ≡ total → total ≡ Good front
reading_end asked strings front xs i total past so_far =
    sym so_far ∙ at_drop_all (reading asked strings front) xs i past ∙ ap Good (append-nil front)
