-- Functions that are shown one after another, those without a name left out.
use Rattle.std.proofs.Common.{◌≡◌, ℕ, ◌+◌, ◌<◌, ◌≤◌, Bool, true, false, cond, List, [], ◌∷◌, length, get_or, drop, map, is_some, refl, ap, ◌∙◌, subst, arith}
use Rattle.std.proofs.lemmas.List.{at_drop_more, at_drop_all}
use Rattle.blz_error.specs.declared.kind.ErrorKind.{ErrorKind}
use Rattle.blz_model.specs.Part.{Part, Good, Broken}
use Rattle.blz_elf.specs.Infos.{Info}
use Rattle.blz_elf.specs.Listings.{Listing, listing_of, Told, IsShown, Breaks, IsRefused}
use Rattle.blz_elf.specs.Visits.{ShowsOne}
use Rattle.blz_elf.proofs.ListingSteps.{SoFar, shown_on, shown_break, shown_refused, shown_end}
use Rattle.blz_functions.specs.declared.functions.Function.{Function}
use Rattle.blz_resolver.specs.FunctionNames.{named_only}

abbrev rest_of : (Function → Part Info) → List Function → Listing
rest_of f functions = listing_of (map f (named_only functions))

module _ (f : Function → Part Info) (xs : List Function) (i : ℕ) (s : Function) (lt : i < length xs) (here : get_or xs i s ≡ s) where
  at_item : rest_of f (drop i xs) ≡ rest_of f (s ∷ drop (i + 1) xs)
  at_item = at_drop_more (λ (ys : List Function). rest_of f ys) xs i s lt ∙ ap (λ (x : Function). rest_of f (x ∷ drop (i + 1) xs)) here

  -- the items from the place on, where the first has a name
  named_on : is_some s.name ≡ true → rest_of f (drop i xs) ≡ listing_of (map f (s ∷ named_only (drop (i + 1) xs)))
  named_on named = at_item ∙ ap (λ b. listing_of (map f (cond b (s ∷ named_only (drop (i + 1) xs)) (named_only (drop (i + 1) xs))))) named

  pub passed_by : (total : Listing) (old now : Told) → is_some s.name ≡ false → SoFar total (rest_of f (drop i xs)) old now → SoFar total (rest_of f (drop (i + 1) xs)) old now
  passed_by total old now unnamed so_far =
      let e : rest_of f (drop i xs) ≡ rest_of f (drop (i + 1) xs) = at_item ∙ ap (λ b. listing_of (map f (cond b (s ∷ named_only (drop (i + 1) xs)) (named_only (drop (i + 1) xs))))) unnamed in
      let P : Listing → Type 0 = λ l. SoFar total l old now in
      subst P e so_far

  front : (total : Listing) (old now : Told) → is_some s.name ≡ true → SoFar total (rest_of f (drop i xs)) old now → SoFar total (listing_of (map f (drop 0 (s ∷ named_only (drop (i + 1) xs))))) old now
  front total old now named so_far = let P : Listing → Type 0 = λ l. SoFar total l old now in subst P (named_on named) so_far

  pub one_shown : (x : Info) (total : Listing) (old now next : Told) → is_some s.name ≡ true → f s ≡ Good x → ShowsOne now next x → SoFar total (rest_of f (drop i xs)) old now → SoFar total (rest_of f (drop (i + 1) xs)) old next
  one_shown x total old now next named e one so_far = shown_on f (s ∷ named_only (drop (i + 1) xs)) 0 s x total old now next (omega arith) refl e one (front total old now named so_far)

  pub one_breaks : (x : Info) (total : Listing) (old now next : Told) (stopped : Bool) → is_some s.name ≡ true → f s ≡ Good x → ShowsOne now next x → stopped ≡ true → SoFar total (rest_of f (drop i xs)) old now → Breaks total old next stopped
  one_breaks x total old now next stopped named e one st so_far = shown_break f (s ∷ named_only (drop (i + 1) xs)) 0 s x total old now next stopped (omega arith) refl e one st (front total old now named so_far)

  pub one_refused : (kind : ErrorKind) (total : Listing) (old now : Told) (stopped : Bool) → is_some s.name ≡ true → f s ≡ Broken kind → stopped ≡ false → SoFar total (rest_of f (drop i xs)) old now → IsRefused total old now stopped kind
  one_refused kind total old now stopped named e st so_far = shown_refused f (s ∷ named_only (drop (i + 1) xs)) 0 s kind total old now stopped (omega arith) refl e st (front total old now named so_far)

pub all_shown : (f : Function → Part Info) (xs : List Function) (i : ℕ) (total : Listing) (old now : Told) (stopped : Bool) → length xs ≤ i → stopped ≡ false → SoFar total (rest_of f (drop i xs)) old now → IsShown total old now stopped
all_shown f xs i total old now stopped past st so_far =
    let P : Listing → Type 0 = λ l. SoFar total l old now in
    shown_end f [] 0 total old now stopped (omega arith) st (subst P (at_drop_all (λ (ys : List Function). rest_of f ys) xs i past) so_far)
