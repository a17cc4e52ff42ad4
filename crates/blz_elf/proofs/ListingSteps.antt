-- A list that is shown one symbol after another.
use Rattle.std.proofs.Common.{◌≡◌, ℕ, ◌+◌, ◌<◌, ◌≤◌, Bool, true, false, List, [], ◌∷◌, ◌++◌, length, get_or, drop, map, Some, None, refl, sym, ap, ◌∙◌, append_assoc, length-append, arith}
use Rattle.std.proofs.lemmas.List.{append-nil, at_drop_more, at_drop_all}
use Rattle.blz_error.specs.declared.kind.ErrorKind.{ErrorKind}
use Rattle.blz_model.specs.Part.{Part, Good, Broken}
use Rattle.blz_elf.specs.Infos.{Info}
use Rattle.blz_elf.specs.Visits.{ShowsOne}
use Rattle.blz_elf.specs.Listings.{Listing, broken_by, listing_of, Told, Shown, IsShown, Breaks, IsRefused}
use Rattle.blz_elf.proofs.ListingLemmas.{shown_none, shown_more}

abbrev pub behind : List Info → Listing → Listing
behind done l = record { shown = done ++ l.shown; mark = l.mark }

-- `done` was shown of the whole, and a rest is left
pub record SoFar (total rest : Listing) (old now : Told) : Type 0 where
  pub done : List Info
  pub whole : behind done rest ≡ total
  pub shown : Shown old now done

pub none_yet : (total : Listing) (old : Told) → SoFar total total old old
none_yet total old = record { done = []; whole = refl; shown = shown_none old }

shows_one : (now next : Told) (x : Info) → ShowsOne now next x → Shown now next (x ∷ [])
shows_one None None x h = tt
shows_one None (Some more) x h = absurd h
shows_one (Some xs) None x h = tt
shows_one (Some xs) (Some more) x h = h

one_on : {X : Type 0} (f : X → Part Info) (xs : List X) (i : ℕ) (s : X) (p : Part Info) → i < length xs → get_or xs i s ≡ s → f s ≡ p → listing_of (map f (drop i xs)) ≡ listing_of (p ∷ map f (drop (i + 1) xs))
one_on {X = X} f xs i s p lt here e =
    at_drop_more (λ (ys : List X). listing_of (map f ys)) xs i s lt ∙ ap (λ (t : X). listing_of (f t ∷ map f (drop (i + 1) xs))) here ∙ ap (λ (q : Part Info). listing_of (q ∷ map f (drop (i + 1) xs))) e

pub shown_on : {X : Type 0} (f : X → Part Info) (xs : List X) (i : ℕ) (s : X) (x : Info) (total : Listing) (old now next : Told) → i < length xs → get_or xs i s ≡ s → f s ≡ Good x → ShowsOne now next x → SoFar total (listing_of (map f (drop i xs))) old now → SoFar total (listing_of (map f (drop (i + 1) xs))) old next
shown_on f xs i s x total old now next lt here e one h =
    let rest = listing_of (map f (drop (i + 1) xs)) in
    record {
      done = h.done ++ x ∷ [];
      whole = ap (λ (zs : List Info). record { shown = zs; mark = rest.mark }) (append_assoc h.done (x ∷ []) rest.shown) ∙ ap (behind h.done) (sym (one_on f xs i s (Good x) lt here e)) ∙ h.whole;
      shown = shown_more old now next h.done (x ∷ []) h.shown (shows_one now next x one);
    }

pub breaks_here : (total rest : Listing) (old now : Told) (x : Info) (done : List Info) (stopped : Bool) → stopped ≡ true → behind (done ++ x ∷ []) rest ≡ total → Shown old now (done ++ x ∷ []) → Breaks total old now stopped
breaks_here total rest old now x done stopped e whole shown = record { stops = e; front = done ++ x ∷ []; rest = rest.shown; some = omega (arith, length-append done (x ∷ [])); split = ap (λ (l : Listing). l.shown) whole; shown = shown }

pub shown_break : {X : Type 0} (f : X → Part Info) (xs : List X) (i : ℕ) (s : X) (x : Info) (total : Listing) (old now next : Told) (stopped : Bool) → i < length xs → get_or xs i s ≡ s → f s ≡ Good x → ShowsOne now next x → stopped ≡ true → SoFar total (listing_of (map f (drop i xs))) old now → Breaks total old next stopped
unfolding shown_on
shown_break f xs i s x total old now next stopped lt here e one st h =
    let k = shown_on f xs i s x total old now next lt here e one h in
    breaks_here total (listing_of (map f (drop (i + 1) xs))) old next x h.done stopped st k.whole k.shown

pub shown_refused : {X : Type 0} (f : X → Part Info) (xs : List X) (i : ℕ) (s : X) (kind : ErrorKind) (total : Listing) (old now : Told) (stopped : Bool) → i < length xs → get_or xs i s ≡ s → f s ≡ Broken kind → stopped ≡ false → SoFar total (listing_of (map f (drop i xs))) old now → IsRefused total old now stopped kind
shown_refused f xs i s kind total old now stopped lt here e st h =
    let whole : behind h.done (broken_by kind) ≡ total = ap (behind h.done) (sym (one_on f xs i s (Broken kind) lt here e)) ∙ h.whole in
    let list : h.done ++ [] ≡ total.shown = ap (λ (l : Listing). l.shown) whole in
    record {
      goes_on = st;
      mark = λ ne. ap (λ (l : Listing). l.mark) (sym whole);
      whole = λ ne. rw (← list, append-nil) h.shown;
      front = h.done;
      rest = [];
      split = list;
      shown = h.shown;
    }

pub shown_end : {X : Type 0} (f : X → Part Info) (xs : List X) (i : ℕ) (total : Listing) (old now : Told) (stopped : Bool) → length xs ≤ i → stopped ≡ false → SoFar total (listing_of (map f (drop i xs))) old now → IsShown total old now stopped
shown_end {X = X} f xs i total old now stopped past st h =
    let whole : behind h.done (listing_of []) ≡ total = ap (behind h.done) (sym (at_drop_all (λ (ys : List X). listing_of (map f ys)) xs i past)) ∙ h.whole in
    let list : h.done ++ [] ≡ total.shown = ap (λ (l : Listing). l.shown) whole in
    record { goes_on = st; whole = ap (λ (l : Listing). l.mark) (sym whole); shown = rw (← list, append-nil) h.shown }
