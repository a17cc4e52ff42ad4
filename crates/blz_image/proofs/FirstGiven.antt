-- What the first segment gives that gives something, one segment on.
use Rattle.std.proofs.Common.{◌≡◌, ℕ, ◌+◌, ◌<◌, true, false, List, length, get_or, drop, Option, Some, None, sym, ap, ◌∙◌}
use Rattle.std.specs.Option.{is_some}
use Rattle.std.proofs.lemmas.List.{at_drop_more}
use Rattle.blz_image.specs.Segments.{or_else, first_given}
use Rattle.blz_image.specs.declared.segments.Segment.{Segment}

step : (f : Segment → Option ℕ) (xs : List Segment) (i : ℕ) (s : Segment) → i < length xs → ((d : Segment) → get_or xs i d ≡ s) → first_given f (drop i xs) ≡ or_else (f s) (first_given f (drop (i + 1) xs))
step f xs i s lt here = at_drop_more (first_given f) xs i s lt ∙ ap (λ (t : Segment). or_else (f t) (first_given f (drop (i + 1) xs))) (here s)

pub given_here : (f : Segment → Option ℕ) (xs : List Segment) (i : ℕ) (s : Segment) (r : Option ℕ) → i < length xs → ((d : Segment) → get_or xs i d ≡ s) → r ≡ f s → is_some r ≡ true → first_given f (drop i xs) ≡ first_given f xs → r ≡ first_given f xs
given_here f xs i s r lt here is some so_far = by r is some
  where
    by : (r : Option ℕ) → r ≡ f s → is_some r ≡ true → r ≡ first_given f xs
    by None is some = absurd cc
    by (Some n) is some = ap (λ (o : Option ℕ). or_else o (first_given f (drop (i + 1) xs))) is ∙ sym (step f xs i s lt here) ∙ so_far

pub given_later : (f : Segment → Option ℕ) (xs : List Segment) (i : ℕ) (s : Segment) (r : Option ℕ) → i < length xs → ((d : Segment) → get_or xs i d ≡ s) → r ≡ f s → is_some r ≡ false → first_given f (drop i xs) ≡ first_given f xs → first_given f (drop (i + 1) xs) ≡ first_given f xs
given_later f xs i s r lt here is some so_far = by r is some
  where
    by : (r : Option ℕ) → r ≡ f s → is_some r ≡ false → first_given f (drop (i + 1) xs) ≡ first_given f xs
    by None is some = ap (λ (o : Option ℕ). or_else o (first_given f (drop (i + 1) xs))) is ∙ sym (step f xs i s lt here) ∙ so_far
    by (Some n) is some = absurd cc
