-- The lines that a list of changes has met.
use Rattle.std.proofs.Common.{◌≡◌, ℕ, ◌+◌, ◌||◌, Bool, true, false, List, [], ◌∷◌, ◌++◌, refl, ap, ◌∙◌, sum_by, fold, Option, Some, None, arith, if◌then◌else◌}
use Rattle.std.specs.Cmp.{IsEquivalence, and_equiv, on_equiv, nat_eq_equiv}
use Rattle.std.specs.Cmp.Lexicographic.{on_texts_equal}
use Rattle.std.specs.List.{list_any, IsDistinct}
use Rattle.std.proofs.lemmas.List.Folds.{list_any-append}
use Rattle.std.proofs.lemmas.List.Sums.{fold_push, sum_by-cons}
use Rattle.std.proofs.lemmas.Map.Steps.{list_any_congr}
use Rattle.std.proofs.lemmas.Map.Keys.{IsDistinct-push}
use Rattle.blz_cover.specs.Changes.{added_by, added, taken}
use Rattle.blz_cover.specs.Coverage.{with_line, seen_with, seen_lines}
use Rattle.blz_cover.specs.SourceLines.{SourceLine, path_of, is_same, is_at}
use Rattle.blz_cover.specs.declared.change.Way.{Way}
use Rattle.blz_cover.specs.declared.change.Way.TheVariants.{Added, Taken}
use Rattle.blz_cover.specs.declared.change.Change.{Change}

pub is_same_equiv : IsEquivalence is_same
unfolding is_same
is_same_equiv = and_equiv (on_texts_equal path_of) (on_equiv (λ (l : SourceLine). l.line) nat_eq_equiv)

-- ---- one more change

module _ (line_of : ℕ → Option SourceLine) where
  pub seen_lines-push : (changes : List Change) (c : Change) → seen_lines line_of (changes ++ c ∷ []) ≡ seen_with line_of (seen_lines line_of changes) c
  unfolding seen_lines
  seen_lines-push changes c = fold_push (seen_with line_of) [] changes c

  pub seen_lines-taken : (changes : List Change) (a n : ℕ) → seen_lines line_of (changes ++ taken a n ∷ []) ≡ seen_lines line_of changes
  seen_lines-taken changes a n = seen_lines-push changes (taken a n)

  pub seen_lines-rest : (changes : List Change) (a n : ℕ) → line_of a ≡ None → seen_lines line_of (changes ++ added a n ∷ []) ≡ seen_lines line_of changes
  seen_lines-rest changes a n none = seen_lines-push changes (added a n) ∙ ap (with_line (seen_lines line_of changes)) none

  pub seen_lines-again : (changes : List Change) (a n : ℕ) (l : SourceLine) → line_of a ≡ Some l → list_any (is_same l) (seen_lines line_of changes) ≡ true
      → seen_lines line_of (changes ++ added a n ∷ []) ≡ seen_lines line_of changes
  seen_lines-again changes a n l some again = seen_lines-push changes (added a n) ∙ ap (with_line (seen_lines line_of changes)) some ∙ rw again refl

  pub seen_lines-new : (changes : List Change) (a n : ℕ) (l : SourceLine) → line_of a ≡ Some l → list_any (is_same l) (seen_lines line_of changes) ≡ false
      → seen_lines line_of (changes ++ added a n ∷ []) ≡ seen_lines line_of changes ++ l ∷ []
  seen_lines-new changes a n l some new = seen_lines-push changes (added a n) ∙ ap (with_line (seen_lines line_of changes)) some ∙ rw new refl

  -- ---- no two are the same place

  distinct_with : (seen : List SourceLine) (l : SourceLine) (b : Bool) → list_any (is_same l) seen ≡ b → IsDistinct is_same seen → IsDistinct is_same (if b then seen else seen ++ l ∷ [])
  distinct_with seen l true is differ = differ
  distinct_with seen l false is differ = IsDistinct-push is_same_equiv seen l differ is

  distinct_line : (seen : List SourceLine) (l : Option SourceLine) → IsDistinct is_same seen → IsDistinct is_same (with_line seen l)
  distinct_line seen None differ = differ
  distinct_line seen (Some l) differ = distinct_with seen l (list_any (is_same l) seen) refl differ

  distinct_step : (seen : List SourceLine) (c : Change) (w : Way) → c.way ≡ w → IsDistinct is_same seen → IsDistinct is_same (seen_with line_of seen c)
  distinct_step seen c Added is differ = rw is (distinct_line seen (line_of c.addr) differ)
  distinct_step seen c Taken is differ = rw is differ

  distinct_from : (seen : List SourceLine) (changes : List Change) → IsDistinct is_same seen → IsDistinct is_same (fold (seen_with line_of) seen changes)
  distinct_from seen [] differ = differ
  distinct_from seen (c ∷ changes) differ = distinct_from (seen_with line_of seen c) changes (distinct_step seen c c.way refl differ)

  pub seen_lines-IsDistinct : (changes : List Change) → IsDistinct is_same (seen_lines line_of changes)
  unfolding seen_lines IsDistinct
  seen_lines-IsDistinct changes = distinct_from [] changes tt

  -- ---- what is not seen

  or_false : (a b : Bool) → (a || (b || false)) ≡ false → (a ≡ false) × (b ≡ false)
  or_false true b h = absurd (let e : true ≡ false = h in cc)
  or_false false true h = absurd (let e : true ≡ false = h in cc)
  or_false false false h = (refl, refl)

  false_unless : (b : Bool) → (b ≡ true → ⊥) → b ≡ false
  false_unless true h = absurd (h refl)
  false_unless false h = refl

  abbrev Unseen : SourceLine → List SourceLine → Change → Type 0
  Unseen l seen c = (list_any (is_same l) seen ≡ false) × (added_by (λ a. is_at l (line_of a)) c ≡ 0)

  unseen_more : (l m : SourceLine) (seen : List SourceLine) (b : Bool) → list_any (is_same m) seen ≡ b
      → list_any (is_same l) (if b then seen else seen ++ m ∷ []) ≡ false → (list_any (is_same l) seen ≡ false) × (is_same l m ≡ false)
  unseen_more l m seen true again h =
      (h, false_unless (is_same l m) (λ same. let e = list_any_congr is_same_equiv l m seen same in cc))
  unseen_more l m seen false new h = or_false (list_any (is_same l) seen) (is_same l m) (rw list_any-append at h)

  unseen_step : (l : SourceLine) (seen : List SourceLine) (c : Change) (w : Way) (o : Option SourceLine) → c.way ≡ w → line_of c.addr ≡ o
      → list_any (is_same l) (seen_with line_of seen c) ≡ false → Unseen l seen c
  unseen_step l seen c Taken o is at h = (rw is at h, rw is refl)
  unseen_step l seen c Added None is at h = (rw (is, at) at h, rw (is, at) refl)
  unseen_step l seen c Added (Some m) is at h =
      let both = unseen_more l m seen (list_any (is_same m) seen) refl (rw (is, at) at h) in
      (both.0, rw (is, at, both.1) refl)

  unseen_from : (l : SourceLine) (seen : List SourceLine) (changes : List Change) → list_any (is_same l) (fold (seen_with line_of) seen changes) ≡ false
      → (list_any (is_same l) seen ≡ false) × (sum_by (added_by (λ a. is_at l (line_of a))) changes ≡ 0)
  unseen_from l seen [] h = (h, refl)
  unseen_from l seen (c ∷ changes) h =
      let later = unseen_from l (seen_with line_of seen c) changes h in
      let here = unseen_step l seen c c.way (line_of c.addr) refl refl later.0 in
      (here.0, rw sum_by-cons (omega (arith, here.1, later.1)))

  -- nothing was added at a place that was not seen
  pub unseen_adds_nothing : (l : SourceLine) (changes : List Change) → list_any (is_same l) (seen_lines line_of changes) ≡ false
      → sum_by (added_by (λ a. is_at l (line_of a))) changes ≡ 0
  unfolding seen_lines
  unseen_adds_nothing l changes h = (unseen_from l [] changes h).1
