-- The counts of the lines and the rest sum to the total.
use Rattle.std.proofs.Common.{◌≡◌, ℕ, ◌+◌, ◌&&◌, ◌||◌, Bool, true, false, not, is_none, List, [], ◌∷◌, ◌++◌, map, sum_by, fold, refl, sym, ap, ◌∙◌, Option, Some, None, if◌then◌else◌, arith}
use Rattle.std.proofs.lemmas.List.Folds.{list_any-append}
use Rattle.std.proofs.lemmas.List.Sums.{sum_by-cons}
use Rattle.std.proofs.lemmas.Map.Keys.{IsDistinct-head, IsDistinct-tail}
use Rattle.std.specs.List.{list_any, IsDistinct, AllByRecursion}
use Rattle.blz_cover.specs.Changes.{is_added, is_taken, added_by, taken_by, left_at, total_of}
use Rattle.blz_cover.specs.Coverage.{CountedLine, count_at, counted, covered_by, rest_by, seen_lines, seen_with, with_line}
use Rattle.blz_cover.specs.Kept.{NoneMissing}
use Rattle.blz_cover.specs.SourceLines.{SourceLine, is_at, is_same}
use Rattle.blz_cover.specs.declared.change.Change.{Change}
use Rattle.blz_cover.specs.declared.change.Way.{Way}
use Rattle.blz_cover.specs.declared.change.Way.TheVariants.{Added, Taken}
use Rattle.blz_cover.proofs.Seen.{is_same_equiv, seen_lines-IsDistinct}
use Rattle.blz_cover.proofs.Sums.{left_at-nothing, left_at-split, no_amount, without}

-- ---- sums over tests

sum_by-alike : {X : Type 0} (f g : X → ℕ) → ((x : X) → f x ≡ g x) → (xs : List X) → sum_by f xs ≡ sum_by g xs
sum_by-alike f g same [] = refl
sum_by-alike f g same (x ∷ xs) = rw (sum_by-cons f, sum_by-cons g) (omega (arith, same x, sum_by-alike f g same xs))

left_at-alike : (p q : ℕ → Bool) → ((a : ℕ) → p a ≡ q a) → (changes : List Change) → left_at p changes ≡ left_at q changes
unfolding left_at
left_at-alike p q same changes =
    let a = sum_by-alike (added_by p) (added_by q) (λ c. ap (λ b. if is_added c.way && b then c.count else 0) (same c.addr)) changes in
    let t = sum_by-alike (taken_by p) (taken_by q) (λ c. ap (λ b. if is_taken c.way && b then c.count else 0) (same c.addr)) changes in
    omega (arith, a, t)

none_added : (changes : List Change) → sum_by (added_by (λ _. false)) changes ≡ 0
none_added [] = refl
none_added (c ∷ changes) = rw sum_by-cons (omega (arith, no_amount (is_added c.way) false c.count refl, none_added changes))

-- ---- sums over lines

-- whether a line is at the place of one of some lines
abbrev at_one : List SourceLine → Option SourceLine → Bool
at_one ls o = list_any (λ l. is_at l o) ls

apart_from : (l m : SourceLine) (ls : List SourceLine) → AllByRecursion (λ y. is_same l y ≡ false) ls → is_same l m ≡ true → at_one ls (Some m) ≡ false
apart_from l m [] apart same = refl
apart_from l m (k ∷ ls) apart same =
    let far : is_same k m ≡ false = is_same_equiv.symm k m ∙ sym (is_same_equiv.congr l m k same) ∙ apart.0 in
    rw (far, apart_from l m ls apart.1 same) refl

others : (l : SourceLine) (ls : List SourceLine) (o : Option SourceLine) (b : Bool) → AllByRecursion (λ y. is_same l y ≡ false) ls → is_at l o ≡ b → ((b || at_one ls o) && not b) ≡ at_one ls o
others l ls None true apart is = cc
others l ls (Some m) true apart is = sym (apart_from l m ls apart is)
others l ls o false apart is = both_true (at_one ls o)
  where
    both_true : (t : Bool) → (t && true) ≡ t
    both_true true = refl
    both_true false = refl

or_first : (b c : Bool) → b ≡ true → (b || c) ≡ true
or_first true c is = refl
or_first false c is = cc

module _ (line_of : ℕ → Option SourceLine) where
  sum_of_lines : (ls : List SourceLine) (changes : List Change) → IsDistinct is_same ls → NoneMissing changes → sum_by (count_at line_of changes) ls ≡ left_at (λ a. at_one ls (line_of a)) changes
  sum_of_lines [] changes differ none = sym (left_at-nothing (λ _. false) changes (none_added changes))
  sum_of_lines (l ∷ ls) changes differ none =
      let whole = λ (a : ℕ). at_one (l ∷ ls) (line_of a) in
      let first = λ (a : ℕ). is_at l (line_of a) in
      let split = left_at-split whole first (λ a is. or_first (is_at l (line_of a)) (at_one ls (line_of a)) is) changes none in
      let rest = left_at-alike (without whole first) (λ a. at_one ls (line_of a)) (λ a. others l ls (line_of a) (is_at l (line_of a)) (IsDistinct-head is_same l ls differ) refl) changes in
      rw sum_by-cons (omega (arith, split, rest, sum_of_lines ls changes (IsDistinct-tail is_same l ls differ) none))

  -- ---- every added count has its line

  still_with : (seen : List SourceLine) (l : SourceLine) (b : Bool) (o : Option SourceLine) → at_one seen o ≡ true → at_one (if b then seen else seen ++ l ∷ []) o ≡ true
  still_with seen l true o at = at
  still_with seen l false o at = list_any-append (λ m. is_at m o) seen (l ∷ []) ∙ or_first (at_one seen o) _ at

  still_line : (seen : List SourceLine) (p o : Option SourceLine) → at_one seen o ≡ true → at_one (with_line seen p) o ≡ true
  still_line seen None o at = at
  still_line seen (Some l) o at = still_with seen l (list_any (is_same l) seen) o at

  still_step : (seen : List SourceLine) (c : Change) (w : Way) (o : Option SourceLine) → c.way ≡ w → at_one seen o ≡ true → at_one (seen_with line_of seen c) o ≡ true
  still_step seen c Added o is at = rw is (still_line seen (line_of c.addr) o at)
  still_step seen c Taken o is at = rw is at

  still : (seen : List SourceLine) (changes : List Change) (o : Option SourceLine) → at_one seen o ≡ true → at_one (fold (seen_with line_of) seen changes) o ≡ true
  still seen [] o at = at
  still seen (c ∷ changes) o at = still (seen_with line_of seen c) changes o (still_step seen c c.way o refl at)

  turned : (l : SourceLine) (seen : List SourceLine) → at_one seen (Some l) ≡ list_any (is_same l) seen
  turned l [] = refl
  turned l (m ∷ seen) = rw (is_same_equiv.symm m l, turned l seen) refl

  or_last : (a b : Bool) → b ≡ true → (a || (b || false)) ≡ true
  or_last true b is = refl
  or_last false true is = refl
  or_last false false is = cc

  there_with : (seen : List SourceLine) (l : SourceLine) (b : Bool) → list_any (is_same l) seen ≡ b → at_one (if b then seen else seen ++ l ∷ []) (Some l) ≡ true
  there_with seen l true is = turned l seen ∙ is
  there_with seen l false is = list_any-append (λ m. is_at m (Some l)) seen (l ∷ []) ∙ or_last (at_one seen (Some l)) (is_same l l) (is_same_equiv.refl l)

  -- the line of an address is there, but at none of some lines
  abbrev lost : List SourceLine → ℕ → Bool
  lost ls a = not (is_none (line_of a)) && not (at_one ls (line_of a))

  not_lost : (final seen : List SourceLine) (o : Option SourceLine) → ((l : SourceLine) → at_one (with_line seen o) (Some l) ≡ true → at_one final (Some l) ≡ true) → (not (is_none o) && not (at_one final o)) ≡ false
  not_lost final seen None stays = refl
  not_lost final seen (Some l) stays = rw (stays l (there_with seen l (list_any (is_same l) seen) refl)) refl

  added_is_not_lost : (seen : List SourceLine) (c : Change) (changes : List Change) (w : Way) → c.way ≡ w → added_by (lost (fold (seen_with line_of) seen (c ∷ changes))) c ≡ 0
  added_is_not_lost seen c changes Taken is = rw is refl
  added_is_not_lost seen c changes Added is =
      let final = fold (seen_with line_of) seen (c ∷ changes) in
      let step : seen_with line_of seen c ≡ with_line seen (line_of c.addr) = rw is refl in
      no_amount (is_added c.way) (lost final c.addr) c.count (not_lost final seen (line_of c.addr) (λ l at. still (seen_with line_of seen c) changes (Some l) (rw step at)))

  none_lost : (seen : List SourceLine) (changes : List Change) → sum_by (added_by (lost (fold (seen_with line_of) seen changes))) changes ≡ 0
  none_lost seen [] = refl
  none_lost seen (c ∷ changes) = rw sum_by-cons (omega (arith, added_is_not_lost seen c changes c.way refl, none_lost (seen_with line_of seen c) changes))

  -- ---- the law

  at_one_has : (ls : List SourceLine) (o : Option SourceLine) → at_one ls o ≡ true → not (is_none o) ≡ true
  at_one_has ls (Some l) at = refl
  at_one_has [] None at = cc
  at_one_has (l ∷ ls) None at = at_one_has ls None at

  sum_of_map : (f : SourceLine → CountedLine) (ls : List SourceLine) → sum_by (λ l. l.count) (map f ls) ≡ sum_by (λ l. (f l).count) ls
  sum_of_map f [] = refl
  sum_of_map f (l ∷ ls) = rw (sum_by-cons (λ (l : CountedLine). l.count), sum_by-cons (λ l. (f l).count)) (ap (λ n. (f l).count + n) (sum_of_map f ls))

  pub counts_and_rest : (changes : List Change) → NoneMissing changes → sum_by (λ l. l.count) (covered_by line_of changes) + rest_by line_of changes ≡ total_of changes
  unfolding covered_by rest_by seen_lines
  counts_and_rest changes none =
      let seen = seen_lines line_of changes in
      let has = λ (a : ℕ). not (is_none (line_of a)) in
      let lines = sum_of_map (counted line_of changes) seen ∙ sum_of_lines seen changes (seen_lines-IsDistinct line_of changes) none in
      let by_rest = left_at-split (λ _. true) (λ a. is_none (line_of a)) (λ _ _. refl) changes none in
      let by_line = left_at-split has (λ a. at_one seen (line_of a)) (λ a at. at_one_has seen (line_of a) at) changes none in
      let nothing = left_at-nothing (lost seen) changes (none_lost [] changes) in
      omega (arith, lines, by_rest, by_line, nothing)
