-- What one more change does to all that a cover keeps.
use Rattle.std.proofs.Common.{◌≡◌, ℕ, ◌+◌, ◌-◌, ◌^◌, ◌<◌, ◌≤◌, ◌==◌, ◌||◌, zero, suc, Bool, true, false, cond, List, [], ◌∷◌, ◌++◌, length, slice_get, refl, ap, sym, ◌∙◌, subst, nat_eq, sum_by, is_none, if◌then◌else◌, Option, Some, None, ◌⊎◌, inl, inr, arith}
use Rattle.std.proofs.lemmas.Bool.{eqb-true, eq-eqb}
use Rattle.std.proofs.lemmas.List.Folds.{list_any-append}
use Rattle.std.proofs.lemmas.List.Sums.{sum_by-cons}
use Rattle.std.proofs.lemmas.Map.Keys.{any_passes_from_place}
use Rattle.std.specs.List.{list_any}
use Rattle.blz_cover.specs.Changes.{is_added, added_by, left_at, count_of, added, taken}
use Rattle.blz_cover.specs.Coverage.{CountedLine, counted, covered_by, seen_lines, rest_by}
use Rattle.std.proofs.lemmas.Option.{slice_get-map, slice_get_within}
use Rattle.std.specs.Option.{option_map}
use Rattle.blz_cover.specs.Kept.{HasCount, HasRoom, NoneMissing, LinesStand, StandsAt, HomeStands, TallyStands, TallyStandsIf, Stands, has_change, lines_at, rest_at, home_for, lines_for}
use Rattle.blz_cover.specs.LineEntries.{LineEntry, first_and_count, found_or_last, is_entry_of}
use Rattle.blz_cover.specs.SourceLines.{SourceLine, path_of, is_same, is_at}
use Rattle.blz_cover.specs.declared.change.Change.{Change}
use Rattle.blz_cover.specs.declared.tally.Home.{Home}
use Rattle.blz_cover.specs.declared.tally.Home.TheVariants.{Line, Rest}
use Rattle.blz_cover.specs.declared.tally.Tally.{Tally}
use Rattle.blz_cover.proofs.LineSteps.{seen_lines-keeps, lines_stand_on, lines_stand_counted, lines_stand_new, found_seen, met_seen, found_new, met_new, recount-last}
use Rattle.blz_cover.proofs.Seen.{is_same_equiv, seen_lines-taken, seen_lines-rest, seen_lines-again, seen_lines-new}
use Rattle.blz_cover.proofs.Lists.{slice_get-last, slice_get-push}
use Rattle.blz_cover.proofs.Sums.{no_amount, left_at-nothing, left_at-added_here, left_at-taken_here, left_at-other, none_missing_at_first, none_missing_added, none_missing_taken, count_of-le-left_at, left_at-le-total}

-- ---- changes of an address

has_change-push : (q : ℕ) (changes : List Change) (c : Change) → has_change q (changes ++ c ∷ []) ≡ (has_change q changes || (c.addr == q || false))
has_change-push q changes c = list_any-append (λ x. x.addr == q) changes (c ∷ [])

or_true : (b : Bool) → (b || (true || false)) ≡ true
or_true true = refl
or_true false = refl

or_none : (b : Bool) → (b || (false || false)) ≡ b
or_none true = refl
or_none false = refl

pub has_change-here : (changes : List Change) (c : Change) → has_change c.addr (changes ++ c ∷ []) ≡ true
has_change-here changes c = has_change-push c.addr changes c ∙ rw (eq-eqb c.addr c.addr refl) (or_true (has_change c.addr changes))

has_change-other : (q : ℕ) (changes : List Change) (c : Change) → (c.addr == q) ≡ false → has_change q (changes ++ c ∷ []) ≡ has_change q changes
has_change-other q changes c off = has_change-push q changes c ∙ rw off (or_none (has_change q changes))

none_first : (b rest : Bool) → (b || rest) ≡ false → (b ≡ false) × (rest ≡ false)
none_first true rest h = cc
none_first false rest h = (refl, h)

nothing_added : (q : ℕ) (changes : List Change) → has_change q changes ≡ false → sum_by (added_by (λ a. a == q)) changes ≡ 0
nothing_added q [] none = refl
nothing_added q (c ∷ changes) none =
    let both = none_first (c.addr == q) (has_change q changes) none in
    rw sum_by-cons (omega (arith, no_amount (is_added c.way) (c.addr == q) c.count both.0, nothing_added q changes both.1))

-- nothing is left of an address without a change
pub count_of-unknown : (q : ℕ) (changes : List Change) → has_change q changes ≡ false → count_of q changes ≡ 0
count_of-unknown q changes none = left_at-nothing (λ a. a == q) changes (nothing_added q changes none)

module _ (line_of : ℕ → Option SourceLine) (is_answered : ℕ → Bool) where
  -- a line at which an address stands stays
  pub home_keeps : (changes : List Change) (c : Change) (q : ℕ) (h : Home) → HomeStands line_of is_answered changes q h → HomeStands line_of is_answered (changes ++ c ∷ []) q h
  home_keeps changes c q Rest at = at
  home_keeps changes c q (Line i) at = record { line = at.line; seen = at.seen; has = at.has; there = seen_lines-keeps line_of is_answered changes c i at.seen at.there; same = at.same }

  tally_keeps : (changes : List Change) (c : Change) (q : ℕ) (o : Option Tally) → (c.addr == q) ≡ false → TallyStandsIf line_of is_answered changes q o → TallyStandsIf line_of is_answered (changes ++ c ∷ []) q o
  tally_keeps changes c q None off none = has_change-other q changes c off ∙ none
  tally_keeps changes c q (Some t) off at = record {
    known = has_change-other q changes c off ∙ at.known;
    count = at.count ∙ sym (left_at-other (λ a. a == q) changes c off);
    answered = at.answered;
    home = home_keeps changes c q t.home at.home;
  }

  -- the tallies after a change at an address, which then has this one
  abbrev pub Updated : (ℕ → Option Tally) → (ℕ → Option Tally) → ℕ → Tally → Type 0
  Updated old new addr t = (q : ℕ) → new q ≡ cond (nat_eq addr q) (Some t) (old q)

  tally_at : (changes : List Change) (c : Change) (old new : ℕ → Option Tally) (t : Tally) (q : ℕ) (b : Bool) → nat_eq c.addr q ≡ b → new q ≡ cond b (Some t) (old q)
      → TallyStandsIf line_of is_answered changes q (old q) → TallyStands line_of is_answered (changes ++ c ∷ []) c.addr t → TallyStandsIf line_of is_answered (changes ++ c ∷ []) q (new q)
  tally_at changes c old new t q true is at stands here = rw (at, ← eqb-true c.addr q is) here
  tally_at changes c old new t q false is at stands here = rw at (tally_keeps changes c q (old q) is stands)

  tallies_stand : (changes : List Change) (c : Change) (old new : ℕ → Option Tally) (t : Tally) → Updated old new c.addr t → ((q : ℕ) → TallyStandsIf line_of is_answered changes q (old q))
      → TallyStands line_of is_answered (changes ++ c ∷ []) c.addr t → (q : ℕ) → TallyStandsIf line_of is_answered (changes ++ c ∷ []) q (new q)
  tallies_stand changes c old new t updated stand here q = tally_at changes c old new t q (nat_eq c.addr q) refl (updated q) (stand q) here

  -- ---- nothing was changed

  pub stands_at_first : (tally_of : ℕ → Option Tally) → ((a : ℕ) → tally_of a ≡ None) → Stands line_of is_answered [] tally_of [] 0 0
  unfolding seen_lines rest_by left_at
  stands_at_first tally_of none = record {
    none_missing = none_missing_at_first;
    tallies = λ a. rw (none a) refl;
    lines = record { count = refl; each = λ k e l at_e at_l. cc };
    rest_is = refl;
    total_is = refl;
  }

  -- ---- an added count

  was_seen : (changes : List Change) (a i : ℕ) (at : StandsAt line_of is_answered changes a i) → list_any (is_same at.line) (seen_lines line_of changes) ≡ true
  was_seen changes a i at = any_passes_from_place (is_same at.line) (seen_lines line_of changes) i at.seen at.there (is_same_equiv.symm at.line at.seen ∙ at.same)

  abbrev plus : ℕ → ℕ → ℕ
  plus n m = m + n

  lines_added : (changes : List Change) (a n : ℕ) (h : Home) (es : List LineEntry) → NoneMissing changes → HomeStands line_of is_answered changes a h → LinesStand line_of is_answered changes es
      → LinesStand line_of is_answered (changes ++ added a n ∷ []) (lines_at (plus n) h es)
  lines_added changes a n Rest es none at stand = lines_stand_on line_of is_answered changes (added a n) es (seen_lines-rest line_of changes a n at) at stand
  lines_added changes a n (Line i) es none at stand =
      let same = seen_lines-again line_of changes a n at.line at.has (was_seen changes a i at) in
      lines_stand_counted line_of is_answered changes (added a n) es i (plus n) same (λ l here. left_at-added_here (λ x. is_at l (line_of x)) changes a n none here) at stand

  rest_added : (changes : List Change) (a n : ℕ) (h : Home) (rest : ℕ) → NoneMissing changes → HomeStands line_of is_answered changes a h → rest ≡ rest_by line_of changes
      → rest_at (plus n) h rest ≡ rest_by line_of (changes ++ added a n ∷ [])
  unfolding rest_by
  rest_added changes a n Rest rest none at is = ap (plus n) is ∙ sym (left_at-added_here (λ x. is_none (line_of x)) changes a n none (rw at refl))
  rest_added changes a n (Line i) rest none at is = is ∙ sym (left_at-other (λ x. is_none (line_of x)) changes (added a n) (rw at.has refl))

  pub stands_added : (changes : List Change) (a n : ℕ) (old new : ℕ → Option Tally) (t : Tally) (es : List LineEntry) (rest total : ℕ) → Stands line_of is_answered changes old es rest total → old a ≡ Some t
      → Updated old new a (record { count = t.count + n; home = t.home })
      → Stands line_of is_answered (changes ++ added a n ∷ []) new (lines_at (plus n) t.home es) (rest_at (plus n) t.home rest) (total + n)
  stands_added changes a n old new t es rest total stand has updated =
      let at : TallyStands line_of is_answered changes a t = subst (TallyStandsIf line_of is_answered changes a) has (stand.tallies a) in
      record {
        none_missing = none_missing_added changes a n stand.none_missing;
        tallies = tallies_stand changes (added a n) old new _ updated stand.tallies (record {
          known = has_change-here changes (added a n);
          count = ap (plus n) at.count ∙ sym (left_at-added_here (λ x. x == a) changes a n stand.none_missing (eq-eqb a a refl));
          answered = at.answered;
          home = home_keeps changes (added a n) a t.home at.home;
        });
        lines = lines_added changes a n t.home es stand.none_missing at.home stand.lines;
        rest_is = rest_added changes a n t.home rest stand.none_missing at.home stand.rest_is;
        total_is = ap (plus n) stand.total_is ∙ sym (left_at-added_here (λ _. true) changes a n stand.none_missing refl);
      }

  -- ---- a taken count

  abbrev minus : ℕ → ℕ → ℕ
  minus n m = m - n

  lines_taken : (changes : List Change) (a n : ℕ) (h : Home) (es : List LineEntry) → HomeStands line_of is_answered changes a h → LinesStand line_of is_answered changes es
      → LinesStand line_of is_answered (changes ++ taken a n ∷ []) (lines_at (minus n) h es)
  lines_taken changes a n Rest es at stand = lines_stand_on line_of is_answered changes (taken a n) es (seen_lines-taken line_of changes a n) at stand
  lines_taken changes a n (Line i) es at stand =
      lines_stand_counted line_of is_answered changes (taken a n) es i (minus n) (seen_lines-taken line_of changes a n) (λ l here. left_at-taken_here (λ x. is_at l (line_of x)) changes a n here) at stand

  rest_taken : (changes : List Change) (a n : ℕ) (h : Home) (rest : ℕ) → HomeStands line_of is_answered changes a h → rest ≡ rest_by line_of changes
      → rest_at (minus n) h rest ≡ rest_by line_of (changes ++ taken a n ∷ [])
  unfolding rest_by
  rest_taken changes a n Rest rest at is = ap (minus n) is ∙ sym (left_at-taken_here (λ x. is_none (line_of x)) changes a n (rw at refl))
  rest_taken changes a n (Line i) rest at is = is ∙ sym (left_at-other (λ x. is_none (line_of x)) changes (taken a n) (rw at.has refl))

  pub stands_taken : (changes : List Change) (a n : ℕ) (old new : ℕ → Option Tally) (t : Tally) (es : List LineEntry) (rest total : ℕ) → Stands line_of is_answered changes old es rest total → old a ≡ Some t → n ≤ t.count
      → Updated old new a (record { count = t.count - n; home = t.home })
      → Stands line_of is_answered (changes ++ taken a n ∷ []) new (lines_at (minus n) t.home es) (rest_at (minus n) t.home rest) (total - n)
  stands_taken changes a n old new t es rest total stand has fits updated =
      let at : TallyStands line_of is_answered changes a t = subst (TallyStandsIf line_of is_answered changes a) has (stand.tallies a) in
      record {
        none_missing = none_missing_taken changes a n stand.none_missing (subst (λ m. n ≤ m) at.count fits);
        tallies = tallies_stand changes (taken a n) old new _ updated stand.tallies (record {
          known = has_change-here changes (taken a n);
          count = ap (minus n) at.count ∙ sym (left_at-taken_here (λ x. x == a) changes a n (eq-eqb a a refl));
          answered = at.answered;
          home = home_keeps changes (taken a n) a t.home at.home;
        });
        lines = lines_taken changes a n t.home es at.home stand.lines;
        rest_is = rest_taken changes a n t.home rest at.home stand.rest_is;
        total_is = ap (minus n) stand.total_is ∙ sym (left_at-taken_here (λ _. true) changes a n refl);
      }

  -- ---- a count at an address without a change

  -- where it counts, what becomes of the lines and what of the rest
  pub record NewHome (changes : List Change) (a n : ℕ) (o : Option SourceLine) (es : List LineEntry) (rest : ℕ) : Type 0 where
    pub home : HomeStands line_of is_answered (changes ++ added a n ∷ []) a (home_for o es)
    pub lines : LinesStand line_of is_answered (changes ++ added a n ∷ []) (lines_at (plus n) (home_for o es) (lines_for o a es))
    pub rest_is : rest_at (plus n) (home_for o es) rest ≡ rest_by line_of (changes ++ added a n ∷ [])

  new_line : (changes : List Change) (a n : ℕ) (l : SourceLine) (es : List LineEntry) (rest : ℕ) (b : Bool) → NoneMissing changes → LinesStand line_of is_answered changes es → rest ≡ rest_by line_of changes → line_of a ≡ Some l
      → list_any (is_same l) (seen_lines line_of changes) ≡ b → NewHome changes a n (Some l) es rest
  unfolding rest_by
  new_line changes a n l es rest true none stand is some any =
      let at = found_seen line_of is_answered changes a l es stand some any in
      record {
        home = home_keeps changes (added a n) a (home_for (Some l) es) at;
        lines = rw (met_seen line_of is_answered changes a l es stand any) (lines_added changes a n (home_for (Some l) es) es none at stand);
        rest_is = is ∙ sym (left_at-other (λ x. is_none (line_of x)) changes (added a n) (rw some refl));
      }
  new_line changes a n l es rest false none stand is some any =
      let seen = seen_lines-new line_of changes a n l some any in
      let index = found_new line_of is_answered changes l es stand any ∙ stand.count in
      let there = ap (slice_get (seen_lines line_of (changes ++ added a n ∷ []))) index ∙ ap (λ ls. slice_get ls (length (seen_lines line_of changes))) seen ∙ slice_get-last (seen_lines line_of changes) l in
      let zero_count : 0 + n ≡ n = omega arith in
      record {
        home = record { line = l; seen = l; has = some; there = there; same = is_same_equiv.refl l };
        lines = rw (met_new line_of is_answered changes a l es stand any, found_new line_of is_answered changes l es stand any, recount-last, zero_count) (lines_stand_new line_of is_answered changes a n l es none some any stand);
        rest_is = is ∙ sym (left_at-other (λ x. is_none (line_of x)) changes (added a n) (rw some refl));
      }

  new_home : (changes : List Change) (a n : ℕ) (o : Option SourceLine) (es : List LineEntry) (rest : ℕ) → NoneMissing changes → LinesStand line_of is_answered changes es → rest ≡ rest_by line_of changes → line_of a ≡ o
      → NewHome changes a n o es rest
  new_home changes a n None es rest none stand is at = record {
    home = home_keeps changes (added a n) a Rest at;
    lines = lines_added changes a n Rest es none at stand;
    rest_is = rest_added changes a n Rest rest none at is;
  }
  new_home changes a n (Some l) es rest none stand is some = new_line changes a n l es rest (list_any (is_same l) (seen_lines line_of changes)) none stand is some refl

  pub stands_new : (changes : List Change) (a n : ℕ) (o : Option SourceLine) (old new : ℕ → Option Tally) (es : List LineEntry) (rest total : ℕ) → Stands line_of is_answered changes old es rest total → has_change a changes ≡ false
      → line_of a ≡ o → is_answered a ≡ true → Updated old new a (record { count = n; home = home_for o es })
      → Stands line_of is_answered (changes ++ added a n ∷ []) new (lines_at (plus n) (home_for o es) (lines_for o a es)) (rest_at (plus n) (home_for o es) rest) (total + n)
  stands_new changes a n o old new es rest total stand unknown at answered updated =
      let h = new_home changes a n o es rest stand.none_missing stand.lines stand.rest_is at in
      let nothing = count_of-unknown a changes unknown in
      let more = left_at-added_here (λ x. x == a) changes a n stand.none_missing (eq-eqb a a refl) in
      record {
        none_missing = none_missing_added changes a n stand.none_missing;
        tallies = tallies_stand changes (added a n) old new _ updated stand.tallies (record {
          known = has_change-here changes (added a n);
          count = omega (arith, nothing, more);
          answered = answered;
          home = h.home;
        });
        lines = h.lines;
        rest_is = h.rest_is;
        total_is = ap (plus n) stand.total_is ∙ sym (left_at-added_here (λ _. true) changes a n stand.none_missing refl);
      }

  -- ---- no count passes the total

  some_at : {X : Type 0} (xs : List X) (i : ℕ) → i < length xs → (x : X) × (slice_get xs i ≡ Some x)
  some_at [] i h = absurd (omega arith)
  some_at (x ∷ xs) zero h = (x, refl)
  some_at (x ∷ xs) (suc i) h = some_at xs i (omega arith)

  pub entry-le-total : (changes : List Change) (tally_of : ℕ → Option Tally) (es : List LineEntry) (rest total i : ℕ) (e : LineEntry) → Stands line_of is_answered changes tally_of es rest total
      → slice_get es i ≡ Some e → e.count ≤ total
  entry-le-total changes tally_of es rest total i e stand at =
      let within = slice_get_within es i e at in
      let line = some_at (seen_lines line_of changes) i (omega (arith, stand.lines.count, within)) in
      let counts = (stand.lines.each i e line.0 at line.1).count in
      omega (arith, counts, stand.total_is, left_at-le-total (λ a. is_at line.0 (line_of a)) changes stand.none_missing)

  pub rest-le-total : (changes : List Change) (tally_of : ℕ → Option Tally) (es : List LineEntry) (rest total : ℕ) → Stands line_of is_answered changes tally_of es rest total → rest ≤ total
  unfolding rest_by
  rest-le-total changes tally_of es rest total stand = omega (arith, stand.rest_is, stand.total_is, left_at-le-total (λ a. is_none (line_of a)) changes stand.none_missing)

  pub tally-le-total : (changes : List Change) (tally_of : ℕ → Option Tally) (es : List LineEntry) (rest total a : ℕ) (t : Tally) → Stands line_of is_answered changes tally_of es rest total → tally_of a ≡ Some t → t.count ≤ total
  tally-le-total changes tally_of es rest total a t stand has =
      let at : TallyStands line_of is_answered changes a t = subst (TallyStandsIf line_of is_answered changes a) has (stand.tallies a) in
      omega (arith, at.count, stand.total_is, left_at-le-total (λ x. x == a) changes stand.none_missing)

  pub has_room : (changes : List Change) (tally_of : ℕ → Option Tally) (es : List LineEntry) (rest total n : ℕ) (h : Home) → Stands line_of is_answered changes tally_of es rest total → total + n < 2 ^ 64 → HasRoom h n es rest
  has_room changes tally_of es rest total n Rest stand fits = omega (arith, fits, rest-le-total changes tally_of es rest total stand)
  has_room changes tally_of es rest total n (Line i) stand fits = λ e at. omega (arith, fits, entry-le-total changes tally_of es rest total i e stand at)

  -- ---- nor does one fall below what an address has

  pub has_count : (changes : List Change) (tally_of : ℕ → Option Tally) (es : List LineEntry) (rest total a n : ℕ) (t : Tally) → Stands line_of is_answered changes tally_of es rest total → tally_of a ≡ Some t → n ≤ t.count
      → HasCount t.home n es rest
  unfolding rest_by
  has_count changes tally_of es rest total a n t stand has fits =
      let at : TallyStands line_of is_answered changes a t = subst (TallyStandsIf line_of is_answered changes a) has (stand.tallies a) in
      by t.home at.home (subst (λ m. n ≤ m) at.count fits)
    where
      by : (h : Home) → HomeStands line_of is_answered changes a h → n ≤ count_of a changes → HasCount h n es rest
      by Rest at fits = omega (arith, fits, stand.rest_is, count_of-le-left_at (λ x. is_none (line_of x)) changes a stand.none_missing (rw at refl))
      by (Line i) at fits = λ e there.
          let counts = (stand.lines.each i e at.seen there at.there).count in
          omega (arith, fits, counts, count_of-le-left_at (λ x. is_at at.seen (line_of x)) changes a stand.none_missing (rw at.has at.same))

  -- ---- what is known of an address

  pub tally_known : (changes : List Change) (tally_of : ℕ → Option Tally) (es : List LineEntry) (rest total a : ℕ) (t : Tally) → Stands line_of is_answered changes tally_of es rest total → tally_of a ≡ Some t
      → TallyStands line_of is_answered changes a t
  tally_known changes tally_of es rest total a t stand has = subst (TallyStandsIf line_of is_answered changes a) has (stand.tallies a)

  pub tally_unknown : (changes : List Change) (tally_of : ℕ → Option Tally) (es : List LineEntry) (rest total a : ℕ) → Stands line_of is_answered changes tally_of es rest total → tally_of a ≡ None → has_change a changes ≡ false
  tally_unknown changes tally_of es rest total a stand none = subst (TallyStandsIf line_of is_answered changes a) none (stand.tallies a)

  -- the last entry may be a new one
  room_met : (changes : List Change) (tally_of : ℕ → Option Tally) (es : List LineEntry) (rest total a n i : ℕ) (l : SourceLine) (b : Bool) → Stands line_of is_answered changes tally_of es rest total → total + n < 2 ^ 64
      → (e : LineEntry) → slice_get (if b then es else es ++ record { path = path_of l; line = l.line; addr = a; count = 0 } ∷ []) i ≡ Some e → e.count + n < 2 ^ 64
  room_met changes tally_of es rest total a n i l true stand fits e at = omega (arith, fits, entry-le-total changes tally_of es rest total i e stand at)
  room_met changes tally_of es rest total a n i l false stand fits e at = by (slice_get-push es (record { path = path_of l; line = l.line; addr = a; count = 0 }) i e at)
    where
      by : (slice_get es i ≡ Some e) ⊎ ((i ≡ length es) × (e ≡ record { path = path_of l; line = l.line; addr = a; count = 0 })) → e.count + n < 2 ^ 64
      by (inl old) = omega (arith, fits, entry-le-total changes tally_of es rest total i e stand old)
      by (inr last) = let none : e.count ≡ 0 = ap (λ x. x.count) last.1 in omega (arith, fits, none)

  pub has_room_new : (changes : List Change) (tally_of : ℕ → Option Tally) (es : List LineEntry) (rest total a n : ℕ) (o : Option SourceLine) → Stands line_of is_answered changes tally_of es rest total → total + n < 2 ^ 64
      → HasRoom (home_for o es) n (lines_for o a es) rest
  has_room_new changes tally_of es rest total a n None stand fits = has_room changes tally_of es rest total n Rest stand fits
  has_room_new changes tally_of es rest total a n (Some l) stand fits =
      λ e at. room_met changes tally_of es rest total a n (found_or_last (path_of l) l.line es) l (list_any (is_entry_of (path_of l) l.line) es) stand fits e at

  -- ---- a line of an index

  -- the line at which an address stands is the counted one of the index
  pub record LineThere (changes : List Change) (k a n : ℕ) : Type 0 where
    pub line : SourceLine
    pub has : line_of a ≡ Some line
    pub there : slice_get (covered_by line_of changes) k ≡ Some (record { dir = line.dir; file = line.file; line = line.line; count = n })

  entry_there : (o : Option LineEntry) (p : ℕ × ℕ) → Some p ≡ option_map first_and_count o → (e : LineEntry) × (o ≡ Some e) × (first_and_count e ≡ p)
  entry_there None p is = cc
  entry_there (Some e) p is = (e, refl, cc)

  line_of_entry : (changes : List Change) (tally_of : ℕ → Option Tally) (es : List LineEntry) (rest total k : ℕ) (e : LineEntry) → Stands line_of is_answered changes tally_of es rest total
      → slice_get es k ≡ Some e → LineThere changes k e.addr e.count
  unfolding covered_by
  line_of_entry changes tally_of es rest total k e stand at =
      let within = slice_get_within es k e at in
      let line = some_at (seen_lines line_of changes) k (omega (arith, stand.lines.count, within)) in
      let was = stand.lines.each k e line.0 at line.1 in
      let with_count : ℕ → Option CountedLine = λ n. Some (record { dir = line.0.dir; file = line.0.file; line = line.0.line; count = n }) in
      record {
        line = line.0;
        has = was.first;
        there = slice_get-map (counted line_of changes) (seen_lines line_of changes) k ∙ ap (option_map (counted line_of changes)) line.1 ∙ ap with_count (sym was.count);
      }

  pub line_there : (changes : List Change) (tally_of : ℕ → Option Tally) (es : List LineEntry) (rest total k : ℕ) (p : ℕ × ℕ) → Stands line_of is_answered changes tally_of es rest total
      → Some p ≡ option_map first_and_count (slice_get es k) → LineThere changes k p.0 p.1
  line_there changes tally_of es rest total k p stand is =
      let entry = entry_there (slice_get es k) p is in
      subst (λ (q : ℕ × ℕ). LineThere changes k q.0 q.1) entry.2 (line_of_entry changes tally_of es rest total k entry.0 stand entry.1)

  no_entry : (o : Option LineEntry) → None ≡ option_map first_and_count o → o ≡ None
  no_entry None is = refl
  no_entry (Some e) is = cc

  past_lines : (o : Option SourceLine) (k : ℕ) (seen : List SourceLine) (es : List LineEntry) → length es ≡ length seen → slice_get es k ≡ None → slice_get seen k ≡ o → o ≡ None
  past_lines None k seen es same none at = refl
  past_lines (Some l) k seen es same none at =
      let entry = some_at es k (omega (arith, same, slice_get_within seen k l at)) in
      cc

  pub no_line_there : (changes : List Change) (tally_of : ℕ → Option Tally) (es : List LineEntry) (rest total k : ℕ) → Stands line_of is_answered changes tally_of es rest total
      → None ≡ option_map first_and_count (slice_get es k) → slice_get (covered_by line_of changes) k ≡ None
  unfolding covered_by
  no_line_there changes tally_of es rest total k stand is =
      let past = past_lines (slice_get (seen_lines line_of changes) k) k (seen_lines line_of changes) es stand.lines.count (no_entry (slice_get es k) is) refl in
      rw (slice_get-map, past) refl
