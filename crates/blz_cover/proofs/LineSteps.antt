-- What one more change does to the lines that are kept.
use Rattle.std.proofs.Common.{◌≡◌, ◌≢◌, ℕ, ◌+◌, zero, suc, Bool, true, false, List, [], ◌∷◌, ◌++◌, length, slice_get, refl, ap, sym, ◌∙◌, Option, Some, None, ◌⊎◌, inl, inr, if◌then◌else◌, arith, length-append}
use Rattle.std.proofs.lemmas.Bool.{cases_eq}
use Rattle.std.proofs.lemmas.Option.{slice_get_within}
use Rattle.std.specs.List.{list_any}
use Rattle.blz_cover.specs.Changes.{added}
use Rattle.blz_cover.specs.Coverage.{with_line, seen_with, seen_lines, count_at}
use Rattle.blz_cover.specs.Kept.{NoneMissing, EntryStands, LinesStand, StandsAt}
use Rattle.blz_cover.specs.LineEntries.{LineEntry, is_entry_of, found_or_last, met, recount}
use Rattle.blz_cover.specs.SourceLines.{SourceLine, path_of, is_same, is_at}
use Rattle.blz_cover.specs.declared.change.Way.{Way}
use Rattle.blz_cover.specs.declared.change.Way.TheVariants.{Added, Taken}
use Rattle.blz_cover.specs.declared.change.Change.{Change}
use Rattle.blz_cover.proofs.Entries.{length-recount}
use Rattle.blz_cover.proofs.Lists.{slice_get-append, slice_get-push, slice_get-first, position_or_len-none, fails_at, list_any-alike, position_or_len-alike, apart_at}
use Rattle.blz_cover.proofs.Seen.{is_same_equiv, seen_lines-push, seen_lines-new, seen_lines-IsDistinct, unseen_adds_nothing}
use Rattle.blz_cover.proofs.Sums.{left_at-other, left_at-added_here, left_at-nothing}

-- an entry of a recounted list is an old one, counted where it stands at the index
pub record WasEntry (f : ℕ → ℕ) (es : List LineEntry) (i k : ℕ) (e : LineEntry) : Type 0 where
  pub old : LineEntry
  pub there : slice_get es k ≡ Some old
  pub here : k ≡ i → e ≡ record old { count = f old.count }
  pub elsewhere : k ≢ i → e ≡ old

was_entry : (f : ℕ → ℕ) (es : List LineEntry) (i k : ℕ) (e : LineEntry) → slice_get (recount f es i) k ≡ Some e → WasEntry f es i k e
was_entry f [] i k e at = cc
was_entry f (x ∷ es) zero zero e at = record { old = x; there = refl; here = λ _. cc; elsewhere = λ apart. absurd (apart refl) }
was_entry f (x ∷ es) zero (suc k) e at = record { old = e; there = at; here = λ h. absurd (omega (arith, h)); elsewhere = λ _. refl }
was_entry f (x ∷ es) (suc i) zero e at = record { old = x; there = refl; here = λ h. absurd (omega (arith, h)); elsewhere = λ _. cc }
was_entry f (x ∷ es) (suc i) (suc k) e at =
    let w = was_entry f es i k e at in
    record { old = w.old; there = w.there; here = λ h. w.here (omega (arith, h)); elsewhere = λ apart. w.elsewhere (λ h. apart (ap suc h)) }

module _ (line_of : ℕ → Option SourceLine) (is_answered : ℕ → Bool) where
  -- ---- a line that was seen stays where it is

  kept_with : (seen : List SourceLine) (l : SourceLine) (b : Bool) (i : ℕ) (m : SourceLine) → slice_get seen i ≡ Some m → slice_get (if b then seen else seen ++ l ∷ []) i ≡ Some m
  kept_with seen l true i m at = at
  kept_with seen l false i m at = slice_get-append seen (l ∷ []) i m at

  kept_line : (seen : List SourceLine) (o : Option SourceLine) (i : ℕ) (m : SourceLine) → slice_get seen i ≡ Some m → slice_get (with_line seen o) i ≡ Some m
  kept_line seen None i m at = at
  kept_line seen (Some l) i m at = kept_with seen l (list_any (is_same l) seen) i m at

  kept_step : (seen : List SourceLine) (c : Change) (w : Way) → c.way ≡ w → (i : ℕ) (m : SourceLine) → slice_get seen i ≡ Some m → slice_get (seen_with line_of seen c) i ≡ Some m
  kept_step seen c Added is i m at = rw is (kept_line seen (line_of c.addr) i m at)
  kept_step seen c Taken is i m at = rw is at

  pub seen_lines-keeps : (changes : List Change) (c : Change) (i : ℕ) (m : SourceLine) → slice_get (seen_lines line_of changes) i ≡ Some m
      → slice_get (seen_lines line_of (changes ++ c ∷ [])) i ≡ Some m
  seen_lines-keeps changes c i m at = ap (λ seen. slice_get seen i) (seen_lines-push line_of changes c) ∙ kept_step (seen_lines line_of changes) c c.way refl i m at

  -- ---- a change at no line

  -- the entries stand where no count changes and no line is new
  pub lines_stand_on : (changes : List Change) (c : Change) (es : List LineEntry) → seen_lines line_of (changes ++ c ∷ []) ≡ seen_lines line_of changes
      → line_of c.addr ≡ None → LinesStand line_of is_answered changes es → LinesStand line_of is_answered (changes ++ c ∷ []) es
  lines_stand_on changes c es seen none stand = record {
    count = stand.count ∙ sym (ap length seen);
    each = λ k e l at_e at_l.
        let was = stand.each k e l at_e (rw seen at at_l) in
        record { path = was.path; line = was.line; first = was.first; count = was.count ∙ sym (left_at-other (λ a. is_at l (line_of a)) changes c (rw none refl)) };
  }

  -- ---- a change at a line that was seen

  pub lines_stand_counted : (changes : List Change) (c : Change) (es : List LineEntry) (i : ℕ) (f : ℕ → ℕ) → seen_lines line_of (changes ++ c ∷ []) ≡ seen_lines line_of changes
      → ((l : SourceLine) → is_at l (line_of c.addr) ≡ true → count_at line_of (changes ++ c ∷ []) l ≡ f (count_at line_of changes l))
      → StandsAt line_of is_answered changes c.addr i → LinesStand line_of is_answered changes es → LinesStand line_of is_answered (changes ++ c ∷ []) (recount f es i)
  lines_stand_counted changes c es i f seen counts home stand = record {
    count = length-recount f es i ∙ stand.count ∙ sym (ap length seen);
    each = λ k e l at_e at_l. step k e l (was_entry f es i k e at_e) (rw seen at at_l) (cases_eq k i);
  }
    where
      here : (k : ℕ) (l : SourceLine) → slice_get (seen_lines line_of changes) k ≡ Some l → k ≡ i → is_at l (line_of c.addr) ≡ true
      here k l at same =
          let there = home.there in
          let is : Some l ≡ Some home.seen = sym at ∙ ap (slice_get (seen_lines line_of changes)) same ∙ there in
          let is_it : l ≡ home.seen = cc in
          rw (home.has, is_it) home.same

      elsewhere : (k : ℕ) (l : SourceLine) → slice_get (seen_lines line_of changes) k ≡ Some l → k ≢ i → is_at l (line_of c.addr) ≡ false
      elsewhere k l at apart =
          let far = apart_at is_same (seen_lines line_of changes) k i l home.seen (seen_lines-IsDistinct line_of changes) is_same_equiv.symm at home.there apart in
          let along = is_same_equiv.congr home.seen home.line l home.same in
          rw home.has (is_same_equiv.symm l home.line ∙ sym along ∙ is_same_equiv.symm home.seen l ∙ far)

      step : (k : ℕ) (e : LineEntry) (l : SourceLine) → WasEntry f es i k e → slice_get (seen_lines line_of changes) k ≡ Some l → (k ≡ i) ⊎ (k ≡ i → ⊥)
          → EntryStands line_of is_answered (changes ++ c ∷ []) e l
      step k e l w at (inl same) =
          let was = stand.each k w.old l w.there at in
          rw (w.here same) (record { path = was.path; line = was.line; first = was.first; count = ap f was.count ∙ sym (counts l (here k l at same)) })
      step k e l w at (inr apart) =
          let was = stand.each k w.old l w.there at in
          rw (w.elsewhere apart) (record { path = was.path; line = was.line; first = was.first; count = was.count ∙ sym (left_at-other (λ a. is_at l (line_of a)) changes c (elsewhere k l at apart)) })

  -- ---- a count at a new line

  pub lines_stand_new : (changes : List Change) (a n : ℕ) (l : SourceLine) (es : List LineEntry) → NoneMissing changes → line_of a ≡ Some l → list_any (is_same l) (seen_lines line_of changes) ≡ false
      → LinesStand line_of is_answered changes es → LinesStand line_of is_answered (changes ++ added a n ∷ []) (es ++ record { path = path_of l; line = l.line; addr = a; count = n } ∷ [])
  lines_stand_new changes a n l es none some new stand = record {
    count = length-append es _ ∙ ap (λ m. m + 1) stand.count ∙ sym (ap length seen ∙ length-append (seen_lines line_of changes) (l ∷ []));
    each = λ k e m at_e at_m. step k e m (slice_get-push es _ k e at_e) (slice_get-push (seen_lines line_of changes) l k m (rw seen at at_m));
  }
    where
      seen : seen_lines line_of (changes ++ added a n ∷ []) ≡ seen_lines line_of changes ++ l ∷ []
      seen = seen_lines-new line_of changes a n l some new

      far : (k : ℕ) (m : SourceLine) → slice_get (seen_lines line_of changes) k ≡ Some m → is_at m (line_of a) ≡ false
      far k m at = rw some (is_same_equiv.symm m l ∙ fails_at (is_same l) (seen_lines line_of changes) k m new at)

      first_count : n ≡ count_at line_of (changes ++ added a n ∷ []) l
      first_count =
          let test = λ (x : ℕ). is_at l (line_of x) in
          let more = left_at-added_here test changes a n none (rw some (is_same_equiv.refl l)) in
          let nothing = left_at-nothing test changes (unseen_adds_nothing line_of l changes new) in
          omega (arith, more, nothing)

      step : (k : ℕ) (e : LineEntry) (m : SourceLine) → (slice_get es k ≡ Some e) ⊎ ((k ≡ length es) × (e ≡ record { path = path_of l; line = l.line; addr = a; count = n }))
          → (slice_get (seen_lines line_of changes) k ≡ Some m) ⊎ ((k ≡ length (seen_lines line_of changes)) × (m ≡ l)) → EntryStands line_of is_answered (changes ++ added a n ∷ []) e m
      step k e m (inl at_e) (inl at_m) =
          let was = stand.each k e m at_e at_m in
          record { path = was.path; line = was.line; first = was.first; count = was.count ∙ sym (left_at-other (λ x. is_at m (line_of x)) changes (added a n) (far k m at_m)) }
      step k e m (inl at_e) (inr last) = absurd (omega (arith, slice_get_within es k e at_e, stand.count, last.0))
      step k e m (inr last) (inl at_m) = absurd (omega (arith, slice_get_within (seen_lines line_of changes) k m at_m, stand.count, last.0))
      step k e m (inr at_e) (inr at_m) = rw (at_e.1, at_m.1) (record { path = refl; line = refl; first = some; count = first_count })

  -- ---- where a line is found

  tells_same : (changes : List Change) (l : SourceLine) (es : List LineEntry) → LinesStand line_of is_answered changes es
      → (k : ℕ) (e : LineEntry) (m : SourceLine) → slice_get es k ≡ Some e → slice_get (seen_lines line_of changes) k ≡ Some m → is_entry_of (path_of l) l.line e ≡ is_same l m
  unfolding is_same
  tells_same changes l es stand k e m at_e at_m = let was = stand.each k e m at_e at_m in rw (was.path, was.line) refl

  -- the index of a line that was seen, at which its address then stands
  pub found_seen : (changes : List Change) (a : ℕ) (l : SourceLine) (es : List LineEntry) → LinesStand line_of is_answered changes es → line_of a ≡ Some l
      → list_any (is_same l) (seen_lines line_of changes) ≡ true → StandsAt line_of is_answered changes a (found_or_last (path_of l) l.line es)
  found_seen changes a l es stand some any =
      let first = slice_get-first (is_same l) (seen_lines line_of changes) any in
      let index = position_or_len-alike (is_entry_of (path_of l) l.line) (is_same l) es (seen_lines line_of changes) stand.count (tells_same changes l es stand) in
      rw index (record { line = l; seen = first.0; has = some; there = first.1; same = is_same_equiv.symm first.0 l ∙ first.2 })

  pub met_seen : (changes : List Change) (a : ℕ) (l : SourceLine) (es : List LineEntry) → LinesStand line_of is_answered changes es
      → list_any (is_same l) (seen_lines line_of changes) ≡ true → met (path_of l) l.line a es ≡ es
  met_seen changes a l es stand any = rw (list_any-alike (is_entry_of (path_of l) l.line) (is_same l) es (seen_lines line_of changes) stand.count (tells_same changes l es stand), any) refl

  -- a line that was not seen is put last
  pub found_new : (changes : List Change) (l : SourceLine) (es : List LineEntry) → LinesStand line_of is_answered changes es
      → list_any (is_same l) (seen_lines line_of changes) ≡ false → found_or_last (path_of l) l.line es ≡ length es
  found_new changes l es stand none =
      position_or_len-none (is_entry_of (path_of l) l.line) es (list_any-alike (is_entry_of (path_of l) l.line) (is_same l) es (seen_lines line_of changes) stand.count (tells_same changes l es stand) ∙ none)

  pub met_new : (changes : List Change) (a : ℕ) (l : SourceLine) (es : List LineEntry) → LinesStand line_of is_answered changes es
      → list_any (is_same l) (seen_lines line_of changes) ≡ false → met (path_of l) l.line a es ≡ es ++ record { path = path_of l; line = l.line; addr = a; count = 0 } ∷ []
  met_new changes a l es stand none = rw (list_any-alike (is_entry_of (path_of l) l.line) (is_same l) es (seen_lines line_of changes) stand.count (tells_same changes l es stand), none) refl

-- the last entry, counted
pub recount-last : (f : ℕ → ℕ) (es : List LineEntry) (e : LineEntry) → recount f (es ++ e ∷ []) (length es) ≡ es ++ record e { count = f e.count } ∷ []
recount-last f [] e = refl
recount-last f (x ∷ es) e = ap (λ xs. x ∷ xs) (recount-last f es e)
