-- The functions of units, shown one unit after another.
use Rattle.std.proofs.Common.{◌≡◌, ℕ, zero, suc, ◌+◌, ◌<◌, ◌≤◌, Bool, false, List, [], ◌++◌, length, Option, Some, None, sym, ap, ◌∙◌, subst, append_assoc, length-append, arith}
use Rattle.std.proofs.lemmas.List.{append-nil}
use Rattle.blz_error.specs.declared.kind.ErrorKind.{ErrorKind}
use Rattle.blz_info.specs.declared.text.Texts.{Texts}
use Rattle.blz_elf.specs.Infos.{Info}
use Rattle.blz_elf.specs.Listings.{Listing, then_also, Told, Shown, IsShown, Breaks, IsRefused}
use Rattle.blz_elf.proofs.ListingLemmas.{shown_more, break_first, refuse_first}
use Rattle.blz_elf.proofs.ListingSteps.{behind, SoFar, none_yet}
use Rattle.blz_units.specs.BuiltUnits.{files_view}
use Rattle.blz_units.specs.UnitTables.{UnitTable}
use Rattle.blz_index.specs.UnitsWarm.{units_table}
use Rattle.blz_index.specs.declared.units.Units.{Units}
use Rattle.blz_resolver.specs.Books.{Book}
use Rattle.blz_bundle.specs.BundleViews.{bundle_view}
use Rattle.blz_resolver.specs.FunctionNames.{unit_listing, units_listing, functions_listing}
use Rattle.blz_resolver.specs.Reading.{book_of}
use Rattle.blz_resolver.specs.declared.answers.book_reader.BookReader.{BookReader}

-- ---- what was shown before, and what is shown now

whole_of : (done shown : List Info) (r : Listing) → behind (done ++ shown) r ≡ behind done (record { shown = shown ++ r.shown; mark = r.mark })
whole_of done shown r = ap (λ (zs : List Info). record { shown = zs; mark = r.mark }) (append_assoc done shown r.shown)

front_of : (total l : Listing) (done front rest : List Info) → behind done l ≡ total → front ++ rest ≡ l.shown → (done ++ front) ++ rest ≡ total.shown
front_of total l done front rest whole split = append_assoc done front rest ∙ ap (λ (zs : List Info). done ++ zs) split ∙ ap (λ (x : Listing). x.shown) whole

-- the whole of one listing was shown, and the other is left
first_shown : (total : Listing) (shown : List Info) (mark : Option ErrorKind) (r : Listing) (old now next : Told) → mark ≡ None → Shown now next shown → SoFar total (then_also shown mark r) old now → SoFar total r old next
first_shown total shown None r old now next e one h = record {
  done = h.done ++ shown;
  whole = whole_of h.done shown r ∙ h.whole;
  shown = shown_more old now next h.done shown h.shown one;
}
first_shown total shown (Some k) r old now next e one h = absurd cc

rest_breaks : (total l : Listing) (old now next : Told) (stopped : Bool) → SoFar total l old now → Breaks l now next stopped → Breaks total old next stopped
rest_breaks total l old now next stopped h b = record {
  stops = b.stops;
  front = h.done ++ b.front;
  rest = b.rest;
  some = omega (arith, b.some, length-append h.done b.front);
  split = front_of total l h.done b.front b.rest h.whole b.split;
  shown = shown_more old now next h.done b.front h.shown b.shown;
}

rest_refused : (total l : Listing) (old now next : Told) (stopped : Bool) (kind : ErrorKind) → SoFar total l old now → IsRefused l now next stopped kind → IsRefused total old next stopped kind
rest_refused total l old now next stopped kind h b =
    let list : h.done ++ l.shown ≡ total.shown = ap (λ (x : Listing). x.shown) h.whole in
    let P : List Info → Type 0 = λ zs. Shown old next zs in
    record {
      goes_on = b.goes_on;
      mark = λ ne. ap (λ (x : Listing). x.mark) (sym h.whole) ∙ b.mark ne;
      whole = λ ne. subst P list (shown_more old now next h.done l.shown h.shown (b.whole ne));
      front = h.done ++ b.front;
      rest = b.rest;
      split = front_of total l h.done b.front b.rest h.whole b.split;
      shown = shown_more old now next h.done b.front h.shown b.shown;
    }

nothing_left : (total : Listing) (old now : Told) (stopped : Bool) → stopped ≡ false → SoFar total (record { shown = []; mark = None }) old now → IsShown total old now stopped
nothing_left total old now stopped e h =
    let list : h.done ++ [] ≡ total.shown = ap (λ (x : Listing). x.shown) h.whole in
    let P : List Info → Type 0 = λ zs. Shown old now zs in
    record { goes_on = e; whole = ap (λ (x : Listing). x.mark) (sym h.whole); shown = subst P (sym (append-nil h.done) ∙ list) h.shown }

-- ---- the units

-- the units before a number were shown; some more are left
pub record UnitsSoFar (t : Texts) (b : Book) (asked : Bool) (k : ℕ) (old now : Told) : Type 0 where
  pub left : ℕ
  pub ends : k + left ≡ length b.table.kept
  pub so_far : SoFar (functions_listing t b asked) (units_listing t b asked k left) old now

module _ (t : Texts) (b : Book) (asked : Bool) where
  pub no_unit_yet : (old : Told) → UnitsSoFar t b asked 0 old old
  no_unit_yet old = record { left = length b.table.kept; ends = omega arith; so_far = none_yet (functions_listing t b asked) old }

  module _ (k : ℕ) (old now next : Told) (stopped : Bool) where
    on_shown : (left : ℕ) → k + left ≡ length b.table.kept → k < length b.table.kept → SoFar (functions_listing t b asked) (units_listing t b asked k left) old now → IsShown (unit_listing t b asked k) now next stopped → UnitsSoFar t b asked (k + 1) old next
    unfolding units_listing
    on_shown zero ends lt h one = absurd (omega (arith, ends, lt))
    on_shown (suc m) ends lt h one =
        let l = unit_listing t b asked k in
        record { left = m; ends = omega (arith, ends); so_far = first_shown _ l.shown l.mark (units_listing t b asked (k + 1) m) old now next one.whole one.shown h }

    on_breaks : (left : ℕ) → k + left ≡ length b.table.kept → k < length b.table.kept → SoFar (functions_listing t b asked) (units_listing t b asked k left) old now → Breaks (unit_listing t b asked k) now next stopped → Breaks (functions_listing t b asked) old next stopped
    unfolding units_listing
    on_breaks zero ends lt h one = absurd (omega (arith, ends, lt))
    on_breaks (suc m) ends lt h one =
        let l = unit_listing t b asked k in
        rest_breaks _ _ old now next stopped h (break_first l.shown l.mark (units_listing t b asked (k + 1) m) now next stopped one)

    on_refused : (kind : ErrorKind) (left : ℕ) → k + left ≡ length b.table.kept → k < length b.table.kept → SoFar (functions_listing t b asked) (units_listing t b asked k left) old now → IsRefused (unit_listing t b asked k) now next stopped kind → IsRefused (functions_listing t b asked) old next stopped kind
    unfolding units_listing
    on_refused kind zero ends lt h one = absurd (omega (arith, ends, lt))
    on_refused kind (suc m) ends lt h one =
        let l = unit_listing t b asked k in
        rest_refused _ _ old now next stopped kind h (refuse_first l.shown l.mark (units_listing t b asked (k + 1) m) now next stopped kind one)

    at_end : (left : ℕ) → k + left ≡ length b.table.kept → length b.table.kept ≤ k → stopped ≡ false → SoFar (functions_listing t b asked) (units_listing t b asked k left) old now → IsShown (functions_listing t b asked) old now stopped
    unfolding units_listing
    at_end zero ends past e h = nothing_left _ old now stopped e h
    at_end (suc m) ends past e h = absurd (omega (arith, ends, past))

-- the listing of a unit by the units as they are now
pub unit_again : (r : BookReader) (first now : Units) (asked : Bool) (k : ℕ) → units_table now ≡ units_table first → unit_listing r.dwarf.texts (book_of r now) asked k ≡ unit_listing r.dwarf.texts (book_of r first) asked k
unit_again r first now asked k same = ap (λ (table : UnitTable). unit_listing r.dwarf.texts (record { images = bundle_view r.bundle; files = files_view r.dwarf; table = table }) asked k) same

module _ (r : BookReader) (first u : Units) (asked : Bool) (k : ℕ) (old now next : Told) (stopped : Bool) (same : units_table u ≡ units_table first) (lt : k < length (units_table first).kept)
    (h : UnitsSoFar r.dwarf.texts (book_of r first) asked k old now) where
  pub unit_shown : IsShown (unit_listing r.dwarf.texts (book_of r u) asked k) now next stopped → UnitsSoFar r.dwarf.texts (book_of r first) asked (k + 1) old next
  unit_shown one =
      let P : Listing → Type 0 = λ l. IsShown l now next stopped in
      on_shown r.dwarf.texts (book_of r first) asked k old now next stopped h.left h.ends lt h.so_far (subst P (unit_again r first u asked k same) one)

  pub unit_breaks : Breaks (unit_listing r.dwarf.texts (book_of r u) asked k) now next stopped → Breaks (functions_listing r.dwarf.texts (book_of r first) asked) old next stopped
  unit_breaks one =
      let P : Listing → Type 0 = λ l. Breaks l now next stopped in
      on_breaks r.dwarf.texts (book_of r first) asked k old now next stopped h.left h.ends lt h.so_far (subst P (unit_again r first u asked k same) one)

  pub unit_refused : (kind : ErrorKind) → IsRefused (unit_listing r.dwarf.texts (book_of r u) asked k) now next stopped kind → IsRefused (functions_listing r.dwarf.texts (book_of r first) asked) old next stopped kind
  unit_refused kind one =
      let P : Listing → Type 0 = λ l. IsRefused l now next stopped kind in
      on_refused r.dwarf.texts (book_of r first) asked k old now next stopped kind h.left h.ends lt h.so_far (subst P (unit_again r first u asked k same) one)

pub units_shown : (r : BookReader) (first : Units) (asked : Bool) (k : ℕ) (old now : Told) (stopped : Bool) → length (units_table first).kept ≤ k → stopped ≡ false → UnitsSoFar r.dwarf.texts (book_of r first) asked k old now → IsShown (functions_listing r.dwarf.texts (book_of r first) asked) old now stopped
units_shown r first asked k old now stopped past e h = at_end r.dwarf.texts (book_of r first) asked k old now now stopped h.left h.ends past e h.so_far
