-- The relocations of one section, whose tables are read from the last to the first, are those that it has among all.
use Rattle.std.proofs.Common.{◌≡◌, ℕ, zero, suc, ◌==◌, ◌+◌, ◌<◌, ◌≤◌, Bool, true, false, cond, List, [], ◌∷◌, length, get_or, drop, take, Option, Some, None, refl, sym, ap, ◌∙◌, arith}
use Rattle.std.specs.Cmp.{nat_cmp_total}
use Rattle.std.specs.FinMap.{empty, get, get-empty, insert, same_map, nat_cmp-IsAntisymmetric}
use Rattle.std.specs.List.{fold, slice_get}
use Rattle.std.specs.Option.{unwrap_or}
use Rattle.std.specs.Ordering.{nat_cmp}
use Rattle.std.proofs.lemmas.List.{at_drop_more, at_drop_all}
use Rattle.blz_error.specs.declared.kind.ErrorKind.{ErrorKind}
use Rattle.blz_error.specs.declared.kind.ErrorKind.TheVariants.{InvalidInput}
use Rattle.blz_model.specs.Part.{Part, Good, Broken, ◌>>=◌, or_mark}
use Rattle.blz_model.proofs.PartLemmas.{bind_good}
use Rattle.blz_image.specs.Formats.{symbol_size}
use Rattle.blz_image.specs.RelocationTables.{Entry, entry_at, entry_kind, entry_size, mark_in, maps_in, put_entry, with_entries, with_section, with_sections}
use Rattle.blz_image.specs.Sections.{records_of}
use Rattle.blz_image.specs.SymbolTables.{symbol_at}
use Rattle.blz_image.specs.TargetTables.{Table, beneath, beneath_part, beneath_section, beneath_sections, section_mark, section_marks, table_part}
use Rattle.blz_image.specs.declared.relocations.entries.EntryKind.{EntryKind}
use Rattle.blz_image.specs.declared.format.Format.{Format}
use Rattle.blz_image.specs.declared.section.Section.{Section}
use Rattle.blz_image.specs.declared.symbols.Symbol.{Symbol}
use Rattle.blz_relocations.specs.Relocations.{OffsetMap, SectionMap, maps_of, section_map, with_map}
use Rattle.blz_image.proofs.Folds.{fold_more}
use Rattle.blz_image.proofs.BeneathMaps.{alone, get-beneath, get-fold, put_at, section_map-fold}
use Rattle.blz_image.proofs.MapLooks.{first, first-none, first-first}

-- ---- parts

good_same : {A : Type 0} (x y : A) → Good x ≡ Good y → x ≡ y
good_same x y e = cc

bind_bind : {A B C : Type 0} (p : Part A) (g : A → Part B) (h : B → Part C) → ((p >>= g) >>= h) ≡ (p >>= λ x. g x >>= h)
bind_bind (Good x) g h = refl
bind_bind (Broken k) g h = refl

abbrev make_table : List Symbol → List Entry → Table
make_table ss es = record { symbols = ss; entries = es }

regroup : {A : Type 0} (p : Part A) (g : A → Part (List Symbol)) (read : Part (List Entry)) (put : List Symbol → List Entry → SectionMap)
    → (p >>= λ a. g a >>= λ ss. read >>= λ es. Good (put ss es)) ≡ ((p >>= λ a. g a >>= λ ss. read >>= λ es. Good (make_table ss es)) >>= λ t. Good (put t.symbols t.entries))
regroup (Broken k) g read put = refl
regroup (Good a) g read put = by (g a) read
  where
    by : (q : Part (List Symbol)) (r : Part (List Entry)) → (q >>= λ ss. r >>= λ es. Good (put ss es)) ≡ ((q >>= λ ss. r >>= λ es. Good (make_table ss es)) >>= λ t. Good (put t.symbols t.entries))
    by (Broken k) r = refl
    by (Good ss) (Broken k) = refl
    by (Good ss) (Good es) = refl

-- a section's entries, by its table
pub with_entries-table : (f : Format) (bytes : List ℕ) (sections : List Section) (s : Section) (kind : EntryKind) (m : SectionMap) → with_entries f bytes sections s kind m ≡ (table_part f bytes sections s kind >>= λ t. Good (fold (put_entry t.symbols s.info) m t.entries))
unfolding with_entries table_part
with_entries-table f bytes sections s kind m = regroup (or_mark (slice_get sections s.link) InvalidInput) (λ table. records_of (symbol_at f) (symbol_size f.class) bytes table) (records_of (entry_at kind f) (entry_size kind f.class) bytes s) (λ ss es. fold (put_entry ss s.info) m es)

-- ---- the marks

mark_through : (f : Format) (bytes : List ℕ) (sections : List Section) (s : Section) (m : SectionMap) (then : SectionMap → Part (Unit {0})) (all : Part (Unit {0})) → ((n : SectionMap) → then n ≡ all) → (o : Option EntryKind) → entry_kind s ≡ o → (with_section f bytes sections m s >>= then) ≡ (section_mark f bytes sections s >>= λ u. all)
unfolding with_section section_mark
mark_through f bytes sections s m then all same None e = rw e (same m)
mark_through f bytes sections s m then all same (Some kind) e = rw (e, with_entries-table f bytes sections s kind m) (by (table_part f bytes sections s kind))
  where
    by : (p : Part Table) → ((p >>= λ t. Good (fold (put_entry t.symbols s.info) m t.entries)) >>= then) ≡ ((p >>= λ t. Good (tt {0})) >>= λ u. all)
    by (Good t) = same (fold (put_entry t.symbols s.info) m t.entries)
    by (Broken k) = refl

-- the relocations of all have the marks of the headers
pub mark_in-sections : (f : Format) (bytes : List ℕ) (sections rest : List Section) (m : SectionMap) → mark_in (with_sections f bytes sections rest m) ≡ section_marks f bytes sections rest
unfolding with_sections section_marks
mark_in-sections f bytes sections [] m = refl
mark_in-sections f bytes sections (s ∷ rest) m =
    bind_bind (with_section f bytes sections m s) (with_sections f bytes sections rest) (λ n. Good tt)
    ∙ mark_through f bytes sections s m (λ n. mark_in (with_sections f bytes sections rest n)) (section_marks f bytes sections rest) (mark_in-sections f bytes sections rest) (entry_kind s) refl

pub section_marks-at : (f : Format) (bytes : List ℕ) (sections rest : List Section) (k : ℕ) (d : Section) → section_marks f bytes sections rest ≡ Good tt → k < length rest → section_mark f bytes sections (get_or rest k d) ≡ Good tt
unfolding section_marks
section_marks-at f bytes sections [] k d good lt = absurd (omega arith)
section_marks-at f bytes sections (s ∷ rest) zero d good lt = (bind_good (section_mark f bytes sections s) (λ u. section_marks f bytes sections rest) tt good).1
section_marks-at f bytes sections (s ∷ rest) (suc k) d good lt = section_marks-at f bytes sections rest k d (bind_good (section_mark f bytes sections s) (λ u. section_marks f bytes sections rest) tt good).2 (omega arith)

pub maps_in-broken : (targets : List (Option ℕ)) (p : Part SectionMap) (kind : ErrorKind) → mark_in p ≡ Broken kind → maps_in targets p ≡ Broken kind
maps_in-broken targets (Good m) kind e = absurd cc
maps_in-broken targets (Broken k) kind e = cc

-- the marks of the sections from one on
pub marks_on : (f : Format) (bytes : List ℕ) (sections : List Section) (i : ℕ) (s : Section) (total : Part (Unit {0})) → i < length sections → ((d : Section) → get_or sections i d ≡ s) → section_mark f bytes sections s ≡ Good tt → section_marks f bytes sections (drop i sections) ≡ total → section_marks f bytes sections (drop (i + 1) sections) ≡ total
unfolding section_marks
marks_on f bytes sections i s total lt here e so_far =
    sym (at_drop_more (λ (ys : List Section). section_marks f bytes sections ys) sections i s lt ∙ rw (here s, e) refl) ∙ so_far

pub marks_break : (f : Format) (bytes : List ℕ) (sections : List Section) (i : ℕ) (s : Section) (total : Part (Unit {0})) (kind : ErrorKind) → i < length sections → ((d : Section) → get_or sections i d ≡ s) → section_mark f bytes sections s ≡ Broken kind → section_marks f bytes sections (drop i sections) ≡ total → total ≡ Broken kind
unfolding section_marks
marks_break f bytes sections i s total kind lt here e so_far =
    sym so_far ∙ at_drop_more (λ (ys : List Section). section_marks f bytes sections ys) sections i s lt ∙ rw (here s, e) refl

pub marks_end : (f : Format) (bytes : List ℕ) (sections : List Section) (i : ℕ) (total : Part (Unit {0})) → length sections ≤ i → section_marks f bytes sections (drop i sections) ≡ total → total ≡ Good tt
unfolding section_marks
marks_end f bytes sections i total past so_far =
    sym so_far ∙ at_drop_all (λ (ys : List Section). section_marks f bytes sections ys) sections i past

pub all_read : (f : Format) (bytes : List ℕ) (sections : List Section) → section_marks f bytes sections sections ≡ Good tt → (n : SectionMap) × (with_sections f bytes sections sections empty ≡ Good n)
all_read f bytes sections good =
    let a = bind_good (with_sections f bytes sections sections empty) (λ n. Good tt) tt (mark_in-sections f bytes sections sections empty ∙ good) in
    (a.0, a.1)

-- ---- the map of a section

section_get : (f : Format) (bytes : List ℕ) (sections : List Section) (target : ℕ) (s : Section) (under : OffsetMap) (m n : SectionMap) (q : ℕ) (o : Option EntryKind) → entry_kind s ≡ o → with_section f bytes sections m s ≡ Good n
    → first (get under q) (get (section_map n target) q) ≡ first (get (beneath_section f bytes sections target under s) q) (get (section_map m target) q)
unfolding with_section beneath_section
section_get f bytes sections target s under m n q None e is =
    let same : m ≡ n = good_same m n (rw e at is) in
    rw e (ap (λ (x : SectionMap). first (get under q) (get (section_map x target) q)) (sym same))
section_get f bytes sections target s under m n q (Some kind) e is =
    rw e (by (table_part f bytes sections s kind) (rw (e, with_entries-table f bytes sections s kind m) at is))
  where
    split : (ss : List Symbol) (es : List Entry) (b : Bool) → first (get under q) (get (cond b (fold (put_at ss) (section_map m target) es) (section_map m target)) q) ≡ first (get (cond b (beneath ss es under) under) q) (get (section_map m target) q)
    split ss es true =
        ap (first (get under q)) (get-fold ss es (section_map m target) q)
        ∙ sym (first-first (get under q) (get (alone ss es) q) (get (section_map m target) q))
        ∙ ap (λ o. first o (get (section_map m target) q)) (sym (get-beneath ss es under q))
    split ss es false = refl

    by : (p : Part Table) → (p >>= λ t. Good (fold (put_entry t.symbols s.info) m t.entries)) ≡ Good n → first (get under q) (get (section_map n target) q) ≡ first (get (cond (s.info == target) (beneath_part p under) under) q) (get (section_map m target) q)
    by (Good t) is =
        let same : fold (put_entry t.symbols s.info) m t.entries ≡ n = good_same _ n is in
        ap (λ (x : SectionMap). first (get under q) (get (section_map x target) q)) (sym same)
        ∙ ap (λ (o : OffsetMap). first (get under q) (get o q)) (section_map-fold t.symbols s.info target t.entries m)
        ∙ split t.symbols t.entries (s.info == target)
    by (Broken k) is = absurd cc

sections_get : (f : Format) (bytes : List ℕ) (sections rest : List Section) (target q : ℕ) (m n : SectionMap) → with_sections f bytes sections rest m ≡ Good n → get (section_map n target) q ≡ first (get (beneath_sections f bytes sections target rest) q) (get (section_map m target) q)
unfolding with_sections beneath_sections
sections_get f bytes sections [] target q m n is =
    ap (λ (x : SectionMap). get (section_map x target) q) (sym (good_same m n is)) ∙ ap (λ o. first o (get (section_map m target) q)) (sym (get-empty nat_cmp q))
sections_get f bytes sections (s ∷ rest) target q m n is =
    let a = bind_good (with_section f bytes sections m s) (with_sections f bytes sections rest) n is in
    sections_get f bytes sections rest target q a.0 n a.2
    ∙ section_get f bytes sections target s (beneath_sections f bytes sections target rest) m a.0 q (entry_kind s) refl a.1

none_there : (target : ℕ) → section_map empty target ≡ empty
none_there target = ap (λ (o : Option OffsetMap). unwrap_or o empty) (get-empty nat_cmp target)

pub section_map-sections : (f : Format) (bytes : List ℕ) (sections : List Section) (target : ℕ) (n : SectionMap) → with_sections f bytes sections sections empty ≡ Good n → section_map n target ≡ beneath_sections f bytes sections target sections
section_map-sections f bytes sections target n is = same_map nat_cmp_total nat_cmp-IsAntisymmetric _ _ (λ q.
    sections_get f bytes sections sections target q empty n is
    ∙ ap (λ (m : OffsetMap). first (get (beneath_sections f bytes sections target sections) q) (get m q)) (none_there target)
    ∙ ap (first (get (beneath_sections f bytes sections target sections) q)) (get-empty nat_cmp q)
    ∙ first-none (get (beneath_sections f bytes sections target sections) q))

-- one section more, before those that were read
pub beneath_sections_more : (f : Format) (bytes : List ℕ) (sections : List Section) (target i : ℕ) (s : Section) (old new : OffsetMap) → i < length sections → ((d : Section) → get_or sections i d ≡ s) → old ≡ beneath_sections f bytes sections target (drop (i + 1) sections) → new ≡ beneath_section f bytes sections target old s → new ≡ beneath_sections f bytes sections target (drop i sections)
unfolding beneath_sections
beneath_sections_more f bytes sections target i s old new lt here so_far is =
    let step = at_drop_more (λ (ys : List Section). beneath_sections f bytes sections target ys) sections i s lt in
    is ∙ ap (λ (o : OffsetMap). beneath_section f bytes sections target o s) so_far
    ∙ ap (λ (x : Section). beneath_section f bytes sections target (beneath_sections f bytes sections target (drop (i + 1) sections)) x) (sym (here s))
    ∙ sym step

pub beneath_sections-none : (f : Format) (bytes : List ℕ) (sections : List Section) (target i : ℕ) → length sections ≤ i → empty ≡ beneath_sections f bytes sections target (drop i sections)
unfolding beneath_sections
beneath_sections-none f bytes sections target i past = sym (at_drop_all (λ (ys : List Section). beneath_sections f bytes sections target ys) sections i past)

-- the map of one section more
pub maps_of-more : (f : Format) (bytes : List ℕ) (sections : List Section) (targets : List (Option ℕ)) (i target : ℕ) (all old new : SectionMap) (m : OffsetMap) → i < length targets → ((d : Option ℕ) → get_or targets i d ≡ Some target) → with_sections f bytes sections sections empty ≡ Good all
    → m ≡ beneath_sections f bytes sections target sections → old ≡ maps_of (take i targets) all → new ≡ insert old target m → new ≡ maps_of (take (i + 1) targets) all
maps_of-more f bytes sections targets i target all old new m lt here is read so_far put =
    fold_more (with_map all) empty targets i (Some target) old new lt here so_far (put ∙ ap (insert old target) (read ∙ sym (section_map-sections f bytes sections target all is)))
