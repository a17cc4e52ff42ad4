-- Runs of entries that were read.
use Rattle.std.proofs.Common.{◌≡◌, ℕ, ◌+◌, ◌-◌, ◌*◌, ◌<◌, ◌≤◌, Bool, true, false, cond, List, length, get_or, drop, Some, Result, Ok, Err, OnOk, refl, sym, ap, ◌∙◌, arith, eqb-true}
use Rattle.std.specs.BTreeMap.{BTreeMap, get, is_at}
use Rattle.std.specs.Cmp.{unsigned_tied}
use Rattle.std.specs.FinMap.{contains_key}
use Rattle.std.specs.Ordering.{nat_cmp}
use Rattle.std.proofs.lemmas.List.FromFn.{length-map-range_with_len, get_or-map-range_with_len}
use Rattle.blz_image.specs.EntryPlaces.{entries_in}
use Rattle.blz_image.specs.Formats.{word_at}
use Rattle.blz_image.specs.Places.{symbols_in}
use Rattle.blz_image.specs.ReadPlaces.{AllRead, AreRead, is_known}
use Rattle.blz_image.specs.RelocationTables.{Entry, entry_at, entry_size}
use Rattle.blz_image.specs.TargetTables.{beneath}
use Rattle.blz_image.specs.declared.relocations.entries.EntryKind.{EntryKind}
use Rattle.blz_image.specs.declared.relocations.entries.EntryKind.TheVariants.{Rela, Rel}
use Rattle.blz_image.specs.declared.format.Format.{Format}
use Rattle.blz_image.specs.declared.relocations.read_places.ReadPlaces.{ReadPlaces}
use Rattle.blz_image.specs.declared.span.Rows.{Rows}
use Rattle.blz_image.specs.declared.symbols.Symbol.{Symbol}
use Rattle.blz_image.specs.declared.relocations.table.RelocationTable.{RelocationTable}
use Rattle.blz_relocations.specs.Relocations.{OffsetMap}
use Rattle.blz_image.proofs.BeneathMaps.{beneath-known, entry-beneath, known-beneath}

some_is : (x y : ℕ) → Some x ≡ Some y → x ≡ y
some_is x y e = cc

parted : (size k i last : ℕ) → k + i ≡ last → size * k + size * i ≡ size * last
parted size k i last e = omega (arith, ap (λ (n : ℕ). size * n) e)

-- one run more, all of whose entries were read
pub run_noted : (size at count last place : ℕ) (is_read : ℕ → Bool) (old new : BTreeMap ℕ ℕ) → place ≡ at + size * last → last < count
    → ((q : ℕ) → get nat_cmp new q ≡ cond (is_at (nat_cmp place) q) (Some last) (get nat_cmp old q))
    → ((k : ℕ) → k < count → is_read (at + size * k) ≡ true) → AllRead size is_read old → AllRead size is_read new
run_noted size at count last place is_read old new placed lt updates each was p n i q here le sum = by (is_at (nat_cmp place) p) refl
  where
    by : (b : Bool) → is_at (nat_cmp place) p ≡ b → is_read q ≡ true
    by false e = was p n i q (sym (updates p ∙ rw e refl) ∙ here) le sum
    by true e =
        let same : place ≡ p = eqb-true place p (sym (unsigned_tied place p) ∙ e) in
        let counted : last ≡ n = some_is last n (sym (updates p ∙ rw e refl) ∙ here) in
        let back : last - i + i ≡ last = omega (arith, counted, le) in
        let whole = parted size (last - i) i last back in
        let q-is : q ≡ at + size * (last - i) = omega (arith, whole, sum, same, placed) in
        ap is_read q-is ∙ each (last - i) (omega (arith, lt))

pub entries_count : (kind : EntryKind) (bytes : List ℕ) (rows : Rows) → length (entries_in kind bytes rows) ≡ rows.count
entries_count kind bytes rows = length-map-range_with_len (λ (i : ℕ). entry_at kind rows.format bytes (rows.at + entry_size kind rows.format.class * i)) 0 rows.count

pub offset_is : (kind : EntryKind) (bytes : List ℕ) (rows : Rows) (k : ℕ) (d : Entry) → k < rows.count → (get_or (entries_in kind bytes rows) k d).offset ≡ word_at rows.format bytes (rows.at + entry_size kind rows.format.class * k)
offset_is kind bytes rows k d lt = ap (λ (e : Entry). e.offset) (get_or-map-range_with_len (λ (i : ℕ). entry_at kind rows.format bytes (rows.at + entry_size kind rows.format.class * i)) 0 rows.count k k d lt (omega arith))

-- entries of a run are known
pub run_known : (kind : EntryKind) (bytes : List ℕ) (rows : Rows) (m : OffsetMap) (runs : BTreeMap ℕ ℕ) (last before k : ℕ) (d : Entry) → AllRead (entry_size kind rows.format.class) (is_known rows.format bytes m) runs
    → get nat_cmp runs (rows.at + entry_size kind rows.format.class * last) ≡ Some before → last < rows.count → last - before ≤ k → k < last + 1 → contains_key m (get_or (entries_in kind bytes rows) k d).offset ≡ true
run_known kind bytes rows m runs last before k d all here lt low high =
    let size = entry_size kind rows.format.class in
    let whole = parted size k (last - k) last (omega (arith, high)) in
    ap (contains_key m) (offset_is kind bytes rows k d (omega (arith, high, lt)))
    ∙ all (rows.at + size * last) before (last - k) (rows.at + size * k) here (omega (arith, low, high)) (omega (arith, whole))

-- so they are passed over
pub run_passed : (symbols : List Symbol) (kind : EntryKind) (bytes : List ℕ) (rows : Rows) (m : OffsetMap) (runs : BTreeMap ℕ ℕ) (last before : ℕ) → AllRead (entry_size kind rows.format.class) (is_known rows.format bytes m) runs
    → get nat_cmp runs (rows.at + entry_size kind rows.format.class * last) ≡ Some before → last < rows.count
    → beneath symbols (drop (last - before) (entries_in kind bytes rows)) m ≡ beneath symbols (drop (last + 1) (entries_in kind bytes rows)) m
run_passed symbols kind bytes rows m runs last before all here lt =
    let es = entries_in kind bytes rows in
    let d = entry_at kind rows.format bytes 0 in
    let n = last + 1 - (last - before) in
    let whole : last - before + n ≡ last + 1 = omega arith in
    beneath-known symbols es m (last - before) n d (omega (arith, entries_count kind bytes rows, whole, lt)) (λ k low high. run_known kind bytes rows m runs last before k d all here lt low (omega (arith, high, whole)))
    ∙ ap (λ (i : ℕ). beneath symbols (drop i es) m) whole

-- what was read stays read
pub all_read-beneath : (symbols : List Symbol) (es : List Entry) (f : Format) (bytes : List ℕ) (m : OffsetMap) (size : ℕ) (runs : BTreeMap ℕ ℕ) → AllRead size (is_known f bytes m) runs → AllRead size (is_known f bytes (beneath symbols es m)) runs
all_read-beneath symbols es f bytes m size runs all p n i q here le sum = known-beneath symbols es m (word_at f bytes q) (all p n i q here le sum)

-- the entries of a table that was put
pub table_known : (symbols : List Symbol) (kind : EntryKind) (bytes : List ℕ) (rows : Rows) (m : OffsetMap) (k : ℕ) → k < rows.count → is_known rows.format bytes (beneath symbols (entries_in kind bytes rows) m) (rows.at + entry_size kind rows.format.class * k) ≡ true
table_known symbols kind bytes rows m k lt =
    let es = entries_in kind bytes rows in
    let d = entry_at kind rows.format bytes 0 in
    ap (contains_key (beneath symbols es m)) (sym (offset_is kind bytes rows k d lt)) ∙ entry-beneath symbols es m k d (omega (arith, entries_count kind bytes rows, lt))

-- ---- both kinds

abbrev put_table_is : List ℕ → OffsetMap → OffsetMap → RelocationTable → Type 0
put_table_is bytes m n t = n ≡ beneath (symbols_in bytes t.symbols) (entries_in t.kind bytes t.entries) m

abbrev runs_after : List ℕ → OffsetMap → RelocationTable → BTreeMap ℕ ℕ → Type 0
runs_after bytes n t runs = AllRead (entry_size t.kind t.entries.format.class) (is_known t.entries.format bytes n) runs

other_kind : (f : Format) (bytes : List ℕ) (m n : OffsetMap) (t : RelocationTable) (size : ℕ) (runs : BTreeMap ℕ ℕ) → put_table_is bytes m n t → AllRead size (is_known f bytes m) runs → AllRead size (is_known f bytes n) runs
other_kind f bytes m n t size runs is all = rw is (all_read-beneath (symbols_in bytes t.symbols) (entries_in t.kind bytes t.entries) f bytes m size runs all)

pub rela_read : {E : Type 0} (r : Result (Unit {0}) E) (f : Format) (bytes : List ℕ) (m n : OffsetMap) (t : RelocationTable) (read : ReadPlaces) (runs : BTreeMap ℕ ℕ) → t.kind ≡ Rela → t.entries.format ≡ f → AreRead f bytes m read → OnOk r (put_table_is bytes m n t) → OnOk r (runs_after bytes n t runs) → OnOk r (AreRead f bytes n (record { rela = runs; rel = read.rel }))
rela_read (Ok u) f bytes m n t read runs kind format was is after = record { rela = rw (kind, format) at after; rel = other_kind f bytes m n t (entry_size Rel f.class) read.rel is was.rel }
rela_read (Err e) f bytes m n t read runs kind format was is after = tt

pub rel_read : {E : Type 0} (r : Result (Unit {0}) E) (f : Format) (bytes : List ℕ) (m n : OffsetMap) (t : RelocationTable) (read : ReadPlaces) (runs : BTreeMap ℕ ℕ) → t.kind ≡ Rel → t.entries.format ≡ f → AreRead f bytes m read → OnOk r (put_table_is bytes m n t) → OnOk r (runs_after bytes n t runs) → OnOk r (AreRead f bytes n (record { rela = read.rela; rel = runs }))
rel_read (Ok u) f bytes m n t read runs kind format was is after = record { rela = other_kind f bytes m n t (entry_size Rela f.class) read.rela is was.rela; rel = rw (kind, format) at after }
rel_read (Err e) f bytes m n t read runs kind format was is after = tt
