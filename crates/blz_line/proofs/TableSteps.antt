-- One more entry of a table of directories or files.
use Rattle.std.proofs.Common.{◌≡◌, ℕ, zero, suc, ◌+◌, ◌<◌, ◌≤◌, List, [], ◌∷◌, ◌++◌, length, replicate, get_or, drop, Option, Some, None, refl, sym, ap, ◌∙◌, append_assoc, eqb, true, false}
use Rattle.std.proofs.lemmas.List.{append-nil, at_drop_more, at_drop_all}
use Rattle.blz_error.specs.declared.kind.ErrorKind.TheVariants.{InvalidDwarf}
use Rattle.blz_model.specs.Part.{Good, or_mark}
use Rattle.blz_bytes.specs.Pieces.{zero_ended}
use Rattle.blz_info.specs.Contents.{Contents}
use Rattle.blz_info.specs.declared.encoding.Encoding.{Encoding}
use Rattle.blz_line.specs.declared.paths.FileEntry.{FileEntry}
use Rattle.blz_line.specs.declared.paths.Kind.{Kind}
use Rattle.blz_line.specs.declared.formats.EntryFormat.{EntryFormat}
use Rattle.blz_line.specs.PathTables.{text_place, entry_behind, listed_in}
use Rattle.blz_info.specs.Forms.{form_value}
use Rattle.blz_info.specs.declared.forms.value.AttrValue.{AttrValue}
use Rattle.blz_line.specs.Formats.{format_at, formats_in, entry_at, entries_in, values_in, with_content, line_texts}

-- ---- formats of version 5

pub formats_more : (m n : ℕ) (so_far : List EntryFormat) (bytes : List ℕ) (at next : ℕ) (f : EntryFormat) → m ≡ suc n → format_at bytes at ≡ Some (f, next) → formats_in m so_far bytes at ≡ formats_in n (so_far ++ f ∷ []) bytes next
unfolding formats_in
formats_more m n so_far bytes at next f e h = rw (e, h) refl

pub formats_none : (m n : ℕ) (so_far : List EntryFormat) (bytes : List ℕ) (at : ℕ) → m ≡ suc n → format_at bytes at ≡ None → formats_in m so_far bytes at ≡ None
unfolding formats_in
formats_none m n so_far bytes at e h = rw (e, h) refl

pub formats_end : (m : ℕ) (so_far : List EntryFormat) (bytes : List ℕ) (at : ℕ) → m ≡ 0 → formats_in m so_far bytes at ≡ Some (so_far, at)
unfolding formats_in
formats_end m so_far bytes at e = rw e refl

-- ---- entries of version 5

pub entries_more : (e : Encoding) (s : Contents) (formats : List EntryFormat) (m n : ℕ) (so_far : List FileEntry) (at next : ℕ) (x : FileEntry) → m ≡ suc n → entry_at e s formats at ≡ Some (x, next) → entries_in e s formats m so_far at ≡ entries_in e s formats n (so_far ++ x ∷ []) next
unfolding entries_in
entries_more e s formats m n so_far at next x em h = rw (em, h) refl

pub entries_none : (e : Encoding) (s : Contents) (formats : List EntryFormat) (m n : ℕ) (so_far : List FileEntry) (at : ℕ) → m ≡ suc n → entry_at e s formats at ≡ None → entries_in e s formats m so_far at ≡ None
unfolding entries_in
entries_none e s formats m n so_far at em h = rw (em, h) refl

pub entries_end : (e : Encoding) (s : Contents) (formats : List EntryFormat) (m : ℕ) (so_far : List FileEntry) (at : ℕ) → m ≡ 0 → entries_in e s formats m so_far at ≡ Some (so_far, at)
unfolding entries_in
entries_end e s formats m so_far at em = rw em refl

-- where one entry takes no bytes, so many of them are equal
pub entries_equal : (e : Encoding) (s : Contents) (formats : List EntryFormat) (n : ℕ) (so_far : List FileEntry) (at : ℕ) (x : FileEntry) → entry_at e s formats at ≡ Some (x, at) → entries_in e s formats n so_far at ≡ Some (so_far ++ replicate n x, at)
entries_equal e s formats zero so_far at x h = entries_end e s formats 0 so_far at refl ∙ ap (λ (xs : List FileEntry). Some (xs, at)) (sym (append-nil so_far))
entries_equal e s formats (suc n) so_far at x h =
    entries_more e s formats (suc n) n so_far at at x refl h ∙ entries_equal e s formats n (so_far ++ x ∷ []) at x h ∙ ap (λ (xs : List FileEntry). Some (xs, at)) (append_assoc so_far (x ∷ []) (replicate n x))

-- ---- entries of versions 2 to 4

pub listed_more : (kind : Kind) (m n : ℕ) (so_far : List FileEntry) (bytes path : List ℕ) (at behind next : ℕ) (x : FileEntry) → m ≡ suc n → zero_ended bytes at ≡ Some (path, behind) → eqb (length path) 0 ≡ false → entry_behind kind (text_place at path) bytes behind ≡ Some (x, next) → listed_in kind m so_far bytes at ≡ listed_in kind n (so_far ++ x ∷ []) bytes next
unfolding listed_in
listed_more kind m n so_far bytes path at behind next x e h t k = rw (e, h, t, k) refl

pub listed_last : (kind : Kind) (m n : ℕ) (so_far : List FileEntry) (bytes path : List ℕ) (at behind : ℕ) → m ≡ suc n → zero_ended bytes at ≡ Some (path, behind) → eqb (length path) 0 ≡ true → listed_in kind m so_far bytes at ≡ Some (so_far, behind)
unfolding listed_in
listed_last kind m n so_far bytes path at behind e h t = rw (e, h, t) refl

pub listed_no_path : (kind : Kind) (m n : ℕ) (so_far : List FileEntry) (bytes : List ℕ) (at : ℕ) → m ≡ suc n → zero_ended bytes at ≡ None → listed_in kind m so_far bytes at ≡ None
unfolding listed_in
listed_no_path kind m n so_far bytes at e h = rw (e, h) refl

pub listed_no_entry : (kind : Kind) (m n : ℕ) (so_far : List FileEntry) (bytes path : List ℕ) (at behind : ℕ) → m ≡ suc n → zero_ended bytes at ≡ Some (path, behind) → eqb (length path) 0 ≡ false → entry_behind kind (text_place at path) bytes behind ≡ None → listed_in kind m so_far bytes at ≡ None
unfolding listed_in
listed_no_entry kind m n so_far bytes path at behind e h t k = rw (e, h, t, k) refl

pub listed_end : (kind : Kind) (m : ℕ) (so_far : List FileEntry) (bytes : List ℕ) (at : ℕ) → m ≡ 0 → listed_in kind m so_far bytes at ≡ None
unfolding listed_in
listed_end kind m so_far bytes at e = rw e refl

-- ---- values of one entry of version 5

pub values_more : (e : Encoding) (s : Contents) (formats : List EntryFormat) (i : ℕ) (d : EntryFormat) (entry : FileEntry) (at next : ℕ) (value : AttrValue) → i < length formats → form_value (get_or formats i d).form e line_texts s at ≡ Some (value, next) → values_in e s (drop i formats) entry at ≡ values_in e s (drop (i + 1) formats) (with_content (get_or formats i d).content value entry) next
unfolding values_in
values_more e s formats i d entry at next value lt h = at_drop_more (λ (fs : List EntryFormat). values_in e s fs entry at) formats i d lt ∙ rw h refl

pub values_none : (e : Encoding) (s : Contents) (formats : List EntryFormat) (i : ℕ) (d : EntryFormat) (entry : FileEntry) (at : ℕ) → i < length formats → form_value (get_or formats i d).form e line_texts s at ≡ None → values_in e s (drop i formats) entry at ≡ None
unfolding values_in
values_none e s formats i d entry at lt h = at_drop_more (λ (fs : List EntryFormat). values_in e s fs entry at) formats i d lt ∙ rw h refl

pub values_end : (e : Encoding) (s : Contents) (formats : List EntryFormat) (i : ℕ) (entry : FileEntry) (at : ℕ) → length formats ≤ i → values_in e s (drop i formats) entry at ≡ Some (entry, at)
unfolding values_in
values_end e s formats i entry at le = at_drop_all (λ (fs : List EntryFormat). values_in e s fs entry at) formats i le

-- a value that is there is no mark
pub or_mark_some : {A : Type 0} (o : Option A) (x : A) → o ≡ Some x → or_mark o InvalidDwarf ≡ Good x
or_mark_some o x h = rw h refl
