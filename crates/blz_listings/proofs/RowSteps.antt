-- One row, by the path of its file.
use Rattle.std.proofs.Common.{◌≡◌, ℕ, List, [], ◌∷◌, Option, Some, None, slice_get, ap}
use Rattle.blz_error.specs.Texts.{Bytes}
use Rattle.blz_error.specs.declared.kind.ErrorKind.{ErrorKind}
use Rattle.blz_error.specs.declared.kind.ErrorKind.TheVariants.{InvalidDwarf}
use Rattle.blz_model.specs.Part.{Good, Broken, ◌>>=◌, Fails}
use Rattle.blz_info.specs.Marks.{or_invalid}
use Rattle.blz_line.specs.declared.row.LineRow.{LineRow}
use Rattle.blz_rows.specs.Entries.{Entry, entry_in, path_of, row_entry}
use Rattle.blz_listings.specs.Shown.{Shown, after, file_path, shown_with}

abbrev entry_at : Bytes → LineRow → ℕ → Entry
entry_at path row end = record { path = path; line = row.line; address = row.address; end = end }

put_if : (shown : Shown) (file : Option (Bytes × Bytes)) (row : LineRow) (end : ℕ) (path : Bytes) → file_path file ≡ Good path
    → after shown (or_invalid file >>= λ file. Good (entry_in file row end ∷ [])) ≡ Good (shown_with shown (entry_at path row end))
put_if shown None row end path e = absurd cc
put_if shown (Some file) row end path e =
    let is : path_of file ≡ path = cc in
    ap (λ (path : Bytes). Good (shown_with shown (entry_at path row end))) is

-- a row whose file has a path
pub row_put : (shown : Shown) (files : List (Bytes × Bytes)) (row : LineRow) (end : ℕ) (path : Bytes) → file_path (slice_get files row.file_index) ≡ Good path
    → after shown (row_entry files row end) ≡ Good (shown_with shown (entry_at path row end))
unfolding row_entry
row_put shown files row end path e = put_if shown (slice_get files row.file_index) row end path e

broken_if : (k : ErrorKind) (shown : Shown) (file : Option (Bytes × Bytes)) (row : LineRow) (end : ℕ) → file_path file ≡ Broken k
    → after shown (or_invalid file >>= λ file. Good (entry_in file row end ∷ [])) ≡ Broken k
broken_if k shown None row end e = let same : InvalidDwarf ≡ k = cc in ap (λ (k : ErrorKind). Broken k) same
broken_if k shown (Some file) row end e = absurd cc

-- a row whose file is not there
pub row_broken : (k : ErrorKind) (shown : Shown) (files : List (Bytes × Bytes)) (row : LineRow) (end : ℕ) → Fails k (file_path (slice_get files row.file_index))
    → Fails k (after shown (row_entry files row end))
unfolding row_entry
row_broken k shown files row end fails memory = broken_if k shown (slice_get files row.file_index) row end (fails memory)
