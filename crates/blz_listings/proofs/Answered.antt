-- The text, from what was made of all entries.
use Rattle.std.proofs.Common.{◌≡◌, List, [], refl, sym, ap, ◌∙◌}
use Rattle.blz_error.specs.Texts.{Bytes}
use Rattle.blz_error.specs.declared.kind.ErrorKind.{ErrorKind}
use Rattle.blz_model.specs.Part.{Part, Good, Broken, ◌>>=◌, Fails}
use Rattle.blz_resolver.specs.Images.{ImageSet}
use Rattle.blz_resolver.proofs.FormatMarks.{Marks, marks_good, marks_bind}
use Rattle.blz_rows.specs.Asking.{behind, found_for}
use Rattle.blz_rows.specs.Entries.{Entry, entries_of}
use Rattle.blz_rows.specs.declared.asked.AskedLines.TheVariants.{At}
use Rattle.blz_rows.proofs.EntryMarks.{marks_found}
use Rattle.blz_listings.specs.LineTexts.{lines_text, shown_text}
use Rattle.blz_listings.specs.Shown.{Shown, after, nothing, shown_of, text_in}
use Rattle.blz_listings.specs.declared.wanted.Wanted.{Wanted}
use Rattle.blz_listings.proofs.ShownTexts.{text_is}

text_part : (wanted : Wanted) (p : Part (List Entry)) → (after (nothing wanted) p >>= λ shown. Good (text_in shown)) ≡ (p >>= λ entries. Good (shown_text wanted entries))
text_part wanted (Good entries) = ap (λ (text : Bytes). Good text) (text_is wanted entries)
text_part wanted (Broken k) = refl

text_of_shown : (wanted : Wanted) (images : ImageSet) → (shown_of wanted images >>= λ shown. Good (text_in shown)) ≡ lines_text wanted images
unfolding shown_of lines_text
text_of_shown wanted images = text_part wanted (entries_of images)

pub text_found : (wanted : Wanted) (images : ImageSet) (shown : Shown) → shown_of wanted images ≡ Good shown → lines_text wanted images ≡ Good (text_in shown)
text_found wanted images shown e = sym (text_of_shown wanted images) ∙ ap (λ (p : Part Shown). p >>= λ shown. Good (text_in shown)) e

pub text_broken : (k : ErrorKind) (wanted : Wanted) (images : ImageSet) → Fails k (shown_of wanted images) → Fails k (lines_text wanted images)
text_broken k wanted images fails memory = sym (text_of_shown wanted images) ∙ ap (λ (p : Part Shown). p >>= λ shown. Good (text_in shown)) (fails memory)

-- ---- what is broken has a kind of the format

marks_of_found : (p : Part (List Entry)) → Marks (behind [] [] (At 0) p) → Marks p
marks_of_found (Good entries) marks = marks_good entries
marks_of_found (Broken k) marks = record { kind = marks.kind }

marks_entries : (images : ImageSet) → Marks (found_for images [] (At 0)) → Marks (entries_of images)
unfolding found_for
marks_entries images marks = marks_of_found (entries_of images) marks

pub marks_shown : (wanted : Wanted) (images : ImageSet) → Marks (shown_of wanted images)
unfolding shown_of
marks_shown wanted images = marks_bind (entries_of images) _ (marks_entries images (marks_found images [] (At 0))) (λ entries. marks_good _)
