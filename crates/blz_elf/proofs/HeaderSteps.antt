-- The headers that stand where a table was found.
use Rattle.std.proofs.Common.{◌≡◌, ℕ, List, refl}
use Rattle.std.proofs.lemmas.List.FromFn.{length-map-range_with_len}
use Rattle.blz_model.specs.Part.{Good}
use Rattle.blz_image.specs.declared.span.Rows.{Rows}
use Rattle.blz_image.specs.Headers.{Header}
use Rattle.blz_image.specs.Sections.{sections_of}
use Rattle.blz_image.specs.Segments.{segments_of}
use Rattle.blz_image.specs.Places.{sections_in}
use Rattle.blz_image.specs.SegmentViews.{segments_in}
use Rattle.blz_elf.specs.HeaderTables.{section_records, segment_records, section_headers_of, program_headers_of}

pub section_headers_of-good : (image : List ℕ) (h : Header) (rows : Rows) → sections_of image h ≡ Good (sections_in image rows) → rows.format ≡ h.format → rows.at ≡ h.shoff
    → section_headers_of image h ≡ Good (section_records image rows)
unfolding section_headers_of
section_headers_of-good image h rows found format at = rw (found, ← format, ← at, length-map-range_with_len) refl

pub program_headers_of-good : (image : List ℕ) (h : Header) (rows : Rows) → segments_of image h ≡ Good (segments_in image rows) → rows.format ≡ h.format → rows.at ≡ h.phoff
    → program_headers_of image h ≡ Good (segment_records image rows)
unfolding program_headers_of
program_headers_of-good image h rows found format at = rw (found, ← format, ← at, length-map-range_with_len) refl
