-- The segments that lie at a place of an image.
use Rattle.std.specs.Prelude.{ℕ, List}
use Rattle.blz_image.specs.Segments.{segment_at}
use Rattle.blz_image.specs.declared.segments.Segment.{Segment}
use Rattle.blz_image.specs.Formats.{segment_size}
use Rattle.blz_image.specs.Places.{rows_in}
use Rattle.blz_image.specs.declared.span.Rows.{Rows}

abbrev pub segments_in : List ℕ → Rows → List Segment
segments_in image r = rows_in segment_at segment_size image r
