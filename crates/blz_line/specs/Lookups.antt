-- The line of an address in a unit: of the best sequence that covers it the last row that does not begin behind it.
use Rattle.std.specs.Prelude.{ℕ, List, [], ◌∷◌, map, Option, Some, None, option_and_then, ◌==◌, nat_le, if◌then◌else◌, slice_get}
use Rattle.blz_error.specs.declared.kind.ErrorKind.TheVariants.{InvalidDwarf}
use Rattle.blz_model.specs.Part.{Part, Good, ◌>>=◌, or_mark}
use Rattle.blz_model.specs.Answers.{Site}
use Rattle.blz_ranges.specs.declared.span.Span.{Span}
use Rattle.blz_info.specs.declared.text.Texts.{Texts}
use Rattle.blz_line.specs.declared.row.LineRow.{LineRow}
use Rattle.blz_line.specs.declared.lines.Location.{Location}
use Rattle.blz_line.specs.Sequences.{Sequence}
use Rattle.blz_ranges.specs.Best.{best}
use Rattle.blz_line.specs.FileNames.{file_text}
use Rattle.blz_line.specs.UnitLines.{LineTable}

-- what a sequence covers
abbrev pub span_of : Sequence → Span
span_of s = record { begin = s.start; end = s.end }

-- what each of some sequences covers
abbrev pub spans_of : List Sequence → List Span
spans_of sequences = map span_of sequences

-- of those that cover an address the one with the greatest start, then the earlier
abbrev pub best_sequence : List Sequence → ℕ → Option Sequence
best_sequence sequences addr = option_and_then (λ index. slice_get sequences index) (best (spans_of sequences) addr)

-- a row that was found behind this one, else this one, where its address is not above
abbrev pub later_row : Option LineRow → LineRow → ℕ → Option LineRow
later_row None row addr = if nat_le row.address addr then Some row else None
later_row (Some later) row addr = Some later

-- the last row whose address is not above
unfoldable pub row_at : List LineRow → ℕ → Option LineRow
row_at [] addr = None
row_at (row ∷ rest) addr = later_row (row_at rest addr) row addr

-- the row of an address in the best sequence that covers it
abbrev pub row_in : List Sequence → ℕ → Option LineRow
row_in sequences addr = option_and_then (λ (s : Sequence). row_at s.rows addr) (best_sequence sequences addr)

-- a row in its file; where the line is 0 there is neither a line nor a column
abbrev pub site_of : List ℕ × List ℕ → LineRow → Site
site_of file row = record {
  dir = Some file.0;
  file = file.1;
  line = if row.line == 0 then None else Some row.line;
  column = if row.line == 0 then None else Some row.column;
}

-- the place of a row, whose file has to be there
unfoldable pub row_site : Texts → LineTable → Option LineRow → Part (Option Site)
row_site t table None = Good None
row_site t table (Some row) = do
  file ← or_mark (slice_get table.files row.file_index) InvalidDwarf
  Good (Some (site_of (file_text t file) row))

-- the line of an address
abbrev pub line_at : Texts → LineTable → ℕ → Part (Option Site)
line_at t table addr = row_site t table (row_in table.sequences addr)

abbrev pub location_view : Location → Site
location_view l = record { dir = Some l.dir; file = l.file.now; line = l.line; column = l.column }
