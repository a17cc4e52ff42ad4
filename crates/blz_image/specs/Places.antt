-- Places in an image, and what lies there.
use Rattle.std.specs.Prelude.{ℕ, ◌+◌, ◌*◌, ◌≤◌, List, length, map, slice_range}
use Rattle.std.specs.List.{range_with_len}
use Rattle.blz_image.specs.Formats.{section_size, symbol_size}
use Rattle.blz_image.specs.Sections as sections
use Rattle.blz_image.specs.SymbolTables as symbols
use Rattle.blz_image.specs.declared.format.Class.{Class}
use Rattle.blz_image.specs.declared.format.Format.{Format}
use Rattle.blz_image.specs.declared.span.Span.{Span}
use Rattle.blz_image.specs.declared.span.Rows.{Rows}
use Rattle.blz_image.specs.declared.section.Section.{Section}
use Rattle.blz_image.specs.declared.symbols.Symbol.{Symbol}

-- bytes that lie in the image
abbrev pub SpanFits : List ℕ → Span → Type 0
SpanFits image s = s.at + s.len ≤ length image

abbrev pub span_in : List ℕ → Span → List ℕ
span_in image s = slice_range image s.at (s.at + s.len)

-- records that lie in the image, of the size that their class gives them
abbrev pub RowsFit : (Class → ℕ) → List ℕ → Rows → Type 0
RowsFit size image r = r.at + size r.format.class * r.count ≤ length image

abbrev pub run_of : Rows → sections.Run
run_of r = record { start = r.at; count = r.count }

-- the records of a table, each behind the one before, of the size that the class gives them
abbrev pub rows_in : {A : Type 0} → (Format → List ℕ → ℕ → A) → (Class → ℕ) → List ℕ → Rows → List A
rows_in record_at size image r = map (λ i. record_at r.format image (r.at + size r.format.class * i)) (range_with_len 0 r.count)

abbrev pub sections_in : List ℕ → Rows → List Section
sections_in image r = rows_in sections.section_at section_size image r

abbrev pub symbols_in : List ℕ → Rows → List Symbol
symbols_in image r = rows_in symbols.symbol_at symbol_size image r
