-- What the keys and values of a table of lines stand for.
use Rattle.std.specs.Prelude.{ℕ}
use Rattle.blz_cover.specs.LineEntries.{LineEntry}
use Rattle.blz_cover.specs.declared.line_table.LineKey.{LineKey}
use Rattle.blz_cover.specs.declared.line_table.LineCount.{LineCount}

abbrev pub entry_view : LineKey × LineCount → LineEntry
entry_view e = record { path = e.0.path.items; line = e.0.line; addr = e.1.addr; count = e.1.count }

abbrev pub count_view : LineCount → ℕ × ℕ
count_view c = (c.addr, c.count)
