-- The entries that lie at a place of an image.
use Rattle.std.specs.Prelude.{ℕ, List}
use Rattle.blz_image.specs.declared.relocations.entries.EntryKind.{EntryKind}
use Rattle.blz_image.specs.declared.span.Rows.{Rows}
use Rattle.blz_image.specs.Places.{rows_in}
use Rattle.blz_image.specs.RelocationTables.{Entry, entry_at, entry_size}

abbrev pub entries_in : EntryKind → List ℕ → Rows → List Entry
entries_in kind image r = rows_in (entry_at kind) (entry_size kind) image r
