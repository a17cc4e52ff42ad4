use Rattle.std.proofs.Common.{◌≡◌, drop}
use Rattle.blz_resolver.specs.RowsViews.{rows_view}
use Rattle.blz_rows.specs.Entries.{row_entries}
use Rattle.blz_listings.specs.Shown.{after}
use Rattle.blz_listings.proofs.gather.push_rows.Given as goal

abbrev pub invariant-loop-index : goal.invariant-loop-index
invariant-loop-index l = after l.listing (row_entries (rows_view l.files).files l.sequence.end (drop l.index l.rows))
    ≡ after l.initial.listing (row_entries (rows_view l.files).files l.sequence.end l.rows)
