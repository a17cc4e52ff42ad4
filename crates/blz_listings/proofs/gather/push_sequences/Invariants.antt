use Rattle.std.proofs.Common.{◌≡◌, drop}
use Rattle.blz_resolver.specs.RowsViews.{rows_view}
use Rattle.blz_rows.specs.Entries.{sequence_entries}
use Rattle.blz_listings.specs.Shown.{after}
use Rattle.blz_listings.proofs.gather.push_sequences.Given as goal

abbrev pub invariant-loop-sequence : goal.invariant-loop-sequence
invariant-loop-sequence l = after l.listing (sequence_entries (rows_view l.rows).files (drop l.sequence-index l.sequence-items))
    ≡ after l.initial.listing (sequence_entries (rows_view l.rows).files l.sequence-items)
