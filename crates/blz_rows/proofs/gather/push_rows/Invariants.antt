use Rattle.std.proofs.Common.{◌≡◌, drop}
use Rattle.blz_rows.specs.Asking.{behind}
use Rattle.blz_rows.specs.Entries.{row_entries}
use Rattle.blz_rows.proofs.gather.push_rows.Given as goal

abbrev pub invariant-loop-index : goal.invariant-loop-index
invariant-loop-index l = record {
  so_far : behind l.found.items l.initial.files.name l.lines (row_entries l.initial.files.files l.sequence.end (drop l.index l.rows))
      ≡ behind l.initial.found.items l.initial.files.name l.lines (row_entries l.initial.files.files l.sequence.end l.rows);
  same : l.files ≡ l.initial.files;
}
