use Rattle.std.proofs.Common.{◌≡◌, drop}
use Rattle.blz_rows.specs.Asking.{behind}
use Rattle.blz_rows.specs.Entries.{sequence_entries}
use Rattle.blz_rows.proofs.gather.push_sequences.Given as goal

abbrev pub invariant-loop-sequence : goal.invariant-loop-sequence
invariant-loop-sequence l = record {
  so_far : behind l.found.items l.initial.files.name l.asked.lines (sequence_entries l.initial.files.files (drop l.sequence-index l.sequence-items))
      ≡ behind l.initial.found.items l.initial.files.name l.asked.lines (sequence_entries l.initial.files.files l.sequence-items);
  same : l.files ≡ l.initial.files;
}
