use Rattle.std.proofs.Common.{◌≡◌, ◌≤◌, ◌-◌, length, drop}
use Rattle.blz_links.specs.Checksums.{checksum_from}
use Rattle.blz_links.proofs.checksum_tables.ChecksumTables.after_words.Given as goal

abbrev pub invariant-loop-at : goal.invariant-loop-at
invariant-loop-at l = record {
  within : l.at ≤ length l.bytes;
  same : checksum_from l.register (drop l.at l.bytes) ≡ checksum_from l.initial.register l.bytes;
}

abbrev pub decreases-loop-at : goal.decreases-loop-at
decreases-loop-at l = length l.bytes - l.at
