use Rattle.std.proofs.Common.{◌≡◌, ◌<◌, ℕ, get_or, length}
use Rattle.blz_links.specs.Checksums.{bit_steps}
use Rattle.blz_links.proofs.checksum_tables.next_table.Given as goal

abbrev pub invariant-loop-byte : goal.invariant-loop-byte
invariant-loop-byte l = record {
  long : length l.next ≡ 256;
  filled : (k : ℕ) → k < l.byte → get_or l.next k 0 ≡ bit_steps 8 (get_or l.table k 0);
}
