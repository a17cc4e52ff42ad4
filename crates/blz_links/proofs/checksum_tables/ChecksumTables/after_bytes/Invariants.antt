use Rattle.std.proofs.Common.{◌≡◌, drop}
use Rattle.blz_links.specs.Checksums.{checksum_from}
use Rattle.blz_links.proofs.checksum_tables.ChecksumTables.after_bytes.Given as goal

abbrev pub invariant-loop-byte : goal.invariant-loop-byte
invariant-loop-byte l = checksum_from l.register (drop l.byte-index l.bytes) ≡ checksum_from l.initial.register l.bytes
