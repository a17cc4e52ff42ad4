use Rattle.std.proofs.Common.{◌≡◌, ◌-◌}
use Rattle.blz_links.specs.Checksums.{bit_steps}
use Rattle.blz_links.proofs.checksum_tables.byte_steps.Given as goal

abbrev pub invariant-loop : goal.invariant-loop
invariant-loop l = bit_steps (8 - l.counter) l.register ≡ bit_steps 8 l.initial.register
