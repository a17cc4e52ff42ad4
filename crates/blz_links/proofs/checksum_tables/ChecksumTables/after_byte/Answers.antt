use Rattle.std.proofs.Common.{◌/◌, ◌%◌, sym, ap, ◌∙◌, arith}
use Rattle.std.specs.Int.Bits.{bit_xor}
use Rattle.blz_links.specs.Checksums.{bit_steps}
use Rattle.blz_links.proofs.ChecksumLemmas.{bit_steps-byte}
use Rattle.blz_links.proofs.checksum_tables.ChecksumTables.after_byte.Goals as goal

pub returns : goal.returns
returns c =
    let mixed = bit_xor c.args.register c.from.result in
    ap (bit_xor (mixed / 256)) (c.requires.alone (mixed % 256) (omega arith)) ∙ sym (bit_steps-byte mixed)
    ∙ ap (λ b. bit_steps 8 (bit_xor c.args.register b)) c.from.ensures
