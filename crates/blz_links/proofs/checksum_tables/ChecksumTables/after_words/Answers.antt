use Rattle.std.proofs.Common.{◌+◌, drop, sym, ap, ◌∙◌, arith}
use Rattle.std.specs.Int.Bits.{bit_xor}
use Rattle.blz_links.specs.Checksums.{bit_steps, checksum_from}
use Rattle.blz_links.proofs.ChecksumLemmas.{checksum_from-little}
use Rattle.blz_links.proofs.checksum_tables.ChecksumTables.after_words.Goals as goal

pub loop-at-preserved : goal.loop-at-preserved
loop-at-preserved c =
    let bytes = c.args.bytes.now in
    let at = c.loop-at.at in
    let register = c.loop-at.register in
    let mixed = ap (λ x. bit_xor x c.u64_in-word.result) c.from.ensures ∙ ap (bit_xor register) c.u64_in-word.ensures in
    record {
      within = omega arith;
      same =
          ap (λ x. checksum_from x (drop (at + 8) bytes)) (c.after_word-register.ensures ∙ ap (bit_steps 64) mixed)
          ∙ sym (checksum_from-little 8 at register bytes (omega arith) (λ k. (c.type_inv.bytes k).fits)) ∙ c.loop-at.invariant.same;
    }
