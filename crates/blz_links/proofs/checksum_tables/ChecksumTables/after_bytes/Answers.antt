use Rattle.std.proofs.Common.{◌+◌, drop, get_or, sym, ap, ◌∙◌, arith}
use Rattle.std.proofs.lemmas.List.{drop_more, length-drop}
use Rattle.blz_links.specs.Checksums.{checksum_from}
use Rattle.blz_links.proofs.ChecksumLemmas.{checksum_from-cons, checksum_from-nil}
use Rattle.blz_links.proofs.checksum_tables.ChecksumTables.after_bytes.Goals as goal

pub loop-byte-preserved : goal.loop-byte-preserved
loop-byte-preserved c =
    let bytes = c.args.bytes.now in
    let i = c.loop-byte.byte-index in
    let r = c.loop-byte.register in
    ap (λ x. checksum_from x (drop (i + 1) bytes)) c.after_byte-register.ensures
    ∙ sym (checksum_from-cons r (get_or bytes i 0) (drop (i + 1) bytes)) ∙ sym (ap (checksum_from r) (drop_more bytes i 0 (omega arith))) ∙ c.loop-byte.invariant

pub returns : goal.returns
returns c =
    let rest = drop c.loop-byte.byte-index c.args.bytes.now in
    sym (checksum_from-nil c.loop-byte.register rest (omega (arith, length-drop c.loop-byte.byte-index c.args.bytes.now))) ∙ c.loop-byte.invariant
