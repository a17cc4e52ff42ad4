use Rattle.std.proofs.Common.{◌/◌, refl, ap, ◌∙◌}
use Rattle.blz_links.specs.Checksums.{bit_steps}
use Rattle.blz_links.proofs.ChecksumLemmas.{at_byte, bit_steps-over, last_byte}
use Rattle.blz_links.proofs.checksum_tables.ChecksumTables.after_word.Goals as goal

-- from the highest byte down
pub returns : goal.returns
returns c =
    let t = c.args.self.now in
    let r = c.requires in
    let x0 = c.args.mixed in
    let x1 = x0 / 256 in
    let x2 = x1 / 256 in
    let x3 = x2 / 256 in
    let x4 = x3 / 256 in
    let x5 = x4 / 256 in
    let x6 = x5 / 256 in
    let x7 = x6 / 256 in
    let s7 = at_byte 8 x7 c.low_byte.result t.alone r.alone c.low_byte.ensures ∙ ap (bit_steps 8) (last_byte x0 c.ranges.mixed.fits) in
    let s6 = bit_steps-over 16 8 x6 _ _ refl s7 (at_byte 16 x6 c.low_byte-2.result t.before_1 r.before_1 c.low_byte-2.ensures) in
    let s5 = bit_steps-over 24 16 x5 _ _ refl s6 (at_byte 24 x5 c.low_byte-3.result t.before_2 r.before_2 c.low_byte-3.ensures) in
    let s4 = bit_steps-over 32 24 x4 _ _ refl s5 (at_byte 32 x4 c.low_byte-4.result t.before_3 r.before_3 c.low_byte-4.ensures) in
    let s3 = bit_steps-over 40 32 x3 _ _ refl s4 (at_byte 40 x3 c.low_byte-5.result t.before_4 r.before_4 c.low_byte-5.ensures) in
    let s2 = bit_steps-over 48 40 x2 _ _ refl s3 (at_byte 48 x2 c.low_byte-6.result t.before_5 r.before_5 c.low_byte-6.ensures) in
    let s1 = bit_steps-over 56 48 x1 _ _ refl s2 (at_byte 56 x1 c.low_byte-7.result t.before_6 r.before_6 c.low_byte-7.ensures) in
    bit_steps-over 64 56 x0 _ _ refl s1 (at_byte 64 x0 c.low_byte-8.result t.before_7 r.before_7 c.low_byte-8.ensures)
