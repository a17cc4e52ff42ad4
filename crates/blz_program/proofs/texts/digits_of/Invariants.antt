use Rattle.std.proofs.Common.{◌≡◌, ℕ, ◌-◌, ◌<◌, length, get_or}
use Rattle.blz_program.specs.PrintedText.{hex_digit, hex_glyph}
use Rattle.blz_program.proofs.texts.digits_of.Given as goal

abbrev pub invariant-loop-i : goal.invariant-loop-i
invariant-loop-i l = record {
  sixteen : length l.digits ≡ 16;
  written : (k : ℕ) → k < l.i → get_or l.digits k 0 ≡ hex_glyph (hex_digit l.number (15 - k));
}
