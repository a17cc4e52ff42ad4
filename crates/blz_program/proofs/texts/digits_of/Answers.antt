use Rattle.std.proofs.Common.{◌<◌, ◌≢◌, ◌-◌, length, arith, rules, below_more, get_or-set_other, get_or-set_same}
use Rattle.std.proofs.lemmas.List.FromFn.{fill_by_all}
use Rattle.blz_program.specs.PrintedText.{hex_digit, hex_glyph}
use Rattle.blz_program.proofs.Numbers.{digit_at}
use Rattle.blz_program.proofs.texts.digits_of.Goals as goal

pub loop-i-preserved : goal.loop-i-preserved
loop-i-preserved c = record {
  sixteen = search (rules, c.loop-i.invariant.sixteen);
  written = below_more _ _
      (λ k h. let ne : k ≢ c.loop-i.i = omega arith in rw get_or-set_other (c.loop-i.invariant.written k h))
      (let lt : c.loop-i.i < length c.loop-i.digits = omega (arith, c.loop-i.invariant.sixteen) in rw get_or-set_same (digit_at c.args.number c.loop-i.i (omega arith)));
}

pub returns : goal.returns
returns c = fill_by_all (λ i. hex_glyph (hex_digit c.args.number (15 - i))) c.loop-i.digits 16 0 c.loop-i.invariant.sixteen (λ k h. c.loop-i.invariant.written k (omega (arith, h)))
