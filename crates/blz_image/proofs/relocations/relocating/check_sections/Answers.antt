use Rattle.std.proofs.Common.{arith}
use Rattle.std.proofs.lemmas.Result.{err_from_is_err_and}
use Rattle.blz_image.proofs.TargetMaps.{marks_on, marks_break, marks_end}
use Rattle.blz_image.proofs.relocations.relocating.check_sections.Goals as goal

pub loop-i-preserved : goal.loop-i-preserved
loop-i-preserved c = marks_on c.args.format c.args.image.now c.args.sections.now c.loop-i.i _ _ (omega (arith, c.len-i-end.ensures)) c.at.ensures c.in_ok-check_section.ensures c.loop-i.invariant

pub returns-in_err-check_section : goal.returns-in_err-check_section
returns-in_err-check_section c =
    let p = err_from_is_err_and c.from_residual.result c.from_residual.ensures.1 in
    rw (p.1, p.2) (marks_break c.args.format c.args.image.now c.args.sections.now c.loop-i.i _ _ _ (omega (arith, c.len-i-end.ensures)) c.at.ensures c.in_err-check_section.ensures.0 c.loop-i.invariant, c.in_err-check_section.ensures.1)

pub returns : goal.returns
returns c = marks_end c.args.format c.args.image.now c.args.sections.now c.loop-i.i _ (omega (arith, c.len-i-end.ensures)) c.loop-i.invariant
