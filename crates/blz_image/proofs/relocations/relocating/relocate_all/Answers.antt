use Rattle.std.proofs.Common.{arith}
use Rattle.std.proofs.lemmas.Result.{err_from_is_err_and}
use Rattle.blz_image.proofs.SectionSteps.{section_on, section_break, sections_end}
use Rattle.blz_image.proofs.relocations.relocating.relocate_all.Goals as goal

pub loop-i-preserved : goal.loop-i-preserved
loop-i-preserved c = section_on c.args.format c.args.image.now c.args.sections.now c.loop-i.i _ _ _ _ (omega (arith, c.len-i-end.ensures)) c.at.ensures c.in_ok-relocate_section.ensures c.loop-i.invariant

pub returns-in_err-relocate_section : goal.returns-in_err-relocate_section
returns-in_err-relocate_section c =
    let p = err_from_is_err_and c.from_residual.result c.from_residual.ensures.1 in
    rw (p.1, p.2) (λ ne. section_break c.args.format c.args.image.now c.args.sections.now c.loop-i.i _ _ _ _ (omega (arith, c.len-i-end.ensures)) c.at.ensures (c.in_err-relocate_section.ensures ne) c.loop-i.invariant)

pub returns : goal.returns
returns c = sections_end c.args.format c.args.image.now c.args.sections.now c.loop-i.i _ _ (omega (arith, c.len-i-end.ensures)) c.loop-i.invariant
