use Rattle.std.proofs.Common.{◌≡◌, ◌+◌, ◌-◌, sym, ap, ◌∙◌, arith, drop}
use Rattle.blz_image.specs.TargetTables.{beneath_sections, section_mark}
use Rattle.blz_image.proofs.TargetMaps.{beneath_sections-none, beneath_sections_more, section_marks-at}
use Rattle.blz_image.proofs.relocations.target.relocations_of.Goals as goal

pub loop-i-init : goal.loop-i-init
loop-i-init c = (
  omega (arith, c.len-i.ensures),
  c.new-map.ensures ∙ beneath_sections-none c.args.format c.args.image.now c.args.sections.now c.args.target c.len-i.result (omega (arith, c.len-i.ensures)),
  c.none-read.ensures c.args.format c.args.image.now c.new-map.result,
)

pub put_section-requires-clause-mark : goal.put_section-requires-clause-mark
put_section-requires-clause-mark c =
    ap (section_mark c.args.format c.args.image.now c.args.sections.now) (sym (c.at-section.ensures c.at-section.result))
    ∙ section_marks-at c.args.format c.args.image.now c.args.sections.now c.args.sections.now (c.loop-i.i - 1) c.at-section.result c.requires (omega (arith, c.loop-i-test.true, c.loop-i.invariant.0))

pub loop-i-preserved : goal.loop-i-preserved
loop-i-preserved c =
    let next : c.loop-i.i ≡ c.loop-i.i - 1 + 1 = omega (arith, c.loop-i-test.true) in (
      omega (arith, c.loop-i.invariant.0),
      beneath_sections_more c.args.format c.args.image.now c.args.sections.now c.args.target (c.loop-i.i - 1) c.at-section.result c.loop-i.gathered.map _ (omega (arith, c.loop-i-test.true, c.loop-i.invariant.0)) c.at-section.ensures
          (c.loop-i.invariant.1 ∙ ap (λ n. beneath_sections c.args.format c.args.image.now c.args.sections.now c.args.target (drop n c.args.sections.now)) next) c.in_ok-put_section.ensures.value,
      c.in_ok-put_section.ensures.read,
    )
