use Rattle.std.specs.FinMap.{empty}
use Rattle.blz_image.specs.Places.{sections_in}
use Rattle.blz_image.proofs.TargetMaps.{mark_in-sections}
use Rattle.blz_image.proofs.relocations.relocating.check_relocations.Goals as goal

pub returns : goal.returns
returns c =
    let sections = sections_in c.args.image.now c.relocating.result in
    rw (c.relocating.ensures.value, mark_in-sections c.args.header.format c.args.image.now sections sections empty, ← c.open-sections.ensures) c.check_sections.ensures
