use Rattle.std.proofs.lemmas.Result.{err_from_is_err_and}
use Rattle.std.specs.FinMap.{empty}
use Rattle.blz_image.specs.Places.{sections_in}
use Rattle.blz_image.proofs.TargetMaps.{mark_in-sections, maps_in-broken}
use Rattle.blz_image.proofs.relocations.relocating.relocations_for.Goals as goal

pub returns-in_err-check_sections : goal.returns-in_err-check_sections
returns-in_err-check_sections c =
    let p = err_from_is_err_and c.from_residual.result c.from_residual.ensures.1 in
    let sections = sections_in c.args.image.now c.relocating.result in
    rw (p.1, p.2) (λ ne. maps_in-broken c.args.targets.now _ _ (rw (c.relocating.ensures.value, mark_in-sections c.args.header.format c.args.image.now sections sections empty, ← c.open-sections.ensures) c.in_err-check_sections.ensures.0))
