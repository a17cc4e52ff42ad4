use Rattle.std.proofs.Common.{refl}
use Rattle.std.proofs.lemmas.Result.{err_from_is_err_and}
use Rattle.blz_image.proofs.TargetMaps.{with_entries-table}
use Rattle.blz_image.proofs.relocations.relocating.relocate_by.Goals as goal

pub returns-in_err-table : goal.returns-in_err-table
returns-in_err-table c =
    let p = err_from_is_err_and c.from_residual.result c.from_residual.ensures.1 in
    rw (p.1, p.2, with_entries-table c.args.format c.args.image.now c.args.sections.now c.args.section.now c.args.kind c.args.map.now, c.in_err-table.ensures.value.0) (λ ne. refl)

pub returns : goal.returns
returns c =
    rw (with_entries-table c.args.format c.args.image.now c.args.sections.now c.args.section.now c.args.kind c.args.map.now, c.in_ok-table.ensures.value, c.in_ok-put_entries.ensures, c.open-symbols.ensures, c.open-entries.ensures) refl
