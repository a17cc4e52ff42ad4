use Rattle.blz_error.specs.declared.kind.ErrorKind.TheVariants as kinds
use Rattle.blz_program.proofs.Ends.{IsMade-refusal}
use Rattle.blz_resolver.specs.Counts.{Rose}
use Rattle.blz_cover.specs.Counting.{FindsCover}
use Rattle.blz_cover.proofs.Made.{opening_cause}
use Rattle.blz_cover.proofs.program.made_of_files.Goals as goal

pub returns-in-Err-clause-made : goal.returns-in-Err-clause-made
returns-in-Err-clause-made g c =
    let contents = g.F.Files.contents c.args.files.now in
    let image = c.args.image.now in
    let hits = c.args.hits.now in
    let failed = Rose (g.F.Files.faults c.args.files.now) (g.F.Files.faults c.open.new.files) in
    let kind = c.in-Err.error.kind in
    let cause = opening_cause contents image hits kind failed c.in-Err.ensures.opened.mark in
    let same = c.refusal.ensures in
    let kind_is = c.kind.ensures in
    rw (same, kind_is) (IsMade-refusal (Unit {0}) kind (FindsCover contents (image, hits)) failed cause)
