use Rattle.std.proofs.Common.{Some, ap, ◌∙◌}
use Rattle.blz_error.specs.Texts.{Bytes}
use Rattle.blz_bundle.specs.Images.{alone}
use Rattle.blz_inspector.proofs.UseSteps.{alone_good}
use Rattle.blz_inspector.proofs.opening.image_alone.Goals as goal

pub returns-clause-good : goal.returns-clause-good
returns-clause-good g c =
    alone_good (g.F.Files.contents c.args.files.now) c.args.path.now c.in_ok-image.image c.of_image.result c.in_ok-image.ensures.told
    (c.of_image.ensures ∙ ap (λ (p : Bytes). alone (record { image = c.in_ok-image.image.items; module_name = Some p })) c.in_ok-name.ensures.ok)
