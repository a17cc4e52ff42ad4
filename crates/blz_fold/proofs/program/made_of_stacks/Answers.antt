use Rattle.blz_resolver.specs.BundleViews.{bundle_view}
use Rattle.blz_fold.proofs.MadeTexts.{text_found}
use Rattle.blz_fold.proofs.program.made_of_stacks.Goals as goal

pub returns-in-Ok-printed : goal.returns-in-Ok-printed
returns-in-Ok-printed g c = text_found (bundle_view c.args.bundle.now) c.args.stacks.now c.in-Ok.named c.args.nodes c.in-Ok-printed.text.items c.in-Ok.ensures.value c.in-Ok-printed.ensures
