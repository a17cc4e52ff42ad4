use Rattle.blz_bundle.specs.BundleViews.{bundle_view}
use Rattle.blz_resolver.proofs.KeptFacts.{rows_if_prepared}
use Rattle.blz_resolver.proofs.preparing.prepare_units.Goals as goal

pub returns-in-Some-clause-rows : goal.returns-in-Some-clause-rows
returns-in-Some-clause-rows g c = rows_if_prepared (bundle_view c.args.bundle.now) c.prepare.new.self c.prepare.result c.prepare.ensures.has c.prepare.ensures.is_prepared
