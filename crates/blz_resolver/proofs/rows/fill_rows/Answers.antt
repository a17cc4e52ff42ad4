use Rattle.blz_bundle.specs.BundleViews.{bundle_view}
use Rattle.blz_resolver.proofs.ReadBooks.{counted}
use Rattle.blz_resolver.proofs.rows.fill_rows.Goals as goal

pub fill_rows-requires-clause-there : goal.fill_rows-requires-clause-there
fill_rows-requires-clause-there g c = counted (bundle_view c.args.bundle.now) c.args.debug.now c.in-Some.info c.args.unit c.in-Some.is c.requires.book c.requires.there
