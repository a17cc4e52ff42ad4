use Rattle.std.proofs.Common.{Option, refl, subst}
use Rattle.blz_bundle.specs.BundleViews.{bundle_view}
use Rattle.blz_resolver.specs.Resolver.{HasBookIf}
use Rattle.blz_resolver.specs.declared.debug.debug_info.DebugInfo.{DebugInfo}
use Rattle.blz_resolver.proofs.WarmBooks.{warm_book}
use Rattle.blz_resolver.proofs.warm.warm_debug.Goals as goal

pub returns-in-Some-clause-fits : goal.returns-in-Some-clause-fits
returns-in-Some-clause-fits c =
    let P : Option DebugInfo → Type 0 = λ o. HasBookIf (bundle_view c.args.bundle.now) o in
    warm_book (bundle_view c.args.bundle.now) c.in-Some.info _ (subst P c.in-Some.is c.requires) refl c.relocations_of.ensures refl
