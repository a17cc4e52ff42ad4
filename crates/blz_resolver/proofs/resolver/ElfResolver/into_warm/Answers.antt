use Rattle.std.proofs.Common.{ap, subst}
use Rattle.blz_bundle.specs.BundleViews.{bundle_view}
use Rattle.blz_bundle.specs.Images.{ImageSet}
use Rattle.blz_resolver.specs.Resolver.{Resolver}
use Rattle.blz_resolver.specs.WarmFits.{WarmFits}
use Rattle.blz_resolver.proofs.WarmBooks.{warm_fits}
use Rattle.blz_resolver.proofs.resolver.ElfResolver.into_warm.Goals as goal

pub returns-clause-fits : goal.returns-clause-fits
returns-clause-fits c =
    let P : ImageSet → Type 0 = λ images. WarmFits images (record { elf = c.into_warm.result; debug = c.warm_debug.result; prepared = c.self.inside.prepared }) in
    subst P (ap (λ (r : Resolver). r.images) c.self.view_is) (warm_fits (bundle_view c.self.inside.bundle) c.self.inside.parser c.self.inside.debug _ c.self.invariant c.into_warm.ensures.fits c.into_warm.ensures.prepared c.warm_debug.ensures.fits c.warm_debug.ensures.units)
