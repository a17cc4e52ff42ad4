use Rattle.std.proofs.Common.{refl}
use Rattle.blz_bundle.specs.BundleViews.{bundle_view}
use Rattle.blz_resolver.proofs.WarmBooks.{parts_there, main_there, others_there, book_again}
use Rattle.blz_resolver.proofs.warm.info_again.Goals as goal

pub data_again-data-requires : goal.data_again-data-requires
data_again-data-requires c =
    rw c.requires.parser.image (record { value = c.requires.fits.debug.main.parts; is = parts_there _ c.requires.fits.debug.main (main_there (bundle_view c.args.bundle.now) c.requires.fits.debug c.requires.fits.is) })

pub sup_again-requires : goal.sup_again-requires
sup_again-requires c = record {
  debug = c.requires.fits.debug.sup;
  is = (others_there (bundle_view c.args.bundle.now) c.requires.fits.debug c.requires.fits.is).0;
  relocations_are = c.requires.fits.sup_relocations;
}

pub package_again-requires : goal.package_again-requires
package_again-requires c = record { value = c.requires.fits.debug.package_parts; is = (others_there (bundle_view c.args.bundle.now) c.requires.fits.debug c.requires.fits.is).1 }

pub returns-clause-has : goal.returns-clause-has
returns-clause-has c =
    book_again (bundle_view c.args.bundle.now) c.args.warm _ c.requires.fits c.new.ensures (rw (← c.requires.parser.image) c.data_again-data.ensures.value) refl refl c.sup_again.ensures c.package_again.ensures
