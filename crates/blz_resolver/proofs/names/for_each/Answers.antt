use Rattle.std.proofs.Common.{◌≡◌, ℕ, List, Option, Some, None, is_some, ap, subst}
use Rattle.blz_elf.specs.Listings.{Listing, ShowsAll, image_symbols}
use Rattle.blz_elf.specs.Sources.{Source}
use Rattle.blz_elf.specs.declared.find_addr_opts.FindAddrOpts.{FindAddrOpts}
use Rattle.blz_bundle.specs.BundleViews.{bundle_view}
use Rattle.blz_resolver.specs.FunctionNames.{listing_in}
use Rattle.blz_bundle.specs.Images.{ImageSet}
use Rattle.blz_resolver.specs.Sources.{IsOf, asked_file}
use Rattle.blz_resolver.specs.declared.debug.debug_info.DebugInfo.{DebugInfo}
use Rattle.blz_resolver.proofs.names.for_each.Goals as goal

symbols_of : (images : ImageSet) (o : Option DebugInfo) (s : Source) (opts : FindAddrOpts) → o ≡ None → IsOf (asked_file images (is_some o)) s → image_symbols s.image opts.sym_type opts.file_offset ≡ listing_in images (is_some o) opts
unfolding listing_in
symbols_of images None s opts e is = ap (λ (i : List ℕ). image_symbols i opts.sym_type opts.file_offset) is.image
symbols_of images (Some d) s opts e is = absurd cc

pub returns-in-None-clause-shows : goal.returns-in-None-clause-shows
returns-in-None-clause-shows g c =
    let P : Listing → Type 0 = λ l. ShowsAll l (g.V.Visit.shown c.args.visit.now) (g.V.Visit.shown c.for_each-in-None.new.visit) (g.V.Visit.stopped c.for_each-in-None.new.visit) c.for_each-in-None.result in
    subst P (symbols_of (bundle_view c.args.bundle.now) c.args.debug.now c.args.parser.now c.args.opts.now c.in-None.is c.requires.parser) c.for_each-in-None.ensures.shows
