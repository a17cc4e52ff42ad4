use Rattle.std.proofs.Common.{◌≡◌, false, map, drop}
use Rattle.blz_elf.specs.Listings.{listing_of}
use Rattle.blz_elf.proofs.ListingSteps.{SoFar}
use Rattle.blz_bundle.specs.BundleViews.{bundle_view}
use Rattle.blz_resolver.specs.FunctionNames.{function_info, named_only}
use Rattle.blz_resolver.proofs.answers.book_reader.BookReader.show.Given as goal

abbrev pub invariant-loop-function : goal.invariant-loop-function
invariant-loop-function g l =
    let f = function_info l.self.dwarf.texts (bundle_view l.self.bundle) l.asked in
    record {
      goes_on : g.V.Visit.stopped l.visit ≡ false;
      so_far : SoFar (listing_of (map f (named_only l.functions))) (listing_of (map f (named_only (drop l.function-index l.functions)))) (g.V.Visit.shown l.fn.visit) (g.V.Visit.shown l.visit);
    }
