use Rattle.std.proofs.Common.{refl, sym, ◌∙◌, subst}
use Rattle.blz_elf.specs.Listings.{Listing, ShowsAll}
use Rattle.blz_elf.proofs.ListingLemmas.{refused_first}
use Rattle.blz_bundle.specs.BundleViews.{bundle_view}
use Rattle.blz_resolver.specs.declared.answers.book_reader.BookReader.{BookReader}
use Rattle.blz_resolver.proofs.ReadBooks.{IsReaderOf, listing_read, no_variables}
use Rattle.blz_resolver.proofs.debug.debug_info.DebugInfo.for_each.Goals as goal

pub returns-then-is_variable-clause-shows : goal.returns-then-is_variable-clause-shows
returns-then-is_variable-clause-shows g c =
    rw (no_variables (bundle_view c.args.bundle.now) c.args.opts.now (sym c.is_variable.ensures ∙ c.if-is_variable.true), c.unsupported.ensures) (refused_first _ _ _ c.requires.goes_on)

pub returns-clause-shows : goal.returns-clause-shows
returns-clause-shows g c =
    let reader : BookReader = record { bundle = c.args.bundle.now; dwarf = c.dwarf.result } in
    let is : IsReaderOf (bundle_view c.args.bundle.now) c.args.self.now reader = record { bundle = refl; files = c.dwarf.ensures.view; readable = c.dwarf.ensures.readable } in
    let P : Listing → Type 0 = λ l. ShowsAll l (g.V.Visit.shown c.args.visit.now) (g.V.Visit.shown c.for_each.new.visit) (g.V.Visit.stopped c.for_each.new.visit) c.for_each.result in
    subst P (sym (listing_read (bundle_view c.args.bundle.now) c.args.self.now reader c.args.opts.now c.requires.fits is (sym c.is_variable.ensures ∙ c.if-is_variable.false))) c.for_each.ensures.shows
