use Rattle.std.proofs.Common.{subst}
use Rattle.std.proofs.lemmas.Result.{err_from_is_err_and}
use Rattle.blz_model.specs.Part.{Fails}
use Rattle.blz_elf.specs.Listings.{IsRefused}
use Rattle.blz_bundle.specs.Images.{ImageSet}
use Rattle.blz_inspector.specs.Entries.{Asked, Opened}
use Rattle.blz_inspector.specs.Names.{framed_if, listed_in}
use Rattle.blz_inspector.proofs.UseSteps.{frame_refused}
use Rattle.blz_inspector.proofs.entry.Entry.for_each.Goals as goal

pub returns-in_err-resolver-clause-shows : goal.returns-in_err-resolver-clause-shows
returns-in_err-resolver-clause-shows g c =
    let p = err_from_is_err_and c.from_residual.result c.from_residual.ensures.1 in
    let kind = c.in_err-resolver.field-0.0.kind in
    let P : Asked × Opened → Type 0 = λ v. IsRefused (listed_in v.0.debug_syms v.1.images) (g.V.Visit.shown c.args.visit.now) (g.V.Visit.shown c.args.visit.now) (g.V.Visit.stopped c.args.visit.now) kind in
    let Q : ImageSet → Type 0 = λ i. Fails kind (framed_if c.self.inside.debug_syms i) in
    rw (p.1, p.2) (subst P c.self.view_is (frame_refused c.self.inside.debug_syms c.self.inside.bundle kind _ _ (subst Q c.bundle-bundle.ensures c.in_err-resolver.ensures.frame) c.requires))
