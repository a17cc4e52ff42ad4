use Rattle.std.proofs.Common.{Option, Some, option_map, subst}
use Rattle.blz_relocations.specs.Relocations.{SectionMap}
use Rattle.blz_bundle.specs.BundleViews.{companion_view}
use Rattle.blz_resolver.specs.WarmFits.{SupFits}
use Rattle.blz_bundle.specs.declared.bundle.Companion.{Companion}
use Rattle.blz_resolver.proofs.WarmBooks.{sup_with, without_moves}
use Rattle.blz_resolver.proofs.warm.sup_again.Goals as goal

pub sup_with-requires : goal.sup_with-requires
sup_with-requires c =
    let P : Option Companion → Type 0 = λ o. SupFits (option_map companion_view o) c.args.relocations in
    let Q : Option SectionMap → Type 0 = λ m. SupFits (Some (companion_view c.in-Some.file)) m in
    sup_with _ _ (subst Q c.in-Some-relocations.is (subst P c.in-Some.is c.requires))

pub returns-in-None : goal.returns-in-None
returns-in-None c =
    let Q : Option SectionMap → Type 0 = λ m. SupFits (option_map companion_view c.args.file.now) m in
    without_moves _ (subst Q c.in-None.is c.requires)
