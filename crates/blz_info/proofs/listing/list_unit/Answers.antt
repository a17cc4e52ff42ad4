use Rattle.std.proofs.Common.{subst, ap, ◌∙◌}
use Rattle.std.specs.Prelude.{map}
use Rattle.blz_model.specs.Part.{Gives}
use Rattle.blz_info.specs.Listing.{listed_view, rest_of}
use Rattle.blz_info.specs.Marks.{or_invalid}
use Rattle.blz_info.proofs.WalkSteps.{Listing, unit_listed, walk_made}
use Rattle.blz_info.proofs.listing.list_unit.Goals as goal

pub returns : goal.returns
returns c =
    let P : Listing → Type 0 = λ o. Gives (λ v. map listed_view v.items) c.list.result (or_invalid o) in
    subst P (ap rest_of (walk_made _ _ c.in_ok-entries.entries c.in_ok-entries.ensures) ∙ unit_listed c.args.sections c.args.header c.args.abbreviations.now c.args.header.entries) c.list.ensures
