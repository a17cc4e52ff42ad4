use Rattle.std.proofs.Common.{◌∙◌, ap}
use Rattle.std.specs.Option.{unwrap_or}
use Rattle.blz_listings.proofs.TableSteps.{table_tallies}
use Rattle.blz_listings.proofs.place_table.PlaceTable.add.Goals as goal

pub returns : goal.returns
returns c =
    let is = c.unwrap_or-before.ensures ∙ ap (λ o. unwrap_or o 0) (c.copied.ensures ∙ c.get.ensures.value) in
    table_tallies c.self.inside.counts.entries c.insert.new.self.entries c.args.key c.args.self.now c.unwrap_or-before.result c.self.view_is is c.in_ok-insert.ensures.entries
