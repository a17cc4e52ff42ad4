use Rattle.std.proofs.Common.{◌≡◌, ◌++◌, drop}
use Rattle.blz_listings.specs.SourcePlaces.{counts_text}
use Rattle.blz_listings.proofs.place_table.PlaceTable.text.Given as goal

abbrev pub invariant-loop-index : goal.invariant-loop-index
invariant-loop-index l = l.out.items ++ counts_text (drop l.index l.self) ≡ counts_text l.self
