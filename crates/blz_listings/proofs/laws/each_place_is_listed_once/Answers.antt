use Rattle.blz_listings.proofs.PlaceLaws.{listed_once}
use Rattle.blz_listings.proofs.laws.each_place_is_listed_once.Goals as goal

pub returns : goal.returns
returns c = listed_once
