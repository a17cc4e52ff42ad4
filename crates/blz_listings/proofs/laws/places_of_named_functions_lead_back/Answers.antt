use Rattle.blz_listings.proofs.PlaceSteps.{named_lead_back}
use Rattle.blz_listings.proofs.laws.places_of_named_functions_lead_back.Goals as goal

pub returns : goal.returns
returns c = named_lead_back
