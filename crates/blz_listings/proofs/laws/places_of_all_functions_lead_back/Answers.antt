use Rattle.blz_listings.proofs.PlaceSteps.{all_lead_back}
use Rattle.blz_listings.proofs.laws.places_of_all_functions_lead_back.Goals as goal

pub returns : goal.returns
returns c = all_lead_back
