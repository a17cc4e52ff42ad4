use Rattle.blz_listings.proofs.PlaceLaws.{counts_sum}
use Rattle.blz_listings.proofs.laws.counts_sum_to_the_entries_with_a_line.Goals as goal

pub returns : goal.returns
returns c = counts_sum
