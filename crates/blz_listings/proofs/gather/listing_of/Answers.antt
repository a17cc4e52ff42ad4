use Rattle.blz_resolver.proofs.FormatMarks.{gives_kinds}
use Rattle.blz_listings.proofs.Answered.{marks_shown}
use Rattle.blz_listings.proofs.gather.listing_of.Goals as goal

pub returns-clause-kinds : goal.returns-clause-kinds
returns-clause-kinds g c = gives_kinds _ c.gathered.result _ (marks_shown _ _) c.gathered.ensures
