use Rattle.blz_resolver.proofs.FormatMarks.{gives_kinds}
use Rattle.blz_listings.proofs.FindMarks.{marks_find}
use Rattle.blz_listings.proofs.addresses.find_text.Goals as goal

pub returns-clause-kinds : goal.returns-clause-kinds
returns-clause-kinds g c = gives_kinds _ c.found_text.result _ (marks_find _ _ _) c.found_text.ensures
