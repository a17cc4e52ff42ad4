use Rattle.blz_resolver.proofs.FormatMarks.{gives_kinds}
use Rattle.blz_rows.proofs.EntryMarks.{marks_found}
use Rattle.blz_rows.proofs.gather.found_rows.Goals as goal

pub returns-clause-kinds : goal.returns-clause-kinds
returns-clause-kinds g c = gives_kinds _ c.gathered.result _ (marks_found _ _ _) c.gathered.ensures
