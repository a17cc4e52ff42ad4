use Rattle.blz_resolver.proofs.DebugMarks.{marks_scan}
use Rattle.blz_resolver.proofs.FormatMarks.{gives_kinds}
use Rattle.blz_resolver.proofs.scan.symbolize.Goals as goal

pub returns-clause-kinds : goal.returns-clause-kinds
returns-clause-kinds g c = gives_kinds _ c.scanned.result _ (marks_scan _ _ _) c.scanned.ensures.value
