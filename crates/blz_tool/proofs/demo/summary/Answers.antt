use Rattle.blz_resolver.proofs.FormatMarks.{gives_kinds}
use Rattle.blz_tool.proofs.Tallied.{marks_summary}
use Rattle.blz_tool.proofs.demo.summary.Goals as goal

pub returns-clause-kinds : goal.returns-clause-kinds
returns-clause-kinds g c = gives_kinds _ c.summed.result _ (marks_summary _) c.summed.ensures
