use Rattle.blz_resolver.proofs.FormatMarks.{gives_kinds}
use Rattle.blz_resolver.proofs.DebugMarks.{marks_answer}
use Rattle.blz_resolver.proofs.resolver.ElfResolver.find_sym.Goals as goal

pub returns-clause-kinds : goal.returns-clause-kinds
returns-clause-kinds g c = gives_kinds _ c.find_sym.result _ (marks_answer _ _ _ _) c.find_sym.ensures.value
