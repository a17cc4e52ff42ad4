use Rattle.blz_resolver.proofs.DebugMarks.{marks_frame}
use Rattle.blz_resolver.proofs.FormatMarks.{if_err_from, memory_or_format}
use Rattle.blz_resolver.proofs.resolver.ElfResolver.from_bundle.Goals as goal

pub returns-in_err-debug-clause-kinds : goal.returns-in_err-debug-clause-kinds
returns-in_err-debug-clause-kinds g c =
    if_err_from c.from_residual.result _ _ c.from_residual.ensures.1
    (λ e is. rw is (memory_or_format _ _ (marks_frame _) c.in_err-debug.ensures.frame))
