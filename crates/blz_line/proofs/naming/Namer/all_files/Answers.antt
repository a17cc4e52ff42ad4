use Rattle.std.proofs.Common.{sym, ◌∙◌, arith}
use Rattle.std.proofs.lemmas.Result.{err_from_is_err_and}
use Rattle.blz_line.proofs.ProgramSteps.{fails_none}
use Rattle.blz_line.proofs.TableSteps.{or_mark_some}
use Rattle.blz_line.proofs.AllFiles.{files_start, files_fail, files_more, files_none, files_end}
use Rattle.blz_line.proofs.naming.Namer.all_files.Goals as goal

pub returns-in_err-files : goal.returns-in_err-files
returns-in_err-files c =
    let p = err_from_is_err_and c.from_residual.result c.from_residual.ensures.1 in
    rw (p.1, p.2) (files_fail _ _ _ _ _ c.parts-repeated.ensures c.in_err-files.ensures)

pub loop-entry-init : goal.loop-entry-init
loop-entry-init c = files_start _ _ _ _ _ c.parts-repeated.ensures c.in_ok-files.ensures

pub returns-in_default : goal.returns-in_default
returns-in_default c = fails_none _ _ c.broken.ensures (sym c.loop-entry.invariant ∙ files_none _ _ c.loop-entry.entry-index _ _ (omega arith) (sym c.in_ok-file.ensures ∙ c.in_default.is))

pub loop-entry-preserved : goal.loop-entry-preserved
loop-entry-preserved c = rw c.in_ok-push.ensures.added (sym (files_more _ _ c.loop-entry.entry-index _ _ c.in-Some.file (omega arith) (sym c.in_ok-file.ensures ∙ c.in-Some.is)) ∙ c.loop-entry.invariant)

pub returns : goal.returns
returns c = or_mark_some _ _ (sym c.loop-entry.invariant ∙ files_end _ _ c.loop-entry.entry-index _ (omega arith))
