use Rattle.std.proofs.lemmas.Result.{err_from_is_err_and}
use Rattle.blz_rows.proofs.Answered.{next_found, next_broken}
use Rattle.blz_rows.proofs.questions.next_line.Goals as goal

pub returns-in_err-found-clause-value : goal.returns-in_err-found-clause-value
returns-in_err-found-clause-value g c =
    let p = err_from_is_err_and c.from_residual.result c.from_residual.ensures.1 in
    rw (p.1, p.2) (next_broken _ _ _ _ c.in_err-found.ensures.value)

pub returns-clause-value : goal.returns-clause-value
returns-clause-value g c = rw (c.least_line.ensures, c.deref.ensures.value) (next_found _ _ _ c.in_ok-found.found.items c.in_ok-found.ensures.value)
