use Rattle.std.proofs.lemmas.Result.{err_from_is_err_and}
use Rattle.blz_rows.proofs.Answered.{places_found, places_broken}
use Rattle.blz_rows.proofs.questions.rows_of.Goals as goal

pub returns-in_err-found-clause-value : goal.returns-in_err-found-clause-value
returns-in_err-found-clause-value g c =
    let p = err_from_is_err_and c.from_residual.result c.from_residual.ensures.1 in
    rw (p.1, p.2) (places_broken _ _ _ _ c.in_err-found.ensures.value)

pub returns-clause-value : goal.returns-clause-value
returns-clause-value g c = rw (c.from_vec.ensures, c.in_ok-places.ensures, c.deref.ensures.value) (places_found _ _ _ c.in_ok-found.found.items c.in_ok-found.ensures.value)
