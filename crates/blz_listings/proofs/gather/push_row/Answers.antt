use Rattle.std.proofs.lemmas.Result.{err_from_is_err_and}
use Rattle.blz_listings.proofs.RowSteps.{row_broken, row_put}
use Rattle.blz_listings.proofs.gather.push_row.Goals as goal

pub returns-in_err-path : goal.returns-in_err-path
returns-in_err-path c =
    let p = err_from_is_err_and c.from_residual.result c.from_residual.ensures.1 in
    rw (p.1, p.2) (row_broken _ _ _ _ _ c.in_err-path.ensures)

pub returns : goal.returns
returns c = rw c.in_ok-add.ensures (row_put _ _ c.args.row c.args.end c.in_ok-path.path.items c.in_ok-path.ensures)
