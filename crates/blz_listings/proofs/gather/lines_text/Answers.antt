use Rattle.std.proofs.lemmas.Result.{err_from_is_err_and}
use Rattle.blz_listings.proofs.Answered.{text_broken, text_found}
use Rattle.blz_listings.proofs.gather.lines_text.Goals as goal

pub returns-in_err-listing-clause-value : goal.returns-in_err-listing-clause-value
returns-in_err-listing-clause-value g c =
    let p = err_from_is_err_and c.from_residual.result c.from_residual.ensures.1 in
    rw (p.1, p.2) (text_broken _ _ _ c.in_err-listing.ensures.value)

pub returns-clause-value : goal.returns-clause-value
returns-clause-value g c = rw c.in_ok-into_text.ensures (text_found _ _ c.in_ok-listing.listing c.in_ok-listing.ensures.value)
