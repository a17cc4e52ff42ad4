use Rattle.blz_program.proofs.Ends.{HasOutcome-known, HasOutcome-made, nothing_failed}
use Rattle.blz_listings.proofs.FoundCauses.{found_known}
use Rattle.blz_listings.proofs.running.run_question.Goals as goal

pub returns-clause-complete : goal.returns-clause-complete
returns-clause-complete g c contents told no_files no_out =
    HasOutcome-known c.finish.result _ _ _ _ _ _ _
    (HasOutcome-made c.finish.result c.made-made.result _ _ _ _ _ _ c.made-made.ensures.made c.finish.ensures.ended)
    (λ found finds. found_known _ contents _ found told finds) (nothing_failed _ _ no_files) (λ failed. absurd (no_out failed))
