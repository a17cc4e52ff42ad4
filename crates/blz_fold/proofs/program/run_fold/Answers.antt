use Rattle.std.proofs.Common.{map, string_bytes}
use Rattle.blz_program.proofs.Ends.{HasOutcome-known, HasOutcome-made, nothing_failed}
use Rattle.blz_fold.proofs.MadeTexts.{found_is}
use Rattle.blz_fold.proofs.program.run_fold.Goals as goal

pub returns-clause-complete : goal.returns-clause-complete
returns-clause-complete g c contents told no_files no_out =
    HasOutcome-known c.finish.result _ _ _ _ _ _ _
    (HasOutcome-made c.finish.result c.made_of_words-made.result _ _ _ _ _ _ c.made_of_words-made.ensures.made c.finish.ensures.ended)
    (λ found finds. found_is contents _ (map string_bytes c.args.words.now) found told finds) (nothing_failed _ _ no_files) (λ failed. absurd (no_out failed))
