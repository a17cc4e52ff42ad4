use Rattle.std.proofs.Common.{◌++◌, ap}
use Rattle.blz_program.proofs.Written.{front_before}
use Rattle.blz_program.specs.PrintedText.{line_feed}
use Rattle.blz_program.proofs.outcome.write_line.Goals as goal

pub returns-in_err-write_all-clause-err : goal.returns-in_err-write_all-clause-err
returns-in_err-write_all-clause-err g c =
    front_before c.from_residual.result _ _ _ line_feed _ c.in_err-write_all.ensures.err
    (ap (λ l. l ++ line_feed) c.as_bytes.ensures.value)
