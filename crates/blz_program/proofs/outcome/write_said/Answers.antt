use Rattle.std.proofs.Common.{◌++◌, codes, refl}
use Rattle.blz_program.proofs.Written.{front_before, front_behind}
use Rattle.blz_program.specs.PrintedText.{line_feed}
use Rattle.blz_program.proofs.outcome.write_said.Goals as goal

pub returns-in_err-write_all-clause-err : goal.returns-in_err-write_all-clause-err
returns-in_err-write_all-clause-err g c =
    front_before c.from_residual.result _ _ (codes ": ") (c.args.text.now ++ line_feed) _ c.in_err-write_all.ensures.err
    refl

pub returns-clause-err : goal.returns-clause-err
returns-clause-err g c =
    front_behind c.write_line.result _ _ _ (codes ": ") _ _ c.in_ok-write_all.ensures.ok c.write_line.ensures.err
    refl
