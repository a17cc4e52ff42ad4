use Rattle.std.proofs.Common.{◌++◌, ◌∙◌, codes, ap}
use Rattle.blz_program.proofs.Written.{append_three, front_before, front_behind}
use Rattle.blz_program.specs.PrintedText.{line_feed}
use Rattle.blz_program.proofs.outcome.write_refusal.Goals as goal

pub returns-in_err-write_all-clause-err : goal.returns-in_err-write_all-clause-err
returns-in_err-write_all-clause-err g c =
    front_before c.from_residual.result _ _ _ (codes ": " ++ c.args.text.now ++ line_feed) _ c.in_err-write_all.ensures.err
    (ap (λ l. l ++ (codes ": " ++ c.args.text.now ++ line_feed)) c.as_bytes.ensures.value ∙ append_three c.args.program.now.name.now (codes ": ") c.args.text.now line_feed)

pub returns-clause-err : goal.returns-clause-err
returns-clause-err g c =
    front_behind c.write_said.result _ _ _ _ _ _ c.in_ok-write_all.ensures.ok c.write_said.ensures.err
    (ap (λ l. l ++ (codes ": " ++ c.args.text.now ++ line_feed)) c.as_bytes.ensures.value ∙ append_three c.args.program.now.name.now (codes ": ") c.args.text.now line_feed)
