use Rattle.std.proofs.Common.{◌++◌, ◌∙◌, codes, decimal, ap}
use Rattle.blz_program.proofs.Written.{append_five, front_before, front_behind}
use Rattle.blz_program.specs.PrintedText.{line_feed}
use Rattle.blz_program.specs.Outcomes.{fault_text}
use Rattle.blz_program.specs.Programs.{texts_of}
use Rattle.blz_program.proofs.outcome.write_bad_line.Goals as goal

pub returns-in_err-write_all-clause-err : goal.returns-in_err-write_all-clause-err
returns-in_err-write_all-clause-err g c =
    front_before c.from_residual.result _ _ _ (codes ": line " ++ decimal c.args.line ++ codes ": " ++ (fault_text (texts_of c.args.program.now) c.args.fault) ++ line_feed) _ c.in_err-write_all.ensures.err
    (ap (λ l. l ++ (codes ": line " ++ decimal c.args.line ++ codes ": " ++ (fault_text (texts_of c.args.program.now) c.args.fault) ++ line_feed)) c.as_bytes.ensures.value ∙ append_five c.args.program.now.name.now (codes ": line ") (decimal c.args.line) (codes ": ") (fault_text (texts_of c.args.program.now) c.args.fault) line_feed)

pub returns-clause-err : goal.returns-clause-err
returns-clause-err g c =
    front_behind c.write_place.result _ _ _ _ _ _ c.in_ok-write_all.ensures.ok c.write_place.ensures.err
    (ap (λ l. l ++ (codes ": line " ++ decimal c.args.line ++ codes ": " ++ c.fault_text.result.now ++ line_feed)) c.as_bytes.ensures.value ∙ append_five c.args.program.now.name.now (codes ": line ") (decimal c.args.line) (codes ": ") c.fault_text.result.now line_feed
    ∙ ap (λ t. c.args.program.now.name.now ++ codes ": line " ++ decimal c.args.line ++ codes ": " ++ t ++ line_feed) c.fault_text.ensures)
