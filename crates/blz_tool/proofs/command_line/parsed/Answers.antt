use Rattle.std.proofs.Common.{ap, ◌∙◌, map}
use Rattle.std.proofs.lemmas.Result.{IfErr-weaker}
use Rattle.clap.specs.Words.{App, takes}
use Rattle.blz_tool.proofs.command_line.parsed.Goals as goal

pub returns-clause-err : goal.returns-clause-err
returns-clause-err c =
    IfErr-weaker c.try_get_matches_from.result _ _ (λ e h taken. h (ap (λ (a : App). takes a (map (λ s. s.now) c.args.words.now)) c.in_ok-wanted.ensures ∙ taken)) c.try_get_matches_from.ensures.passes
