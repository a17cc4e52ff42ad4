use Rattle.std.proofs.Common.{List, Bor, ap, map, string_bytes, ◌∙◌}
use Rattle.blz_error.specs.Texts.{Bytes}
use Rattle.blz_tool.specs.CommandLine.{named}
use Rattle.blz_tool.proofs.Found.{made_of_same}
use Rattle.blz_tool.proofs.program.made_of_words.Goals as goal

pub returns-in-Ok-clause-made : goal.returns-in-Ok-clause-made
returns-in-Ok-clause-made g c =
    made_of_same c.made_of_named.result (map (λ w. w.now) c.deref.result.now) (named (map string_bytes c.args.words.now)) _ _
    (ap (λ (given : List (Bor Bytes)). map (λ w. w.now) given) c.deref.ensures.value ∙ c.in-Ok.ensures) c.made_of_named.ensures.made
