use Rattle.std.proofs.Common.{◌∙◌, inr, refl}
use Rattle.blz_tool.proofs.Found.{not_true}
use Rattle.blz_tool.proofs.command_line.matches_for.Goals as goal

pub returns : goal.returns
returns c = record {
  ok = tt;
  err = inr (refl, not_true _ (λ taken. c.in_default.not-OutOfMemory (c.kind.ensures ∙ c.in-Err.ensures.err taken)));
}
