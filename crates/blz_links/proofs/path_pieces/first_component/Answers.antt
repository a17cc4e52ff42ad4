use Rattle.std.proofs.Common.{sym, ◌∙◌, arith}
use Rattle.blz_links.proofs.PathLemmas.{pieces_from-nil}
use Rattle.blz_links.proofs.path_pieces.first_component.Goals as goal

pub returns-clause-value : goal.returns-clause-value
returns-clause-value c = sym c.loop-rest.invariant.same ∙ pieces_from-nil _ c.loop-rest.rest.now (grind arith)
