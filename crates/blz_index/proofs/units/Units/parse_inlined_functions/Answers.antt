use Rattle.std.proofs.Common.{sym}
use Rattle.std.proofs.lemmas.Result.{err_from_is_err_and}
use Rattle.blz_reader.proofs.LentParts.{calls_refused, not_none}
use Rattle.blz_index.proofs.units.Units.parse_inlined_functions.Goals as goal

pub returns-in_err-fill_inlined_functions : goal.returns-in_err-fill_inlined_functions
returns-in_err-fill_inlined_functions g c =
    let p = err_from_is_err_and c.from_residual.result c.from_residual.ensures.1 in
    rw (p.1, p.2) (calls_refused _ _ c.in_err-fill_inlined_functions.ensures.value)

pub unreachable-requires : goal.unreachable-requires
unreachable-requires g c = not_none _ c.in_ok-fill_inlined_functions.ensures.there (sym c.in-None.ensures.kept)
