use Rattle.std.proofs.lemmas.Result.{err_from_is_err_and}
use Rattle.blz_line.proofs.UnitFiles.{lines_fail, lines_good}
use Rattle.blz_units.proofs.shared.shared_programs.SharedPrograms.lines.Goals as goal

pub returns-in_err-program-clause-value : goal.returns-in_err-program-clause-value
returns-in_err-program-clause-value g c =
    let p = err_from_is_err_and c.from_residual.result c.from_residual.ensures.1 in
    rw (p.1, p.2, c.in-Some.is) (lines_fail c.args.sections.now c.args.header.now c.args.root.now c.in-Some.at _ c.in_err-program.ensures.value)

pub returns-clause-value : goal.returns-clause-value
returns-clause-value g c = rw (c.in-Some.is, c.of_unit.ensures.table) (lines_good c.args.sections.now c.args.header.now c.args.root.now c.in-Some.at c.in_ok-program.program.table c.in_ok-program.ensures.value)
