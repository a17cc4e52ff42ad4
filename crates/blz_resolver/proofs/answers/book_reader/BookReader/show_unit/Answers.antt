use Rattle.std.proofs.lemmas.Result.{err_from_is_err_and}
use Rattle.blz_units.specs.BuiltUnits.{files_view}
use Rattle.blz_units.specs.UnitAnswers.{unit_functions}
use Rattle.blz_index.specs.UnitsWarm.{units_table}
use Rattle.blz_bundle.specs.BundleViews.{bundle_view}
use Rattle.blz_resolver.proofs.ListedUnits.{unit_broken}
use Rattle.blz_resolver.proofs.answers.book_reader.BookReader.show_unit.Goals as goal

pub returns-in_err-fill_functions-clause-shows : goal.returns-in_err-fill_functions-clause-shows
returns-in_err-fill_functions-clause-shows g c =
    let r = c.args.self.now in
    let functions = unit_functions (files_view r.dwarf) (units_table c.args.units.now) c.args.unit in
    let p = err_from_is_err_and c.from_residual.result c.from_residual.ensures.1 in
    rw (p.1, p.2) (unit_broken r.dwarf.texts (bundle_view r.bundle) c.args.asked functions _ _ _ c.in_err-fill_functions.ensures.value c.requires.goes_on)
