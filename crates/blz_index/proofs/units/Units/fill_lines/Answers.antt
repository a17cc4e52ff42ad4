use Rattle.std.proofs.Common.{refl}
use Rattle.blz_units.specs.BuiltUnits.{files_view}
use Rattle.blz_index.specs.UnitsWarm.{units_table}
use Rattle.blz_index.proofs.LentLines.{lines_filled}
use Rattle.blz_index.proofs.UnitsAgain.{leaves_more}
use Rattle.blz_index.proofs.units.Units.fill_lines.Goals as goal

pub returns-clause-there : goal.returns-clause-there
returns-clause-there g c =
    let f = files_view c.args.dwarf.now in
    lines_filled f (units_table c.args.self.now) _ c.args.unit c.fill_lines.result c.fill_lines.ensures.fills.fillable.fits.units c.requires.there c.fill_lines.ensures.filled

pub returns-clause-leaves : goal.returns-clause-leaves
returns-clause-leaves g c = leaves_more _ _ _ _ _ c.requires.asked c.fill_lines.ensures.fills refl refl
