use Rattle.std.proofs.Common.{refl}
use Rattle.blz_info.proofs.Marked.{good_some}
use Rattle.blz_units.specs.BuiltUnits.{files_view}
use Rattle.blz_units.specs.TableViews.{table_view}
use Rattle.blz_units.specs.UnitTables.{units_of}
use Rattle.blz_index.proofs.ColdSteps.{cold_fits}
use Rattle.blz_index.proofs.units.Units.parse.Goals as goal

pub returns-clause-fits : goal.returns-clause-fits
returns-clause-fits g c =
    let f = files_view c.args.dwarf.now in
    let t = table_view c.in-Ok.read.0 in
    record { table = good_some (units_of f) t c.in-Ok.ensures.table; caches = cold_fits f t _ _ _ c.in_ok-caches.caches c.in-Ok.ensures.fits c.len.ensures c.len-2.ensures c.in_ok-caches.ensures; full = λ e. absurd cc }

pub returns-clause-cold : goal.returns-clause-cold
returns-clause-cold g c = record {
  prepared = refl;
  functions = λ k. (c.in_ok-caches.ensures.units_empty k).functions;
  lines = λ k. (c.in_ok-caches.ensures.units_empty k).lines;
  calls = λ k n. (c.in_ok-caches.ensures.units_empty k).calls n;
}
