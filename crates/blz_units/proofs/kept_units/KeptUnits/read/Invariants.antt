use Rattle.std.proofs.Common.{◌≡◌, ◌-◌, length}
use Rattle.blz_model.specs.Reads.{◌>>=◌}
use Rattle.blz_info.specs.Contents.{section_view}
use Rattle.blz_entry.specs.Folds.{fold_maybe}
use Rattle.blz_info.specs.Headers.{headers_from}
use Rattle.blz_units.specs.BuiltUnits.{files_view}
use Rattle.blz_units.specs.KeptParts.{SideFits}
use Rattle.blz_units.specs.declared.built_units.Side.TheVariants.{File}
use Rattle.blz_units.specs.UnitLists.{EndBefore}
use Rattle.blz_units.specs.UnitTables.{with_unit, units_kept}
use Rattle.blz_units.proofs.kept_units.KeptUnits.read.Given as goal

abbrev pub invariant-loop-built : goal.invariant-loop-built
invariant-loop-built l = record {
  section : l.headers.section ≡ section_view l.dwarf.main.info;
  behind : EndBefore l.units.kept l.headers.place;
  built : SideFits (files_view l.dwarf) File l.units.kept l.built;
  rest : (headers_from (section_view l.dwarf.main.info) l.headers.place >>= fold_maybe (with_unit (files_view l.dwarf).main l.sets) l.units) ≡ units_kept (files_view l.dwarf).main l.sets;
}

abbrev pub decreases-loop-built : goal.decreases-loop-built
decreases-loop-built l = length l.headers.section.bytes - l.headers.place
