use Rattle.std.proofs.Common.{◌≡◌, ◌-◌, length}
use Rattle.blz_model.specs.Reads.{◌>>=◌}
use Rattle.blz_info.specs.Contents.{section_view}
use Rattle.blz_info.specs.Headers.{headers_from}
use Rattle.blz_units.specs.UnitLists.{EndBefore}
use Rattle.blz_units.specs.UnitTables.{units_in}
use Rattle.blz_units.proofs.HeaderSteps.{with_units}
use Rattle.blz_units.proofs.unit_table.units_in.Given as goal

abbrev pub invariant-loop-units : goal.invariant-loop-units
invariant-loop-units l = record {
  section : l.headers.section ≡ section_view l.fn.info;
  behind : EndBefore l.units l.headers.place;
  rest : (headers_from (section_view l.fn.info) l.headers.place >>= with_units l.units) ≡ units_in (section_view l.fn.info);
}

abbrev pub decreases-loop-units : goal.decreases-loop-units
decreases-loop-units l = length l.headers.section.bytes - l.headers.place
