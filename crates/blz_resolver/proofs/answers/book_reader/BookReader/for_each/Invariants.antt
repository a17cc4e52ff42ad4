use Rattle.std.proofs.Common.{◌≡◌, false, length}
use Rattle.blz_index.specs.UnitsWarm.{units_table}
use Rattle.blz_resolver.specs.Reading.{book_of, Keeps}
use Rattle.blz_resolver.proofs.UnitsShown.{UnitsSoFar}
use Rattle.blz_resolver.proofs.answers.book_reader.BookReader.for_each.Given as goal

abbrev pub invariant-loop-unit : goal.invariant-loop-unit
invariant-loop-unit g l = record {
  goes_on : g.V.Visit.stopped l.visit ≡ false;
  ends : l.unit-end ≡ length (units_table l.fn.units).kept;
  keeps : Keeps l.self l.fn.units l.units;
  so_far : UnitsSoFar l.self.dwarf.texts (book_of l.self l.fn.units) l.asked l.unit (g.V.Visit.shown l.fn.visit) (g.V.Visit.shown l.visit);
}
