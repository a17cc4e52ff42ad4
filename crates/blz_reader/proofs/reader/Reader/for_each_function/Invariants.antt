use Rattle.std.proofs.Common.{◌≡◌, false, length}
use Rattle.blz_reader.specs.Filling.{Fills}
use Rattle.blz_reader.specs.Readers.{reader_files, reader_table}
use Rattle.blz_reader.proofs.ListingSteps.{IsShown}
use Rattle.blz_reader.proofs.reader.Reader.for_each_function.Given as goal

abbrev pub invariant-loop-number : goal.invariant-loop-number
invariant-loop-number g l = record {
  fills : Fills g.O.Orders.pair_places l.self l.fn.caches l.caches;
  goes_on : g.W.VisitFunction.stopped l.visit ≡ false;
  so_far : IsShown (reader_files l.self) (reader_table l.self) (length (reader_table l.self).kept) l.number (g.W.VisitFunction.shown l.fn.visit) (g.W.VisitFunction.shown l.visit);
}
