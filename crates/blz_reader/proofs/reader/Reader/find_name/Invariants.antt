use Rattle.std.proofs.Common.{length}
use Rattle.blz_reader.specs.Filling.{Fills}
use Rattle.blz_reader.specs.Readers.{reader_files, reader_table}
use Rattle.blz_reader.specs.UnitNames.{AllThere}
use Rattle.blz_reader.proofs.ListingSteps.{IsFound}
use Rattle.blz_reader.proofs.reader.Reader.find_name.Given as goal

abbrev pub invariant-loop-number : goal.invariant-loop-number
invariant-loop-number g l = record {
  fills : Fills g.O.Orders.pair_places l.self l.fn.caches l.caches;
  there : AllThere l.caches.units.items l.found.items;
  so_far : IsFound l.self.dwarf.now.texts (reader_files l.self) (reader_table l.self) l.name (length (reader_table l.self).kept) l.number l.found.items;
}
