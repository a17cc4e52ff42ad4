use Rattle.std.proofs.Common.{◌≡◌, length}
use Rattle.blz_reader.specs.Filling.{Fills}
use Rattle.blz_reader.specs.Readers.{as_texts_tell}
use Rattle.blz_units.specs.UnitSites.{first_line, location_at}
use Rattle.blz_reader.proofs.reader.Reader.find_location.Given as goal

abbrev pub invariant-loop-number : goal.invariant-loop-number
invariant-loop-number g l = record {
  fills : Fills g.O.Orders.pair_places l.self l.fn.caches l.caches;
  rest : as_texts_tell l.self first_line l.addr l.units.left ≡ as_texts_tell l.self location_at l.addr;
}

abbrev pub decreases-loop-number : goal.decreases-loop-number
decreases-loop-number g l = length l.units.left
