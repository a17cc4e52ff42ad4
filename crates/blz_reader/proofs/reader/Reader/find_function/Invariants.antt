use Rattle.std.proofs.Common.{◌≡◌, length}
use Rattle.blz_reader.specs.Filling.{Fills}
use Rattle.blz_reader.specs.Readers.{as_read}
use Rattle.blz_units.specs.UnitAnswers.{first_function, function_at}
use Rattle.blz_reader.proofs.reader.Reader.find_function.Given as goal

abbrev pub invariant-loop-number : goal.invariant-loop-number
invariant-loop-number g l = record {
  fills : Fills g.O.Orders.pair_places l.self l.fn.caches l.caches;
  rest : as_read l.self first_function l.addr l.units.left ≡ as_read l.self function_at l.addr;
}

abbrev pub decreases-loop-number : goal.decreases-loop-number
decreases-loop-number g l = length l.units.left
