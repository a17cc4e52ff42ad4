use Rattle.blz_reader.specs.Filling.{Fills, HasFirstCalls}
use Rattle.blz_reader.proofs.reader.Reader.fill_first_calls.Given as goal

abbrev pub invariant-loop-function : goal.invariant-loop-function
invariant-loop-function g l = record {
  fills : Fills g.O.Orders.pair_places l.self l.fn.caches l.caches;
  filled : HasFirstCalls l.function l.caches l.number;
}
