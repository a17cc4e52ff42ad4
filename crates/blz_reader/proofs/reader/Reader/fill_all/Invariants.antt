use Rattle.std.proofs.Common.{ℕ, ◌<◌}
use Rattle.std.specs.List.{slice_get}
use Rattle.blz_reader.specs.Filling.{Fills}
use Rattle.blz_units.specs.KeptParts.{AreFull}
use Rattle.blz_reader.proofs.reader.Reader.fill_all.Given as goal

abbrev pub invariant-loop-number : goal.invariant-loop-number
invariant-loop-number g l = record {
  fills : Fills g.O.Orders.pair_places l.self l.fn.caches l.caches;
  filled : (k : ℕ) → k < l.number → AreFull (slice_get l.caches.units.items k);
}
