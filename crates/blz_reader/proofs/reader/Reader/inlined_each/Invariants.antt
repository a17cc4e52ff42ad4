use Rattle.std.proofs.Common.{◌≡◌, map, drop}
use Rattle.blz_model.specs.Part.{all_good}
use Rattle.blz_model.proofs.PartLemmas.{after_front}
use Rattle.blz_reader.specs.Filling.{Fills}
use Rattle.blz_reader.specs.SiteViews.{inlined_read, inlined_view}
use Rattle.blz_reader.proofs.reader.Reader.inlined_each.Given as goal

abbrev pub invariant-loop-call : goal.invariant-loop-call
invariant-loop-call g l = record {
  fills : Fills g.O.Orders.pair_places l.self l.fn.caches l.caches;
  rest : after_front (map inlined_view l.sites.items) (all_good (map (inlined_read l.self l.number) (drop l.call-index l.calls))) ≡ all_good (map (inlined_read l.self l.number) l.calls);
}
