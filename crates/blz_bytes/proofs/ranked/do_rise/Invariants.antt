use Rattle.std.proofs.Common.{◌≡◌, ◌<◌, None, drop, IfSome}
use Rattle.blz_bytes.specs.Rising.{rises}
use Rattle.blz_bytes.proofs.ranked.do_rise.Given as goal

abbrev pub invariant-loop-place : goal.invariant-loop-place
invariant-loop-place g l = record {
  below : IfSome l.previous (λ p. p < g.L.Ranked.count l.list);
  rest : rises (g.L.Ranked.before l.list) (g.L.Ranked.count l.list) l.previous (drop l.place-index l.places) ≡ rises (g.L.Ranked.before l.list) (g.L.Ranked.count l.list) None l.places;
}
