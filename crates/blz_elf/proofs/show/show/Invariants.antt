use Rattle.std.proofs.Common.{◌≡◌, false, map, drop}
use Rattle.blz_elf.specs.Listings.{infos_of}
use Rattle.blz_symbols.specs.NameSteps.{named_view}
use Rattle.blz_elf.proofs.ListingSteps.{SoFar}
use Rattle.blz_elf.proofs.show.show.Given as goal

abbrev pub invariant-loop-named : goal.invariant-loop-named
invariant-loop-named g l = record {
  goes_on : g.V.Visit.stopped l.visit ≡ false;
  so_far : SoFar (infos_of l.image l.with_place (map named_view l.listed)) (infos_of l.image l.with_place (drop l.named-index (map named_view l.listed))) (g.V.Visit.shown l.fn.visit) (g.V.Visit.shown l.visit);
}
