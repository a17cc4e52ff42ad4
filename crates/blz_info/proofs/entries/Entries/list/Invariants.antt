use Rattle.std.proofs.Common.{◌≡◌, ◌-◌}
use Rattle.std.specs.Prelude.{map}
use Rattle.blz_info.specs.Listing.{listed_view, rest_of}
use Rattle.blz_info.proofs.WalkSteps.{behind_front}
use Rattle.blz_info.proofs.entries.Entries.list.Given as goal

abbrev pub invariant-loop-listed : goal.invariant-loop-listed
invariant-loop-listed l = record {
  source : l.self.source ≡ l.fn.self.source;
  rest : behind_front (map listed_view l.listed.items) (rest_of l.self) ≡ rest_of l.fn.self;
}

abbrev pub decreases-loop-listed : goal.decreases-loop-listed
decreases-loop-listed l = l.self.source.end - l.self.place
