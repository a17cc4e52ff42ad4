use Rattle.std.proofs.Common.{◌≡◌, map}
use Rattle.blz_links.specs.BuildIds.{first_build_id}
use Rattle.blz_links.proofs.recorded.build_id.first_build_id.Given as goal

abbrev pub invariant-loop-record : goal.invariant-loop-record
invariant-loop-record g l = first_build_id l.order l.image (map g.T.HasNotes.notes l.record-iterator) ≡ first_build_id l.order l.image (map g.T.HasNotes.notes l.records)
