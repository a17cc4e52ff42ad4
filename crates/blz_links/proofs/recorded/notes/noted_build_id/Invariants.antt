use Rattle.std.proofs.Common.{◌≡◌, ◌-◌, length}
use Rattle.blz_links.specs.Notes.{build_id_among, notes_from, notes_of}
use Rattle.blz_links.proofs.recorded.notes.noted_build_id.Given as goal

abbrev pub invariant-loop : goal.invariant-loop
invariant-loop l = build_id_among (notes_from (length l.bytes - l.counter) l.order l.bytes l.at) ≡ build_id_among (notes_of l.order l.bytes)
