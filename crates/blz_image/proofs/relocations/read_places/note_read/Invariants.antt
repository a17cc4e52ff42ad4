use Rattle.std.proofs.Common.{◌≡◌, ℕ, ◌+◌, ◌*◌, ◌<◌, ◌≤◌, Bool, true}
use Rattle.blz_image.specs.ReadPlaces.{AllRead}
use Rattle.blz_image.proofs.relocations.read_places.note_read.Given as goal

abbrev pub invariant-loop-end : goal.invariant-loop-end
invariant-loop-end l = (l.end ≤ l.rows.count) × ((is_read : ℕ → Bool) → AllRead l.size is_read l.fn.read → ((k : ℕ) → k < l.rows.count → is_read (l.rows.at + l.size * k) ≡ true) → AllRead l.size is_read l.read)

abbrev pub decreases-loop-end : goal.decreases-loop-end
decreases-loop-end l = l.end
