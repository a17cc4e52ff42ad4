use Rattle.std.proofs.Common.{◌≡◌, take}
use Rattle.std.specs.List.{fold}
use Rattle.blz_image.specs.RelocationTables.{put_entry}
use Rattle.blz_image.proofs.relocations.relocating.put_entries.Given as goal

abbrev pub invariant-loop-i : goal.invariant-loop-i
invariant-loop-i l = l.map ≡ fold (put_entry l.symbols l.target) l.fn.map (take l.i l.entries)
