use Rattle.std.proofs.Common.{◌≡◌, ◌++◌, drop}
use Rattle.blz_rows.specs.PrintedRows.{places_text}
use Rattle.blz_rows.proofs.text.places_text.Given as goal

abbrev pub invariant-loop-place : goal.invariant-loop-place
invariant-loop-place l = l.out.items ++ places_text (drop l.place-index l.places) ≡ places_text l.places
