use Rattle.std.proofs.Common.{◌≡◌, ◌++◌, drop}
use Rattle.blz_cover.specs.CoverText.{lines_text}
use Rattle.blz_cover.specs.Covers.{covered}
use Rattle.blz_cover.proofs.text.push_lines.Given as goal

abbrev pub invariant-loop-i : goal.invariant-loop-i
invariant-loop-i l = l.out.items ++ lines_text (drop l.i (covered l.cover.images l.cover.changes)) ≡ l.initial.out.items ++ lines_text (covered l.cover.images l.cover.changes)
