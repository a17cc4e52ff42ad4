use Rattle.std.proofs.Common.{arith}
use Rattle.std.proofs.lemmas.List.{append_assoc}
use Rattle.blz_cover.specs.Covers.{covered}
use Rattle.blz_cover.proofs.Texts.{lines_text-drop}
use Rattle.blz_cover.proofs.text.push_lines.Goals as goal

pub loop-i-preserved : goal.loop-i-preserved
loop-i-preserved c =
    let lines = covered c.args.cover.now.images c.args.cover.now.changes in
    grind (arith, append_assoc, lines_text-drop lines c.loop-i.i, c.loop-i.invariant, c.in_ok-push_line_at.ensures)
