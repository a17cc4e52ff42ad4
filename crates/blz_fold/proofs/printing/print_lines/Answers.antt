use Rattle.blz_fold.specs.FoldTexts.{line_text}
use Rattle.blz_fold.specs.LineViews.{line_read}
use Rattle.blz_fold.specs.Numbered.{spelled}
use Rattle.blz_fold.proofs.PrintSteps.{printed_further}
use Rattle.blz_fold.proofs.printing.print_lines.Goals as goal

pub loop-i-preserved : goal.loop-i-preserved
loop-i-preserved c = printed_further line_text (spelled c.args.names.now) c.args.lines.now c.loop-i.i (line_read c.at-count.result) c.loop-i.out.items c.push_line.new.out.items c.in_ok-push_line.ensures c.loop-i.invariant c.at-count.ensures
