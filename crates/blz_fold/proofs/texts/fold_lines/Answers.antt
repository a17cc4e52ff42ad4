use Rattle.std.proofs.Common.{◌∙◌}
use Rattle.blz_fold.specs.FoldedViews.{line_bytes}
use Rattle.blz_fold.specs.LineViews.{line_read}
use Rattle.blz_fold.specs.Numbered.{spelled}
use Rattle.blz_fold.proofs.MapSteps.{made_further}
use Rattle.blz_fold.proofs.texts.fold_lines.Goals as goal

pub loop-i-preserved : goal.loop-i-preserved
loop-i-preserved c =
    let names = c.in_ok-from_vec.ensures ∙ c.in_ok-texts_of.ensures in
    made_further line_bytes (spelled c.args.names.now) c.loop-i.folded.items _ c.push.new.self.items c.args.lines.now c.loop-i.i (line_read c.at-count.result) c.in_ok-push.ensures.items c.loop-i.invariant c.at-count.ensures (λ j. record { names = names j; count = c.at-count.result.1 })
