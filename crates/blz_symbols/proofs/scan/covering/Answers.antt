use Rattle.std.proofs.Common.{◌≡◌, ◌<◌, None, take, filter, length, ap, ◌∙◌, arith}
use Rattle.std.specs.Option.{option_map}
use Rattle.blz_symbols.specs.SymbolRule.{answers, is_candidate, larger, largest}
use Rattle.blz_image.proofs.Folds.{fold_takes, fold_keeps}
use Rattle.blz_symbols.proofs.Leading.{best_so_far, covering_is, greater_more, not_below}
use Rattle.blz_symbols.proofs.scan.covering.Goals.{then-answers, else-answers}
use Rattle.blz_symbols.proofs.scan.covering.Goals as goal

pub loop-i-preserved : goal.loop-i-preserved
loop-i-preserved c =
    let q = c.args.question.now in
    let xs = c.args.symbols.now in
    let lt : c.loop-i.i < length xs = omega (arith, c.len-i-end.ensures) in
    let up = not_below (is_candidate q.addr c.at-symbol.result) c.loop-i.greatest c.at-symbol.result.value c.greater-greatest.result c.greater-greatest.ensures in
    let best : c.still_best-best.result ≡ largest (filter (answers q c.greater-greatest.result) (take c.loop-i.i xs)) =
    best_so_far q (take c.loop-i.i xs) c.loop-i.greatest c.greater-greatest.result c.loop-i.best c.still_best-best.result c.loop-i.invariant.greatest up c.loop-i.invariant.best c.still_best-best.ensures in
    record {
      greatest = greater_more q.addr xs c.loop-i.i c.at-symbol.result c.loop-i.greatest c.greater-greatest.result lt c.at-symbol.ensures c.loop-i.invariant.greatest c.greater-greatest.ensures;
      best = elim c.if-answers.branch [
        | then-answers w ↦ fold_takes larger None (answers q c.greater-greatest.result) xs c.loop-i.i _ _ _ lt c.at-symbol.ensures w.if-answers.ensures best (w.best-is ∙ w.larger-best.ensures)
        | else-answers w ↦ fold_keeps larger None (answers q c.greater-greatest.result) xs c.loop-i.i _ _ _ lt c.at-symbol.ensures w.if-answers.ensures best w.best-is
      ];
    }

pub returns : goal.returns
returns c = covering_is c.args.question.now c.args.symbols.now c.loop-i.i _ _ (omega (arith, c.len-i-end.ensures)) c.loop-i.invariant.greatest c.loop-i.invariant.best
