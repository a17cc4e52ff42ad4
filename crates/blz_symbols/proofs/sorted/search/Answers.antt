use Rattle.std.proofs.Common.{◌∙◌, Some, map, sym, ap, arith}
use Rattle.blz_symbols.specs.SymbolRule.{may_answer}
use Rattle.blz_symbols.specs.Accepted.{at_place}
use Rattle.blz_symbols.proofs.Search.{nothing_below, search_found, search_none, none_more}
use Rattle.blz_symbols.proofs.sorted.search.Goals as goal

pub returns-then-end-eq0 : goal.returns-then-end-eq0
returns-then-end-eq0 c = nothing_below _ _ _ _ c.requires.accepted c.count_up_to-end.ensures c.if-end-eq0.true

pub returns-then-may_be_answered : goal.returns-then-may_be_answered
returns-then-may_be_answered c = ap Some c.symbol_at_place-symbol.ensures ∙ search_found c.args.typed.now c.args.places.now c.args.question.now c.count_up_to-end.result c.count_below-begin.result c.loop-k.k
    (record { accepted = c.requires.accepted; typed = c.requires.typed; up_to = c.count_up_to-end.ensures; some = omega arith; below = rw (← c.symbol_at_place-greatest.ensures) c.count_below-begin.ensures })
    c.loop-k.auto.k (omega (arith, c.loop-k.auto.k-end)) (rw (← c.symbol_at_place-symbol.ensures) (sym c.if-may_be_answered.ensures)) c.loop-k.invariant

pub returns : goal.returns
returns c = search_none c.args.typed.now c.args.places.now c.args.question.now c.count_up_to-end.result c.count_below-begin.result
    (record { accepted = c.requires.accepted; typed = c.requires.typed; up_to = c.count_up_to-end.ensures; some = omega arith; below = rw (← c.symbol_at_place-greatest.ensures) c.count_below-begin.ensures })
    (λ k le lt. c.loop-k.invariant k le (omega (arith, c.loop-k.auto.k-end)))

pub loop-k-preserved : goal.loop-k-preserved
loop-k-preserved c = none_more (λ j. may_answer c.args.question.now (at_place c.args.typed.now c.args.places.now j)) c.count_below-begin.result c.loop-k.k c.loop-k.invariant (rw (← c.symbol_at_place-symbol.ensures) (sym c.if-may_be_answered.ensures))
