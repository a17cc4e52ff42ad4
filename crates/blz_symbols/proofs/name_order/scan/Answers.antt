use Rattle.std.proofs.Common.{List, sym, ap, ◌∙◌, arith}
use Rattle.std.proofs.lemmas.List.{get_or-map}
use Rattle.blz_symbols.specs.NameOrders.{name_view, named_in}
use Rattle.blz_symbols.specs.NameRule.{Named}
use Rattle.blz_symbols.specs.NameSteps.{named_view, passes, with_named}
use Rattle.blz_symbols.proofs.NameSearch.{count_of, with_named_more}
use Rattle.blz_symbols.proofs.name_order.scan.Goals as goal

pub loop-name-preserved : goal.loop-name-preserved
loop-name-preserved c =
    let pass = passes c.args.wanted.now in
    let at = c.loop-name.name-index in
    c.in_ok-list.ensures.ok
    ∙ ap (λ (xs : List Named). with_named pass xs (named_view c.named.result)) c.loop-name.invariant
    ∙ with_named_more pass (named_in c.args.strings.now c.args.listed.now) at (named_view c.named.result) (omega (arith, count_of (name_view c.args.strings.now) c.args.listed.now, c.loop-name-test.true)) (get_or-map (name_view c.args.strings.now) c.args.listed.now at _ _ c.loop-name-test.true ∙ sym c.named.ensures)
