use Rattle.std.proofs.Common.{◌≡◌, sym, ap, ◌∙◌}
use Rattle.blz_symbols.specs.NameOrders.{named_in, named_at}
use Rattle.blz_symbols.specs.NameRule.{Named}
use Rattle.blz_symbols.proofs.NameSearch.{equal_name, other_name, search_start, search_on, search_stop, search_end}
use Rattle.blz_symbols.proofs.name_order.search.Goals as goal

pub loop-k-init : goal.loop-k-init
loop-k-init c =
    rw (c.new-found.ensures.items) (search_start c.args.name.now (named_in c.args.strings.now c.args.listed.now) c.args.places.now c.count_below-begin.result c.requires (rw (← c.as_bytes.ensures.value) c.count_below-begin.ensures))

pub loop-k-preserved : goal.loop-k-preserved
loop-k-preserved c =
    let same : c.name_at_place-named.result.name.now ≡ c.args.name.now = equal_name c.name_at_place-named.result.name.now c.as_bytes-in-loop-k.result.now c.if-ne.ensures ∙ c.as_bytes-in-loop-k.ensures.value in
    search_on c.args.name.now (named_in c.args.strings.now c.args.listed.now) c.args.places.now c.loop-k.k _ _ c.requires c.loop-k-test.true
    (ap (λ (n : Named). n.name) (sym c.name_at_place-named.ensures) ∙ same)
    (rw (← c.name_at_place-named.ensures) (c.in_ok-list.ensures.ok))
    c.loop-k.invariant

pub returns-then-ne : goal.returns-then-ne
returns-then-ne c =
    let there : (named_at (named_in c.args.strings.now c.args.listed.now) c.args.places.now c.loop-k.k).name ≡ c.name_at_place-named.result.name.now = ap (λ (n : Named). n.name) (sym c.name_at_place-named.ensures) in
    search_stop c.args.name.now (named_in c.args.strings.now c.args.listed.now) c.args.places.now c.count_below-begin.result c.loop-k.k _ c.requires (rw (← c.as_bytes.ensures.value) c.count_below-begin.ensures) c.loop-k.auto.k c.loop-k-test.true
    (rw (there, ← c.as_bytes-in-loop-k.ensures.value) (other_name c.name_at_place-named.result.name.now c.as_bytes-in-loop-k.result.now c.if-ne.ensures))
    c.loop-k.invariant

pub returns : goal.returns
returns c = search_end c.args.name.now (named_in c.args.strings.now c.args.listed.now) c.args.places.now c.loop-k.k _ c.loop-k-test.false c.loop-k.invariant
