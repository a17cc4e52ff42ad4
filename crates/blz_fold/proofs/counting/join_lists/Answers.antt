use Rattle.std.proofs.Common.{◌∙◌, ◌++◌, ap, sym, map, take, get_or}
use Rattle.std.specs.List.{flat_map}
use Rattle.std.proofs.lemmas.List.{flat_map_more, take_more}
use Rattle.blz_fold.specs.Numbered.{list_at}
use Rattle.blz_fold.proofs.counting.join_lists.Goals as goal

pub loop-addr-preserved : goal.loop-addr-preserved
loop-addr-preserved c =
    let f = list_at c.args.addresses.now.keys (map (λ v. v.items) c.args.lists.now) in
    let i = c.loop-addr.addr-index in
    let front = c.args.numbers.now.items in
    let asked = c.args.asked.now in
    c.in_ok-extend_from_slice.ensures.items
    ∙ (λ j. c.loop-addr.invariant j ++ c.list_at.ensures j)
    ∙ flat_map_more f front (take i asked) (get_or asked i 0)
    ∙ ap (λ z. front ++ flat_map f z) (sym (take_more asked i 0 c.loop-addr-test.true))
