use Rattle.std.proofs.Common.{refl, ap, ◌∙◌}
use Rattle.std.specs.Map.{lookup}
use Rattle.blz_bytes.proofs.Pairs.{distinct_push}
use Rattle.blz_bytes.proofs.insert_map.InsertMap.put.Goals as goal

pub invariant_of-self-in-None : goal.invariant_of-self-in-None
invariant_of-self-in-None g c =
    let eq = g.K.PartialEq.eq in
    let none = ap (lookup (eq c.args.key)) c.self.view_is ∙ c.in-None.ensures.none refl in
    rw (c.in_ok-push-in-None.ensures.items, c.in_ok-reserve-in-None.ensures.items) (distinct_push eq c.self.inside.pairs.items c.args.key _ g.met.K.Eq.laws c.self.invariant none)
