use Rattle.std.proofs.Common.{refl, ap, ◌∙◌}
use Rattle.std.specs.Map.{lookup}
use Rattle.blz_bytes.proofs.Pairs.{distinct_push}
use Rattle.blz_bytes.proofs.insert_map.InsertMap.try_insert.Goals as goal

pub invariant_of-self-2 : goal.invariant_of-self-2
invariant_of-self-2 g c =
    let eq = g.K.PartialEq.eq in
    let none = ap (lookup (eq c.args.key)) c.self.view_is ∙ c.in_default.ensures.none refl in
    rw (c.push_reserved.ensures.items, c.in_ok-reserve.ensures.items) (distinct_push eq c.self.inside.pairs.items c.args.key _ g.met.K.Eq.laws c.self.invariant none)
