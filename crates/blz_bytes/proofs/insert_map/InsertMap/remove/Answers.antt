use Rattle.std.proofs.Common.{sym, refl}
use Rattle.std.specs.List.{IsDistinct}
use Rattle.std.specs.Map.{keys_of}
use Rattle.blz_bytes.proofs.Pairs.{distinct_without, none_out, without}
use Rattle.blz_bytes.proofs.insert_map.InsertMap.remove.Goals as goal

pub returns-in_err-i-clause-after : goal.returns-in_err-i-clause-after
returns-in_err-i-clause-after g c = sym (none_out (g.K.PartialEq.eq c.args.key.now) c.args.self.now (c.in_err-i.ensures.none refl))

pub invariant_of-self : goal.invariant_of-self
invariant_of-self g c =
    let eq = g.K.PartialEq.eq in
    let differ : IsDistinct eq (keys_of c.args.self.now) = rw (← c.self.view_is) c.self.invariant in
    rw (c.remove-value.ensures.items, c.self.view_is, c.in_ok-i.ensures.taken) (distinct_without eq (eq c.args.key.now) c.args.self.now differ)

pub returns-clause-gone : goal.returns-clause-gone
returns-clause-gone g c =
    let eq = g.K.PartialEq.eq in
    let differ : IsDistinct eq (keys_of c.args.self.now) = rw (← c.self.view_is) c.self.invariant in
    rw (c.remove-value.ensures.items, c.self.view_is, c.in_ok-i.ensures.taken) (λ q. without eq c.args.key.now q c.args.self.now g.met.K.Eq.laws differ)
