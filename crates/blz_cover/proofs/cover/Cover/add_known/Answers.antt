use Rattle.std.proofs.Common.{◌+◌, ◌^◌, ◌<◌, IsSome, refl, ap, sym, subst, arith}
use Rattle.blz_cover.specs.Changes.{total_of}
use Rattle.blz_cover.proofs.CoverSteps.{stands_added, has_room, tally-le-total}
use Rattle.blz_cover.proofs.cover.Cover.add_known.Goals as goal

pub overflow_add-tally : goal.overflow_add-tally
overflow_add-tally c =
    let stand = c.self.invariant.stands in
    let room : total_of c.self.inside.changes.items + c.args.count < 2 ^ 64 = subst (λ cs. total_of cs + c.args.count < 2 ^ 64) (sym (ap (λ v. v.changes) c.self.view_is)) c.requires in
    let less = tally-le-total _ _ _ _ _ _ _ c.args.addr c.in-Some.tally.now stand (sym c.in-Some.ensures.value) in
    omega (arith, room, less, stand.total_is)

pub add_at-requires : goal.add_at-requires
add_at-requires c =
    let stand = c.self.invariant.stands in
    let room : total_of c.self.inside.changes.items + c.args.count < 2 ^ 64 = subst (λ cs. total_of cs + c.args.count < 2 ^ 64) (sym (ap (λ v. v.changes) c.self.view_is)) c.requires in
    has_room _ _ _ _ _ _ _ c.args.count c.in-Some.tally.now.home stand (omega (arith, room, stand.total_is))

pub invariant_of-self-2 : goal.invariant_of-self-2
invariant_of-self-2 c =
    let through = c.get_mut.follows.holds (record { count = c.in-Some.tally.now.count + c.args.count; home = c.in-Some.tally.now.home }) in
    let updated = through.3 (subst (λ o. IsSome o) c.in-Some.ensures.value refl) in
    rw (c.with-self-inside.ensures, c.added.ensures, c.add_at.ensures.lines, c.add_at.ensures.rest) (record {
      has_debug = c.self.invariant.has_debug;
      is_prepared = c.self.invariant.is_prepared;
      stands = stands_added _ _ c.self.inside.changes.items c.args.addr c.args.count _ _ c.in-Some.tally.now c.self.inside.lines c.self.inside.rest c.self.inside.total c.self.invariant.stands (sym c.in-Some.ensures.value) updated.0;
    })
