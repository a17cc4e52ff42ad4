use Rattle.std.proofs.Common.{◌≡◌, true, ◌+◌, ◌-◌, ◌^◌, ◌≤◌, refl, ap, subst, arith}
use Rattle.blz_cover.specs.Answers.{is_answered}
use Rattle.blz_cover.specs.Changes.{total_of}
use Rattle.blz_cover.specs.Covers.{Cover}
use Rattle.blz_cover.proofs.Faults.{hit_fault-none}
use Rattle.blz_cover.proofs.cover.Cover.hit.Goals as goal

pub returns-then-add_known-clause-fault : goal.returns-then-add_known-clause-fault
returns-then-add_known-clause-fault g c =
    let total = c.self.invariant.stands.total_is in
    let fits : total_of c.self.inside.changes.items + c.args.count ≤ 2 ^ 64 - 1 = omega (arith, c.if-count-self.false, total) in
    let room : total_of c.args.self.now.changes + c.args.count ≤ 2 ^ 64 - 1 = subst (λ cs. total_of cs + c.args.count ≤ 2 ^ 64 - 1) (ap (λ v. v.changes) c.self.view_is) fits in
    hit_fault-none c.args.self.now c.args.addr c.args.count room (c.if-add_known.ensures.answered refl)

pub returns-in-Ok-clause-fault : goal.returns-in-Ok-clause-fault
returns-in-Ok-clause-fault g c =
    let total = c.self.invariant.stands.total_is in
    let fits : total_of c.self.inside.changes.items + c.args.count ≤ 2 ^ 64 - 1 = omega (arith, c.if-count-self.false, total) in
    let room : total_of c.args.self.now.changes + c.args.count ≤ 2 ^ 64 - 1 = subst (λ cs. total_of cs + c.args.count ≤ 2 ^ 64 - 1) (ap (λ v. v.changes) c.self.view_is) fits in
    hit_fault-none c.args.self.now c.args.addr c.args.count room (subst (λ (v : Cover). is_answered v.images c.args.addr ≡ true) (c.if-add_known.ensures.kept refl) c.in_ok-line.ensures.answered)
