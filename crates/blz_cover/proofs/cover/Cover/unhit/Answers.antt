use Rattle.std.proofs.Common.{◌-◌, ◌≤◌, IsSome, refl, sym, subst, arith}
use Rattle.blz_cover.specs.Changes.{count_of}
use Rattle.blz_cover.proofs.CoverSteps.{stands_taken, has_count, tally-le-total, tally_known, tally_unknown, count_of-unknown}
use Rattle.blz_cover.proofs.Faults.{unhit_fault-none, unhit_fault-missing}
use Rattle.blz_cover.proofs.cover.Cover.unhit.Goals as goal

pub returns-in_default-clause-fault : goal.returns-in_default-clause-fault
returns-in_default-clause-fault g c =
    let unknown = tally_unknown _ _ _ _ _ _ _ c.args.addr c.self.invariant.stands (sym c.in_default.ensures.value) in
    let nothing = count_of-unknown c.args.addr c.self.inside.changes.items unknown in
    rw (← c.self.view_is) (unhit_fault-missing _ c.args.addr c.args.count 0 nothing (omega (arith, c.requires)))

pub take_at-requires : goal.take_at-requires
take_at-requires g c = has_count _ _ _ _ _ _ _ c.args.addr c.args.count c.in-Some.tally.now c.self.invariant.stands (sym c.in-Some.ensures.value) c.if-tally-count.false

pub overflow_sub-self : goal.overflow_sub-self
overflow_sub-self g c =
    let less = tally-le-total _ _ _ _ _ _ _ c.args.addr c.in-Some.tally.now c.self.invariant.stands (sym c.in-Some.ensures.value) in
    omega (arith, less, c.if-tally-count.false)

pub invariant_of-self-2 : goal.invariant_of-self-2
invariant_of-self-2 g c =
    let through = c.get_mut.follows.holds (record { count = c.in-Some.tally.now.count - c.args.count; home = c.in-Some.tally.now.home }) in
    let updated = through.3 (subst (λ o. IsSome o) c.in-Some.ensures.value refl) in
    rw (c.with-self-inside.ensures, c.taken.ensures, c.take_at.ensures.lines, c.take_at.ensures.rest) (record {
      has_debug = c.self.invariant.has_debug;
      is_prepared = c.self.invariant.is_prepared;
      stands = stands_taken _ _ c.self.inside.changes.items c.args.addr c.args.count _ _ c.in-Some.tally.now c.self.inside.lines c.self.inside.rest c.self.inside.total c.self.invariant.stands (sym c.in-Some.ensures.value) c.if-tally-count.false updated.0;
    })

pub returns-clause-fault : goal.returns-clause-fault
returns-clause-fault g c =
    let known = tally_known _ _ _ _ _ _ _ c.args.addr c.in-Some.tally.now c.self.invariant.stands (sym c.in-Some.ensures.value) in
    let fits : c.args.count ≤ count_of c.args.addr c.self.inside.changes.items = omega (arith, c.if-tally-count.false, known.count) in
    rw (← c.self.view_is) (unhit_fault-none _ c.args.addr c.args.count fits known.answered)
