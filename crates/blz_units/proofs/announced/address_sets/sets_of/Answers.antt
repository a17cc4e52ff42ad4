use Rattle.std.proofs.Common.{◌-◌, ◌<◌, length, sym, ap, ◌∙◌, arith, rules}
use Rattle.std.proofs.lemmas.Result.{err_from_is_err_and}
use Rattle.blz_info.specs.Contents.{Contents}
use Rattle.blz_info.specs.Marks.{or_invalid}
use Rattle.blz_info.proofs.Marked.{marks}
use Rattle.blz_units.proofs.SetLists.{met, at_start, sets_more, sets_none, sets_over}
use Rattle.blz_units.proofs.announced.address_sets.sets_of.Goals as goal

pub returns-in_err-set : goal.returns-in_err-set
returns-in_err-set c =
    let p = err_from_is_err_and c.from_residual.result c.from_residual.ensures.1 in
    rw (p.1, p.2) (marks _ _ (sym c.loop-sets.invariant.rest ∙ sets_none _ _ c.loop-sets.list c.loop-sets.invariant.section c.in_err-set.ensures.value.0) c.in_err-set.ensures.value.1)

pub loop-sets-init : goal.loop-sets-init
loop-sets-init c = record { section = search rules; rest = at_start _ c.new-sets.result.items c.new-list.result.place (search rules) (search rules) }

pub loop-sets-smaller : goal.loop-sets-smaller
loop-sets-smaller c =
    let m = met _ _ _ (rw c.in-Some.is at c.in_ok-set.ensures.value) in
    let ahead = rw c.in-Some.is at c.in_ok-set.ensures.ahead in
    let bytes = ap (λ (k : Contents). length k.bytes) m.section in
    let place = m.place in
    let less : length c.next_set.new.self.section.bytes - c.next_set.new.self.place < length c.loop-sets.list.section.bytes - c.loop-sets.list.place = omega (arith, ahead) in
    less

pub loop-sets-preserved : goal.loop-sets-preserved
loop-sets-preserved c =
    let is = rw c.in-Some.is at c.in_ok-set.ensures.value in
    record {
      section = (met _ _ _ is).section ∙ c.loop-sets.invariant.section;
      rest = rw c.in_ok-push.ensures.items (sym (sets_more _ _ c.loop-sets.list c.in-Some.set c.next_set.new.self c.loop-sets.invariant.section is) ∙ c.loop-sets.invariant.rest);
    }

pub returns : goal.returns
returns c = ap or_invalid (sym c.loop-sets.invariant.rest ∙ sets_over _ _ c.loop-sets.list c.next_set.new.self c.loop-sets.invariant.section (rw c.in_default.is at c.in_ok-set.ensures.value))
