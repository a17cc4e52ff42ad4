use Rattle.std.proofs.Common.{arith}
use Rattle.std.proofs.lemmas.List.{length-take}
use Rattle.blz_info.proofs.RunsMade.{made_none, made_few, made_passes, made_more, all_made}
use Rattle.blz_info.proofs.walking.runs.Runs.of.Goals as goal

pub loop-spec-init : goal.loop-spec-init
loop-spec-init c = rw c.new-runs.ensures.items (made_none c.args.reading c.args.encoding)

pub overflow_add-count : goal.overflow_add-count
overflow_add-count c =
    omega (arith, made_few _ _ _ _ _ _ c.loop-spec.invariant, length-take c.loop-spec.spec-index c.args.specs.now)

pub loop-spec-preserved-in-loop-spec : goal.loop-spec-preserved-in-loop-spec
loop-spec-preserved-in-loop-spec c =
    made_passes _ _ _ _ _ _ _ c.args.specs.now _ _ c.loop-spec-test.true c.loop-spec.invariant c.in-Some.ensures c.in-Some-checked_add.ensures.1

pub loop-spec-preserved : goal.loop-spec-preserved
loop-spec-preserved c =
    rw c.in_ok-push.ensures.items (made_more _ _ _ _ _ c.args.specs.now _ _ _ c.loop-spec-test.true c.loop-spec.invariant c.run_of-run.ensures)

pub returns : goal.returns
returns c = all_made _ _ _ _ _ c.args.specs.now _ c.loop-spec-test.false c.loop-spec.invariant
