use Rattle.std.proofs.Common.{ap, ◌∙◌}
use Rattle.blz_relocations.specs.Flows.{is_break}
use Rattle.blz_reader.proofs.ShownSteps.{shows_none, shows_next, stops_here}
use Rattle.blz_reader.proofs.visit_function.show_functions.Goals as goal

pub loop-function-init : goal.loop-function-init
loop-function-init g c = record { goes_on = c.requires; shown = shows_none (g.W.VisitFunction.shown c.args.visit.now) }

pub returns-in-Break : goal.returns-in-Break
returns-in-Break g c =
    let k = c.loop-function.invariant in
    stops_here c.args.unit c.args.functions.now c.loop-function.function-index _ _ _ _ _ c.loop-function-test.true (c.visit.ensures.stopped ∙ ap is_break c.in-Break.is) k.shown c.visit.ensures.shown

pub loop-function-preserved : goal.loop-function-preserved
loop-function-preserved g c =
    let k = c.loop-function.invariant in
    record {
      goes_on = c.visit.ensures.stopped ∙ ap is_break c.in_default.is;
      shown = shows_next c.args.unit c.args.functions.now c.loop-function.function-index _ _ _ _ c.loop-function-test.true k.shown c.visit.ensures.shown;
    }
