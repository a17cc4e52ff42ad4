use Rattle.std.proofs.Common.{◌≡◌, false, take}
use Rattle.blz_reader.specs.ShownFunctions.{ShowsMore}
use Rattle.blz_units.specs.UnitAnswers.{in_unit}
use Rattle.blz_reader.proofs.visit_function.show_functions.Given as goal

abbrev pub invariant-loop-function : goal.invariant-loop-function
invariant-loop-function g l = record {
  goes_on : g.W.VisitFunction.stopped l.visit ≡ false;
  shown : ShowsMore (g.W.VisitFunction.shown l.fn.visit) (g.W.VisitFunction.shown l.visit) (in_unit l.unit (take l.function-index l.functions));
}
