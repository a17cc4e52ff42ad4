use Rattle.blz_index.specs.UnitsWarm.{CanBeAsked}
use Rattle.blz_bench.proofs.functions.count_functions.Given as goal

abbrev pub invariant-loop-unit : goal.invariant-loop-unit
invariant-loop-unit g l = record {
  asked : CanBeAsked l.dwarf l.units;
}
