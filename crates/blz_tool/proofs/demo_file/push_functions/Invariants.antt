use Rattle.std.proofs.Common.{◌≡◌, ◌++◌}
use Rattle.blz_tool.specs.DemoImage.{function_entries}
use Rattle.blz_tool.proofs.demo_file.push_functions.Given as goal

abbrev pub invariant-loop-i : goal.invariant-loop-i
invariant-loop-i l = l.out.items ≡ l.initial.out.items ++ function_entries l.i
