use Rattle.std.proofs.Common.{◌≡◌, ◌++◌}
use Rattle.blz_tool.specs.DemoImage.{line_steps}
use Rattle.blz_tool.proofs.demo_file.push_line_steps.Given as goal

abbrev pub invariant-loop : goal.invariant-loop
invariant-loop l = l.out.items ≡ l.initial.out.items ++ line_steps l.counter
