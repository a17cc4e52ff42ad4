use Rattle.std.proofs.Common.{ap, sym}
use Rattle.blz_tool.specs.Runs.{found_in}
use Rattle.blz_tool.proofs.Found.{demo_refused}
use Rattle.blz_tool.proofs.program.made_of_demo.Goals as goal

pub returns-in-Ok : goal.returns-in-Ok
returns-in-Ok g c = ap found_in (sym c.in-Ok.ensures.value)

pub returns-in-Err : goal.returns-in-Err
returns-in-Err g c = rw (c.refusal.ensures, c.kind.ensures) (demo_refused c.args.n c.in-Err.error.kind c.in-Err.ensures.value c.in-Err.ensures.kinds)
