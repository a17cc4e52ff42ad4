use Rattle.std.proofs.Common.{◌≡◌, rules}
use Rattle.blz_tool.specs.DemoImage.{unit}
use Rattle.blz_tool.proofs.DemoLengths.{unit_short}
use Rattle.blz_tool.proofs.demo_file.unit.Goals as goal

pub returns-clause-short : goal.returns-clause-short
returns-clause-short c =
    let whole : c.push.new.self.items ≡ unit c.args.n = search rules in
    rw whole (unit_short c.args.n c.requires)
