use Rattle.std.proofs.Common.{◌≡◌, rules}
use Rattle.blz_tool.specs.DemoImage.{line_program}
use Rattle.blz_tool.proofs.DemoLengths.{line_program_short}
use Rattle.blz_tool.proofs.demo_file.line_program.Goals as goal

pub returns-clause-short : goal.returns-clause-short
returns-clause-short c =
    let whole : c.extend_from_slice.new.self.items ≡ line_program c.args.n = search rules in
    rw whole (line_program_short c.args.n c.requires.few)
