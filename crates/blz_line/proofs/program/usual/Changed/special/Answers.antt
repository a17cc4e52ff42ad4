use Rattle.std.proofs.Common.{◌+◌, ap, ◌∙◌, arith}
use Rattle.blz_line.proofs.UsualSteps.{special_plain}
use Rattle.blz_line.proofs.program.usual.Changed.special.Goals as goal

pub returns : goal.returns
returns c =
    let to = c.in_ok-address.ensures.1 ∙ ap (λ n. c.args.self.address + n) c.bytes_of.ensures in
    rw c.line_behind-line.ensures (special_plain c.args.rules c.args.self c.args.code c.in_ok-address.address c.requires.ops to (omega arith))
