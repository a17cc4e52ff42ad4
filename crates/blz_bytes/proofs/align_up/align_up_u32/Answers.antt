use Rattle.blz_bytes.proofs.Multiples.{least_multiple}
use Rattle.blz_bytes.proofs.align_up.align_up_u32.Goals as goal

pub returns-clause-least : goal.returns-clause-least
returns-clause-least c =
    let next = c.next_multiple_of.ensures in
    least_multiple c.args.value c.args.align_to c.next_multiple_of.result c.requires.nonzero next.multiple next.lower_bound next.upper_bound
