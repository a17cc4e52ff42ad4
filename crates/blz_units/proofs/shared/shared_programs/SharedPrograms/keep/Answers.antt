use Rattle.blz_units.proofs.SharedPrograms.{one_program_more, programs_same}
use Rattle.blz_units.proofs.shared.shared_programs.SharedPrograms.keep.Goals as goal

pub returns-in_err-insert : goal.returns-in_err-insert
returns-in_err-insert c = λ s here are. programs_same s c.args.self.now (record { kept = c.insert.new.self }) c.in_err-insert.ensures.err are

pub returns : goal.returns
returns c = λ s here are. one_program_more s c.args.self.now (record { kept = c.insert.new.self }) c.args.key c.args.program c.in_ok-insert.ensures.updates here are
