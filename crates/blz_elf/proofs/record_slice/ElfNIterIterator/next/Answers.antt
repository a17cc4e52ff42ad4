use Rattle.std.proofs.Common.{sym, ◌∙◌}
use Rattle.blz_elf.proofs.RowLemmas.{nil_from_first}
use Rattle.blz_elf.proofs.record_slice.ElfNIterIterator.next.Goals as goal

pub returns-in_default-clause-steps : goal.returns-in_default-clause-steps
returns-in_default-clause-steps g c = let nil = sym c.self.view_is ∙ nil_from_first c.self.inside.rest c.in_default.ensures in (nil, nil)
