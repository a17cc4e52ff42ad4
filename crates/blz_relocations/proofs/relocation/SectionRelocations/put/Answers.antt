use Rattle.blz_relocations.proofs.TreeMaps.{insert-tree}
use Rattle.blz_relocations.proofs.relocation.SectionRelocations.put.Goals as goal

pub returns-clause-ok : goal.returns-clause-ok
returns-clause-ok c = rw (← c.self.view_is) (insert-tree _ _ _ _ c.in_ok-insert.ensures.updates.0)
