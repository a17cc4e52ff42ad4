use Rattle.std.proofs.Common.{refl}
use Rattle.blz_relocations.proofs.TreeMaps.{get-tree, unwrap_or-copied}
use Rattle.blz_relocations.proofs.relocation.SectionRelocations.get.Goals as goal

pub returns : goal.returns
returns c = rw (← c.self.view_is, get-tree, c.unwrap_or.ensures, unwrap_or-copied, c.get.ensures.value, c.self.invariant) refl
