use Rattle.std.proofs.Common.{refl}
use Rattle.blz_relocations.proofs.TreeMaps.{get-tree}
use Rattle.blz_relocations.proofs.relocation.RelocationMap.relocate.Goals as goal

pub returns-in-None : goal.returns-in-None
returns-in-None c = rw (← c.self.view_is, get-tree, ← c.in-None.ensures.value) refl

pub returns-in-Some-Replaces : goal.returns-in-Some-Replaces
returns-in-Some-Replaces c = rw (← c.self.view_is, get-tree, ← c.in-Some-Replaces.ensures.value, c.in-Some-Replaces.field-0-is) refl

pub returns-in-Some-Adds : goal.returns-in-Some-Adds
returns-in-Some-Adds c = rw (← c.self.view_is, get-tree, ← c.in-Some-Adds.ensures.value, c.in-Some-Adds.field-0-is) refl
