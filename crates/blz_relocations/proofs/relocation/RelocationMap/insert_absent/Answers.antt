use Rattle.std.proofs.Common.{sym, ◌∙◌}
use Rattle.blz_relocations.proofs.TreeMaps.{absent-tree, put_back-tree}
use Rattle.blz_relocations.proofs.relocation.RelocationMap.insert_absent.Goals as goal

pub returns-in-None-clause-ok : goal.returns-in-None-clause-ok
returns-in-None-clause-ok c =
    rw (← c.self.view_is, ← c.make_relocation-relocation.ensures) (absent-tree _ _ _ _ (sym c.in-None.is ∙ c.in_ok-insert.ensures.old) c.in_ok-insert.ensures.updates.0)

pub returns-in_ok-insert-in-Some-clause-ok : goal.returns-in_ok-insert-in-Some-clause-ok
returns-in_ok-insert-in-Some-clause-ok c =
    rw (← c.self.view_is, ← c.make_relocation-relocation.ensures) (put_back-tree _ c.insert.new.self.entries _ _ _ c.in-Some.was (sym c.in-Some.is ∙ c.in_ok-insert.ensures.old) c.in_ok-insert.ensures.updates.0 c.in_ok-insert-in-Some.ensures.updates.0)
