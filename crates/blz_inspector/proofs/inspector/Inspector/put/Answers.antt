use Rattle.std.proofs.Common.{[], ◌∷◌, ◌++◌, ap, ◌∙◌}
use Rattle.blz_inspector.specs.Entries.{Entries}
use Rattle.blz_inspector.proofs.KeptEntries.{push_at, put_at, put_there}
use Rattle.blz_inspector.proofs.inspector.Inspector.put.Goals as goal

pub returns-in-Some-clause-there : goal.returns-in-Some-clause-there
returns-in-Some-clause-there c = rw c.self.view_is (put_there _ _ _ c.args.entry c.in-Some.ensures)

pub returns-in-Some-clause-put : goal.returns-in-Some-clause-put
returns-in-Some-clause-put c = rw c.self.view_is (put_at _ _ _ c.args.entry c.requires c.in-Some.ensures)

pub returns-in_ok-push-in-None-clause-put : goal.returns-in_ok-push-in-None-clause-put
returns-in_ok-push-in-None-clause-put c =
    c.in_ok-push-in-None.ensures.items ∙ ap (λ (es : Entries). es ++ c.args.entry ∷ []) c.self.view_is ∙ push_at _ _ _ c.requires c.in-None.ensures
