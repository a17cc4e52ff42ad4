use Rattle.std.proofs.Common.{◌∙◌, ◌++◌, ap, sym}
use Rattle.std.proofs.lemmas.List.{append-nil}
use Rattle.blz_fold.proofs.MapSteps.{name_missing}
use Rattle.blz_fold.proofs.printing.push_name.Goals as goal

pub returns-in-None : goal.returns-in-None
returns-in-None c = sym (ap (λ z. c.args.out.now.items ++ z) (name_missing c.args.names.now c.args.number c.get.result c.get.ensures c.in-None.is) ∙ append-nil c.args.out.now.items)
