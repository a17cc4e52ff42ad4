use Rattle.std.proofs.Common.{[], sym, subst}
use Rattle.blz_fold.specs.Numbered.{Spells}
use Rattle.blz_fold.proofs.name_table.NameTable.numbers_of.Goals as goal

pub returns-clause-spelled : goal.returns-clause-spelled
returns-clause-spelled c = c.in_ok-push_names.ensures.spelled [] (subst (λ z. Spells c.args.self.now z []) (sym c.new-numbers.ensures.items) tt)
