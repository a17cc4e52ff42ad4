use Rattle.blz_rows.proofs.Noting.{noted_more}
use Rattle.blz_rows.proofs.judged.JudgedFiles.verdict.Goals as goal

pub invariant_of-self : goal.invariant_of-self
invariant_of-self c =
    noted_more _ c.self.inside.name.now c.self.inside.noted.items c.args.number c.judged-verdict.result c.self.invariant c.judged-verdict.ensures
