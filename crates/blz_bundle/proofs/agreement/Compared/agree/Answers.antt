use Rattle.blz_bundle.proofs.OpeningCauses.{differs}
use Rattle.blz_bundle.proofs.agreement.Compared.agree.Goals as goal

pub returns : goal.returns
returns c = differs c.with_mismatch.result _ c.args.same c.args.self.actual.now c.args.self.recorded.now _ _ _ c.with_mismatch.ensures c.new.ensures c.in_ok-actual.ensures.items c.in_ok-recorded.ensures.items c.if-same.false
