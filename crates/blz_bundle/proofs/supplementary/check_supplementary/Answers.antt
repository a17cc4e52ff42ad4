use Rattle.std.proofs.Common.{refl}
use Rattle.blz_bundle.specs.OwnedViews.{file_at}
use Rattle.blz_bundle.proofs.Findings.{concludes_on, refused_by, refusal_on, refusal_tells}
use Rattle.blz_bundle.proofs.LinkKinds.{sup_never_missing}
use Rattle.blz_bundle.proofs.LinkSteps.{read_option, sup_broken, sup_checksum, sup_flag, sup_missing}
use Rattle.blz_bundle.proofs.supplementary.check_supplementary.Goals as goal

pub returns-in_err-sup : goal.returns-in_err-sup
returns-in_err-sup c =
    refused_by _ c.from_residual.result _ _ _ c.from_residual.ensures.1 (refusal_tells _ _ c.in_err-sup.field-0.0 (sup_broken c.args.recorded.now (file_at c.args.file.now) _ c.in_err-sup.ensures.0)
    (λ missing. absurd (sup_never_missing _ _ c.in_err-sup.ensures.0 missing)))

pub returns-in_default : goal.returns-in_default
returns-in_default c = rw c.new.ensures (refusal_tells _ _ _ (sup_missing c.args.recorded.now (file_at c.args.file.now) (read_option _ _ _ _ c.in_default.is c.in_ok-sup.ensures)) (λ missing. refl))

pub returns-in_err-agree : goal.returns-in_err-agree
returns-in_err-agree c =
    let read = read_option _ _ _ _ c.in-Some.is c.in_ok-sup.ensures in
    refused_by _ c.from_residual-in_err-agree.result _ _ _ c.from_residual-in_err-agree.ensures.1
    (refusal_on _ _ _ _ c.in_err-agree.field-0.0 (λ never. never) (λ k v is. sup_flag c.args.recorded.now (file_at c.args.file.now) _ k v read is) c.in_err-agree.ensures)

pub returns : goal.returns
returns c =
    let read = read_option _ _ _ _ c.in-Some.is c.in_ok-sup.ensures in
    concludes_on _ (λ x. x) c.agree-2.result _ _ _ _ (λ never. never)
    (λ x is. sup_checksum c.args.recorded.now (file_at c.args.file.now) _ c.eq.result _ read c.in_ok-agree.ensures c.eq.ensures is) (λ k v is. sup_checksum c.args.recorded.now (file_at c.args.file.now) _ c.eq.result _ read c.in_ok-agree.ensures c.eq.ensures is) c.agree-2.ensures
