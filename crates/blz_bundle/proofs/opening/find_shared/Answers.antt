use Rattle.blz_bundle.proofs.Findings.{concludes_on, finds_before, finds_option, refused_by, refusal_on, rose_from}
use Rattle.blz_bundle.proofs.OpeningSteps.{shared_alternative, shared_refused, shares, shares_supplementary}
use Rattle.blz_bundle.proofs.opening.find_shared.Goals as goal

pub returns-in_err-file-clause-value : goal.returns-in_err-file-clause-value
returns-in_err-file-clause-value g c =
    refused_by _ c.from_residual.result _ _ _ c.from_residual.ensures.1
    (refusal_on _ _ _ _ c.in_err-file.field-0.0 (λ rose. rose) (λ k v is. shares _ _ _ _ _ (λ a. shared_refused a _ _ k v) is) c.in_err-file.ensures.value)

pub returns-in-Some-clause-value : goal.returns-in-Some-clause-value
returns-in-Some-clause-value g c = shares _ _ _ _ _ (λ a. shared_alternative a _ _ _) (finds_option _ _ _ _ _ c.in-Some.is c.in_ok-file.ensures.value)

pub returns-in-None-clause-value : goal.returns-in-None-clause-value
returns-in-None-clause-value g c =
    let stay = c.in_ok-file.ensures.stay in
    let none = finds_option _ _ _ _ _ c.in-None.is c.in_ok-file.ensures.value in
    concludes_on _ (λ x. x) c.find_supplementary.result _ _ _ _ (rose_from _ _ _ stay.later)
    (λ x is. shares_supplementary _ _ _ _ none (finds_before _ _ _ _ stay.same_contents is))
    (λ k v is. shares_supplementary _ _ _ _ none (finds_before _ _ _ _ stay.same_contents is)) c.find_supplementary.ensures.value
