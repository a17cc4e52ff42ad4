use Rattle.std.proofs.Common.{map, string_bytes}
use Rattle.std.specs.Option.{option_map}
use Rattle.blz_bundle.specs.OwnedViews.{file_at}
use Rattle.blz_bundle.proofs.Findings.{refused_by, refusal_tells}
use Rattle.blz_bundle.proofs.LinkKinds.{sup_never_missing}
use Rattle.blz_bundle.proofs.LinkSteps.{supplementary_broken, supplementary_leads, step_leads}
use Rattle.blz_bundle.proofs.supplementary.find_supplementary.Goals as goal

pub returns-in_err-sup-clause-value : goal.returns-in_err-sup-clause-value
returns-in_err-sup-clause-value g c =
    refused_by _ c.from_residual.result _ _ _ c.from_residual.ensures.1 (refusal_tells _ _ c.in_err-sup.field-0.0 (supplementary_broken _ (map string_bytes c.args.dirs.now) (file_at c.args.debug.now) _ c.in_err-sup.ensures.0)
    (λ missing. absurd (sup_never_missing _ _ c.in_err-sup.ensures.0 missing)))

pub returns-clause-value : goal.returns-clause-value
returns-clause-value g c =
    let dirs = map string_bytes c.args.dirs.now in
    let from = file_at c.args.debug.now in
    step_leads (option_map file_at) _ _ dirs from _ _ c.led.result _ (supplementary_leads dirs from _ c.in_ok-sup.ensures) c.lead_of.ensures c.led.ensures.value
