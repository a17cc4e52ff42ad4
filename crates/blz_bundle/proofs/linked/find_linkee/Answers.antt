use Rattle.std.proofs.Common.{map, string_bytes}
use Rattle.std.specs.Option.{option_map}
use Rattle.blz_bundle.specs.OwnedViews.{file_at}
use Rattle.blz_bundle.proofs.Findings.{refused_by, refusal_tells}
use Rattle.blz_bundle.proofs.LinkKinds.{link_never_missing}
use Rattle.blz_bundle.proofs.LinkSteps.{linked_broken, linked_leads, step_leads}
use Rattle.blz_bundle.proofs.linked.find_linkee.Goals as goal

pub returns-in_err-link-clause-value : goal.returns-in_err-link-clause-value
returns-in_err-link-clause-value g c =
    refused_by _ c.from_residual.result _ _ _ c.from_residual.ensures.1 (refusal_tells _ _ c.in_err-link.field-0.0 (linked_broken _ (map string_bytes c.args.dirs.now) (file_at c.args.main.now) _ c.in_err-link.ensures.0)
    (λ missing. absurd (link_never_missing _ _ c.in_err-link.ensures.0 missing)))

pub returns-clause-value : goal.returns-clause-value
returns-clause-value g c =
    let dirs = map string_bytes c.args.dirs.now in
    let from = file_at c.args.main.now in
    step_leads (option_map file_at) _ _ dirs from _ _ c.led.result _ (linked_leads dirs from _ c.in_ok-link.ensures) c.lead_of.ensures c.led.ensures.value
