use Rattle.std.proofs.Common.{map, string_bytes}
use Rattle.blz_bundle.specs.LeadViews.{lead_view}
use Rattle.blz_bundle.specs.OwnedViews.{file_at}
use Rattle.blz_bundle.proofs.Findings.{finds_option, refused_by, refusal_on}
use Rattle.blz_bundle.proofs.LinkSteps.{leads_by, led_differs, led_nowhere, led_refused, led_there, led_unfound}
use Rattle.blz_bundle.proofs.lead.led.Goals as goal

pub returns-in_default-clause-value : goal.returns-in_default-clause-value
returns-in_default-clause-value g c = led_nowhere _ _ _ _ (leads_by lead_view (map string_bytes c.args.dirs.now) (file_at c.args.from.now) _ _ c.in_default.is)

pub returns-in_err-file-clause-value : goal.returns-in_err-file-clause-value
returns-in_err-file-clause-value g c =
    let leads = leads_by lead_view (map string_bytes c.args.dirs.now) (file_at c.args.from.now) _ _ c.in-Some.is in
    refused_by _ c.from_residual.result _ _ _ c.from_residual.ensures.1
    (refusal_on _ _ _ _ c.in_err-file.field-0.0 (λ rose. rose) (λ k v is. led_refused _ _ _ _ _ k v leads is) c.in_err-file.ensures.value)

pub returns-in_default-2-clause-value : goal.returns-in_default-2-clause-value
returns-in_default-2-clause-value g c =
    let leads = leads_by lead_view (map string_bytes c.args.dirs.now) (file_at c.args.from.now) _ _ c.in-Some.is in
    led_unfound _ _ _ _ _ leads (finds_option _ _ _ _ _ c.in_default-2.is c.in_ok-file.ensures.value)

pub returns-in_err-check-clause-value : goal.returns-in_err-check-clause-value
returns-in_err-check-clause-value g c =
    let leads = leads_by lead_view (map string_bytes c.args.dirs.now) (file_at c.args.from.now) _ _ c.in-Some.is in
    let file = finds_option _ _ _ _ _ c.in-Some-2.is c.in_ok-file.ensures.value in
    refused_by _ c.from_residual-in_err-check.result _ _ _ c.from_residual-in_err-check.ensures.1
    (refusal_on _ _ _ _ c.in_err-check.field-0.0 (λ never. absurd never) (λ k v is. led_differs _ _ _ _ _ _ k v leads is file) c.in_err-check.ensures)

pub returns-clause-value : goal.returns-clause-value
returns-clause-value g c =
    let leads = leads_by lead_view (map string_bytes c.args.dirs.now) (file_at c.args.from.now) _ _ c.in-Some.is in
    let file = finds_option _ _ _ _ _ c.in-Some-2.is c.in_ok-file.ensures.value in
    led_there _ _ _ _ _ _ leads c.in_ok-check.ensures file
