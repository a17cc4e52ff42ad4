use Rattle.std.proofs.Common.{◌∙◌}
use Rattle.blz_bundle.proofs.Findings.{finds_before, steps_before, refused_by, refusal_on, rose_from, later_still}
use Rattle.blz_bundle.proofs.OpeningSteps.{opens, opens_unread, opens_unlinked, opens_unshared, reads_at, shares_of}
use Rattle.blz_bundle.proofs.opening.open_companions.Goals as goal

pub returns-in_err-main-clause-value : goal.returns-in_err-main-clause-value
returns-in_err-main-clause-value g c =
    refused_by _ c.from_residual-in_err-main.result _ _ _ c.from_residual-in_err-main.ensures.1
    (refusal_on _ _ _ _ c.in_err-main.field-0.0 (λ rose. rose) (λ k v is. opens_unread _ _ _ k v (reads_at _ _ _ _ c.in_ok-path.ensures.ok is)) c.in_err-main.ensures.value)

pub returns-in_err-linkee-clause-value : goal.returns-in_err-linkee-clause-value
returns-in_err-linkee-clause-value g c =
    let stay = c.in_ok-main.ensures.stay in
    let read = reads_at _ _ _ _ c.in_ok-path.ensures.ok c.in_ok-main.ensures.value in
    refused_by _ c.from_residual-in_err-linkee.result _ _ _ c.from_residual-in_err-linkee.ensures.1
    (refusal_on _ _ _ _ c.in_err-linkee.field-0.0 (rose_from _ _ _ stay.later) (λ k v is. opens_unlinked _ _ _ _ k v read (finds_before _ _ _ _ stay.same_contents is)) c.in_err-linkee.ensures.value)

pub returns-in_err-supplementary-clause-value : goal.returns-in_err-supplementary-clause-value
returns-in_err-supplementary-clause-value g c =
    let stay = c.in_ok-main.ensures.stay in
    let link_stays = c.in_ok-linkee.ensures.stay in
    let pack_stays = c.in_ok-package.ensures.stay in
    let read = reads_at _ _ _ _ c.in_ok-path.ensures.ok c.in_ok-main.ensures.value in
    let link = finds_before _ _ _ _ stay.same_contents c.in_ok-linkee.ensures.value in
    let later = later_still _ _ _ stay.later (later_still _ _ _ link_stays.later pack_stays.later) in
    refused_by _ c.from_residual-in_err-supplementary.result _ _ _ c.from_residual-in_err-supplementary.ensures.1
    (refusal_on _ _ _ _ c.in_err-supplementary.field-0.0 (rose_from _ _ _ later)
    (λ k v is. opens_unshared _ _ _ _ _ k v read link (shares_of _ _ _ _ _ c.debug_file.ensures (steps_before _ _ _ _ (pack_stays.same_contents ∙ link_stays.same_contents ∙ stay.same_contents) is))) c.in_err-supplementary.ensures.value)

pub returns-clause-value : goal.returns-clause-value
returns-clause-value g c =
    let stay = c.in_ok-main.ensures.stay in
    let link_stays = c.in_ok-linkee.ensures.stay in
    let pack_stays = c.in_ok-package.ensures.stay in
    let read = reads_at _ _ _ _ c.in_ok-path.ensures.ok c.in_ok-main.ensures.value in
    let link = finds_before _ _ _ _ stay.same_contents c.in_ok-linkee.ensures.value in
    let pack = finds_before _ _ _ _ (link_stays.same_contents ∙ stay.same_contents) c.in_ok-package.ensures.value in
    let share = shares_of _ _ _ _ _ c.debug_file.ensures (steps_before _ _ _ _ (pack_stays.same_contents ∙ link_stays.same_contents ∙ stay.same_contents) c.in_ok-supplementary.ensures.value) in
    rw c.with_companions.ensures (opens _ _ _ _ _ _ _ read link pack share)
