use Rattle.std.proofs.Common.{◌∙◌, ap, map, string_bytes, Some}
use Rattle.std.specs.Option.{option_map}
use Rattle.blz_links.specs.Candidates.{candidates}
use Rattle.blz_bundle.specs.Opened.{Found, Refused}
use Rattle.blz_bundle.specs.OwnedViews.{file_at}
use Rattle.blz_bundle.proofs.Findings.{finds_before, finds_option, refused_by, refusal_on, rose_from, later_still}
use Rattle.blz_bundle.proofs.FollowSteps.{follows, follows_none, knows, never_refused, searches}
use Rattle.blz_bundle.proofs.following.follow.Goals as goal

pub returns-in_err-linker-clause-value : goal.returns-in_err-linker-clause-value
returns-in_err-linker-clause-value g c =
    refused_by _ c.from_residual.result _ _ _ c.from_residual.ensures.1
    (refusal_on _ _ _ _ c.in_err-linker.field-0.0 (λ rose. rose) (λ k v is. absurd (never_refused _ _ k v is)) c.in_err-linker.ensures.value)

pub returns-in_err-path-clause-value : goal.returns-in_err-path-clause-value
returns-in_err-path-clause-value g c =
    refused_by _ c.from_residual-in_err-path.result _ _ _ c.from_residual-in_err-path.ensures.1
    (refusal_on _ _ _ _ c.in_err-path.field-0.0 (rose_from _ _ _ c.in_ok-linker.ensures.stay.later) (λ k v is. absurd (never_refused _ _ k v is)) c.in_err-path.ensures.value)

pub returns-clause-value : goal.returns-clause-value
returns-clause-value g c =
    let stay = c.in_ok-linker.ensures.stay in
    let known = knows _ _ _ _ c.deref.ensures c.in_ok-linker.ensures.value in
    let paths = c.new-candidates.ensures.all ∙ ap (λ linker. candidates (map string_bytes c.args.dirs.now) (Some linker) c.args.target.now (option_map (λ id. id.now) c.args.build_id)) c.as_str.ensures.value in
    let there = searches _ _ _ _ paths (finds_before _ _ _ _ stay.same_contents (finds_option _ _ _ _ _ c.in-None.is c.in_ok-path.ensures.value)) in
    follows_none _ (map string_bytes c.args.dirs.now) (file_at c.args.from.now) _ _ _ known there

pub returns-in-Some-clause-value : goal.returns-in-Some-clause-value
returns-in-Some-clause-value g c =
    let stay = c.in_ok-linker.ensures.stay in
    let search_stays = c.in_ok-path.ensures.stay in
    let known = knows _ _ _ _ c.deref.ensures c.in_ok-linker.ensures.value in
    let paths = c.new-candidates.ensures.all ∙ ap (λ linker. candidates (map string_bytes c.args.dirs.now) (Some linker) c.args.target.now (option_map (λ id. id.now) c.args.build_id)) c.as_str.ensures.value in
    let there = searches _ _ _ _ paths (finds_before _ _ _ _ stay.same_contents (finds_option _ _ _ _ _ c.in-Some.is c.in_ok-path.ensures.value)) in
    let read = finds_before _ _ _ _ (search_stays.same_contents ∙ stay.same_contents) c.in_ok-read-in-Some.ensures.value in
    follows _ (map string_bytes c.args.dirs.now) (file_at c.args.from.now) _ _ _ _ (Found (file_at c.in_ok-read-in-Some.field-0)) known there read

pub returns-in_err-read-in-Some-clause-value : goal.returns-in_err-read-in-Some-clause-value
returns-in_err-read-in-Some-clause-value g c =
    let stay = c.in_ok-linker.ensures.stay in
    let search_stays = c.in_ok-path.ensures.stay in
    let known = knows _ _ _ _ c.deref.ensures c.in_ok-linker.ensures.value in
    let paths = c.new-candidates.ensures.all ∙ ap (λ linker. candidates (map string_bytes c.args.dirs.now) (Some linker) c.args.target.now (option_map (λ id. id.now) c.args.build_id)) c.as_str.ensures.value in
    let there = searches _ _ _ _ paths (finds_before _ _ _ _ stay.same_contents (finds_option _ _ _ _ _ c.in-Some.is c.in_ok-path.ensures.value)) in
    refused_by _ c.from_residual-in_err-read-in-Some.result _ _ _ c.from_residual-in_err-read-in-Some.ensures.1
    (refusal_on _ _ _ _ c.in_err-read-in-Some.field-0.0 (rose_from _ _ _ (later_still _ _ _ stay.later search_stays.later))
    (λ k v is. follows _ (map string_bytes c.args.dirs.now) (file_at c.args.from.now) _ _ _ _ (Refused k v) known there (finds_before _ _ _ _ (search_stays.same_contents ∙ stay.same_contents) is)) c.in_err-read-in-Some.ensures.value)
