use Rattle.std.proofs.Common.{◌≡◌, nat_le, false, length, ap, ◌∙◌, string_bytes}
use Rattle.std.specs.Option.{option_map}
use Rattle.std.proofs.lemmas.Bool.{lt-leb}
use Rattle.blz_bytes.specs.Joined.{joined}
use Rattle.blz_links.specs.declared.search.Stage.TheVariants.{BuildId, Directory}
use Rattle.blz_links.proofs.StageLemmas.{if_ok-finds, paths_at-by_build_id, paths_at-ids_end, paths_at-no_id, paths_at-short_id}
use Rattle.blz_links.proofs.search.SearchedLink.by_build_id.Goals as goal

pub returns-in_default : goal.returns-in_default
returns-in_default c =
    let a = c.args.self.now in
    if_ok-finds a (BuildId c.args.index) (Directory 0) c.by_name.result (paths_at-no_id a c.args.index (ap (option_map (λ id. id.now)) c.in_default.is)) c.by_name.ensures

pub returns-then-id-lt8 : goal.returns-then-id-lt8
returns-then-id-lt8 c =
    let a = c.args.self.now in
    let id = c.in-Some.id.now in
    let short : nat_le 8 (length id) ≡ false = lt-leb 8 (length id) c.if-id-lt8.true in
    if_ok-finds a (BuildId c.args.index) (Directory 0) c.by_name-then-id-lt8.result (paths_at-short_id a c.args.index id (ap (option_map (λ id. id.now)) c.in-Some.is) short) c.by_name-then-id-lt8.ensures

pub returns-in_default-get : goal.returns-in_default-get
returns-in_default-get c =
    let a = c.args.self.now in
    if_ok-finds a (BuildId c.args.index) (Directory 0) c.by_name-in_default-get.result (paths_at-ids_end a c.args.index c.in_default-get.ensures.lookup.3) c.by_name-in_default-get.ensures

pub returns : goal.returns
returns c =
    let a = c.args.self.now in
    let id = c.in-Some.id.now in
    paths_at-by_build_id a c.args.index c.in-Some-get.dir.now id (string_bytes c.in_ok-join.field-0) (record { within = c.in-Some-get.ensures.lookup.3.0; here = c.in-Some-get.ensures.lookup.1 }) (ap (option_map (λ id. id.now)) c.in-Some.is) c.if-id-lt8.false
    (c.in_ok-join.ensures ∙ ap (λ dir. joined dir c.as_str-2.result.now) c.as_str.ensures.value ∙ ap (joined (string_bytes c.in-Some-get.dir.now)) (c.as_str-2.ensures.value ∙ c.in_ok-path.ensures))
