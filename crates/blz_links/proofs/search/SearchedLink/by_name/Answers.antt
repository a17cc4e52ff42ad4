use Rattle.std.proofs.Common.{ap, ◌∙◌, string_bytes}
use Rattle.blz_bytes.specs.Joined.{joined}
use Rattle.blz_links.specs.declared.search.Stage.TheVariants.{Directory, Beside}
use Rattle.blz_links.proofs.StageLemmas.{if_ok-finds, paths_at-by_name, paths_at-names_end}
use Rattle.blz_links.proofs.search.SearchedLink.by_name.Goals as goal

pub returns-in_default : goal.returns-in_default
returns-in_default c =
    let a = c.args.self.now in
    if_ok-finds a (Directory c.args.index) Beside c.beside.result (paths_at-names_end a c.args.index c.in_default.ensures.lookup.3) c.beside.ensures

pub returns : goal.returns
returns c =
    let a = c.args.self.now in
    paths_at-by_name a c.args.index c.in-Some.dir.now (string_bytes c.in_ok-join.field-0) (record { within = c.in-Some.ensures.lookup.3.0; here = c.in-Some.ensures.lookup.1 })
    (c.in_ok-join.ensures ∙ ap (λ dir. joined dir a.linkee.now) c.as_str.ensures.value)
