use Rattle.std.proofs.Common.{ap, ◌∙◌, string_bytes}
use Rattle.std.specs.Option.{option_map}
use Rattle.blz_links.specs.Candidates.{inner_path}
use Rattle.blz_links.proofs.StageLemmas.{paths_at-beside, paths_at-no_linker}
use Rattle.blz_links.proofs.search.SearchedLink.beside.Goals as goal

pub returns-in_default : goal.returns-in_default
returns-in_default c = paths_at-no_linker c.args.self.now (ap (option_map (λ linker. linker.now)) c.in_default.is)

pub returns : goal.returns
returns c =
    paths_at-beside c.args.self.now c.in-Some.linker.now (string_bytes c.in_ok-path.path) c.in_ok-inner.inner
    (ap (option_map (λ linker. linker.now)) c.in-Some.is) c.in_ok-path.ensures (c.in_ok-inner.ensures ∙ ap inner_path c.as_str.ensures.value)
