use Rattle.std.proofs.Common.{sym, ap, ◌∙◌}
use Rattle.blz_program.proofs.Ends.{IsMade-refusal, IsMade-weaker}
use Rattle.blz_resolver.specs.Books.{framed}
use Rattle.blz_resolver.specs.Counts.{Rose}
use Rattle.blz_cover.specs.Counting.{FindsHits, FindsInBundle}
use Rattle.blz_cover.proofs.Made.{finds_in_framed, frame_cause}
use Rattle.blz_cover.proofs.program.made_of_bundle.Goals as goal

pub returns-in-Ok-clause-made : goal.returns-in-Ok-clause-made
returns-in-Ok-clause-made g c =
    let contents = g.F.Files.contents c.args.files.now in
    let bundle = c.args.bundle.now in
    let path = c.args.hits.now in
    let failed = Rose (g.F.Files.faults c.args.files.now) (g.F.Files.faults c.made_of_hits.new.files) in
    let resolver = c.in-Ok.resolver in
    let images = c.in-Ok.ensures.images ∙ c.bundle-bundle.ensures in
    let framed_is = sym (ap framed c.bundle-bundle.ensures) ∙ c.in-Ok.ensures.frame in
    IsMade-weaker c.made_of_hits.result (FindsHits contents resolver.images path) (FindsInBundle contents bundle path) failed failed
    (λ found finds. finds_in_framed contents resolver.images bundle path found images framed_is finds) (λ rose. rose) c.made_of_hits.ensures.made

pub returns-in-Err-clause-made : goal.returns-in-Err-clause-made
returns-in-Err-clause-made g c =
    let contents = g.F.Files.contents c.args.files.now in
    let bundle = c.args.bundle.now in
    let path = c.args.hits.now in
    let failed = Rose (g.F.Files.faults c.args.files.now) (g.F.Files.faults c.args.files.now) in
    let kind = c.in-Err.error.kind in
    let cause = frame_cause contents bundle path kind failed (λ other. sym (ap framed c.bundle-bundle.ensures) ∙ c.in-Err.ensures.frame other) c.in-Err.ensures.kinds in
    let same = c.refusal.ensures in
    let kind_is = c.kind.ensures in
    rw (same, kind_is) (IsMade-refusal (Unit {0}) kind (FindsInBundle contents bundle path) failed cause)
