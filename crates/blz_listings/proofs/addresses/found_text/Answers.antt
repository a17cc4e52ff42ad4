use Rattle.std.proofs.Common.{arith, map, string_bytes}
use Rattle.std.proofs.lemmas.List.{length-map}
use Rattle.std.proofs.lemmas.Result.{err_from_is_err_and}
use Rattle.blz_program.proofs.Cuts.{not_empty}
use Rattle.blz_resolver.specs.BundleViews.{bundle_view}
use Rattle.blz_listings.proofs.NameSteps.{frame_break, names_asked}
use Rattle.blz_listings.proofs.addresses.found_text.Goals as goal

pub returns-in_err-resolver : goal.returns-in_err-resolver
returns-in_err-resolver g c =
    let p = err_from_is_err_and c.from_residual.result c.from_residual.ensures.1 in
    rw (p.1, p.2) (frame_break _ _ _ _ c.in_err-resolver.ensures.frame)

pub returns : goal.returns
returns g c =
    let names = c.args.sought.now.names.now in
    rw (
      names_asked c.args.sought.now.file_offset (map string_bytes names) (bundle_view c.args.bundle.now) (omega (arith, length-map names string_bytes, not_empty _ _ c.is_empty.ensures c.if-is_empty.false)),
      ← c.in_ok-resolver.ensures.images,
      ← c.asking-opts.ensures,
    ) c.names_text.ensures
