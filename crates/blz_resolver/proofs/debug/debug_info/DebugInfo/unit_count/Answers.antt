use Rattle.std.proofs.Common.{sym, ap, ◌∙◌}
use Rattle.blz_model.specs.Part.{Part}
use Rattle.blz_resolver.specs.Books.{Book}
use Rattle.blz_bundle.specs.BundleViews.{bundle_view}
use Rattle.blz_resolver.specs.UnitRowsRead.{count_of}
use Rattle.blz_resolver.proofs.ReadBooks.{frame_is}
use Rattle.blz_resolver.proofs.debug.debug_info.DebugInfo.unit_count.Goals as goal

pub returns : goal.returns
returns c = c.len.ensures ∙ sym (ap (λ (p : Part Book). count_of p) (frame_is (bundle_view c.args.bundle.now) c.args.self.now c.requires))
