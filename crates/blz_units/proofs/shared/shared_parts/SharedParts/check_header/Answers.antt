use Rattle.std.proofs.Common.{refl, ap}
use Rattle.blz_info.specs.FileSections.{sections_view}
use Rattle.blz_info.specs.Marks.{or_invalid}
use Rattle.blz_info.proofs.Marked.{good_some}
use Rattle.blz_units.proofs.SharedSteps.{header_told}
use Rattle.blz_units.proofs.shared.shared_parts.SharedParts.check_header.Goals as goal

pub returns-then-has_header-clause-value : goal.returns-then-has_header-clause-value
returns-then-has_header-clause-value c =
    ap or_invalid (header_told (sections_view c.args.sections.now) c.args.self.now c.args.at c.args.address_size c.requires (c.if-has_header.ensures refl))

pub keep_header-requires-clause-header : goal.keep_header-requires-clause-header
keep_header-requires-clause-header c = good_some _ _ c.in_ok-read_header.ensures
