use Rattle.std.proofs.Common.{refl}
use Rattle.blz_info.specs.FileSections.{sections_view}
use Rattle.blz_units.proofs.SharedSteps.{header_same, header_more}
use Rattle.blz_units.proofs.shared.shared_parts.SharedParts.keep_header.Goals as goal

pub returns-in_err-insert : goal.returns-in_err-insert
returns-in_err-insert c = header_same (sections_view c.args.sections.now) c.args.self.now _ c.in_err-insert.ensures.err refl refl c.requires.shared

pub returns : goal.returns
returns c = header_more (sections_view c.args.sections.now) c.args.self.now _ c.args.at c.args.address_size c.in_ok-insert.ensures.updates refl refl c.requires.header c.requires.shared
