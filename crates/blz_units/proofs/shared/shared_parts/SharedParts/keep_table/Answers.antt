use Rattle.std.proofs.Common.{◌≡◌, Some, refl}
use Rattle.std.specs.Arc.{arc_value}
use Rattle.blz_info.specs.AbbreviationTables.{abbreviations}
use Rattle.blz_info.specs.FileSections.{sections_view}
use Rattle.blz_units.proofs.SharedSteps.{table_same, table_more}
use Rattle.blz_units.proofs.shared.shared_parts.SharedParts.keep_table.Goals as goal

pub returns-in_err-insert : goal.returns-in_err-insert
returns-in_err-insert c = table_same (sections_view c.args.sections.now) c.args.self.now _ c.in_err-insert.ensures.err refl refl c.requires.shared

pub returns : goal.returns
returns c =
    let here : abbreviations (sections_view c.args.sections.now).«abbrev».bytes c.args.header.now.«abbrev» ≡ Some (arc_value c.in_ok-table.table) = rw c.in_ok-table.ensures c.requires.table in
    table_more (sections_view c.args.sections.now) c.args.self.now _ c.table_key.result c.in_ok-table.table c.in_ok-insert.ensures.updates refl refl (rw c.table_key.ensures here) c.requires.shared
