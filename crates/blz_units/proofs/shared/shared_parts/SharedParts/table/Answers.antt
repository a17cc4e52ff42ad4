use Rattle.std.proofs.Common.{ap}
use Rattle.std.specs.Arc.{arc_value}
use Rattle.blz_info.specs.FileSections.{sections_view}
use Rattle.blz_info.specs.Marks.{or_invalid}
use Rattle.blz_units.proofs.SharedSteps.{table_told}
use Rattle.blz_units.proofs.shared.shared_parts.SharedParts.table.Goals as goal

pub returns-in-Some-clause-value : goal.returns-in-Some-clause-value
returns-in-Some-clause-value c =
    ap or_invalid (table_told (sections_view c.args.sections.now) c.args.self.now c.args.header.now (arc_value c.in-Some.table) c.requires (rw c.in-Some.is at c.in_ok-kept.ensures))
