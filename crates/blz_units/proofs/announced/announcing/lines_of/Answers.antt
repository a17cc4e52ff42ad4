use Rattle.std.proofs.Common.{Option, subst}
use Rattle.std.specs.Option.{option_map}
use Rattle.blz_model.specs.Part.{Gives}
use Rattle.blz_info.specs.Marks.{or_invalid}
use Rattle.blz_line.specs.UnitLines.{LineTable, OrderedLines}
use Rattle.blz_units.proofs.LinesLying.{lines_lying}
use Rattle.blz_units.proofs.announced.announcing.lines_of.Goals as goal

pub returns-clause-value : goal.returns-clause-value
returns-clause-value c =
    let unit = c.args.unit.now in
    subst (λ (o : Option (Option LineTable)). Gives (λ lines. option_map (λ (l : OrderedLines). l.table) lines) c.lines.result (or_invalid o)) (lines_lying unit.sections unit.header unit.root unit.root.line) c.lines.ensures.value
