use Rattle.std.proofs.Common.{sym, ap, ◌∙◌}
use Rattle.blz_info.specs.FileSections.{sections_view}
use Rattle.blz_line.specs.ProgramTables.{ProgramTable}
use Rattle.blz_model.specs.Part.{Good}
use Rattle.blz_units.proofs.SharedPrograms.{broken_again, good_again, kept_at}
use Rattle.blz_units.proofs.shared.shared_programs.SharedPrograms.read.Goals as goal

pub returns-in_ok-asked_again-in-Some-Some-clause-value : goal.returns-in_ok-asked_again-in-Some-Some-clause-value
returns-in_ok-asked_again-in-Some-Some-clause-value g c =
    let s = sections_view c.args.sections.now in
    let kept = kept_at s c.args.self.now (c.program_key.result) c.in-Some-Some.field-0.now c.in-Some-Some.ensures.value c.requires in
    let is = rw (c.in-Some-Some.field-0-is, c.program_key.ensures) at kept in
    good_again c.args.sections.now c.args.header.now c.args.root.now c.args.at c.in-Some-Some.program is ∙ ap (λ (t : ProgramTable). Good t) (sym c.in_ok-asked_again-in-Some-Some.ensures.table)

pub returns-in-Some-None-clause-value : goal.returns-in-Some-None-clause-value
returns-in-Some-None-clause-value g c =
    let s = sections_view c.args.sections.now in
    let kept = kept_at s c.args.self.now (c.program_key.result) c.in-Some-None.field-0.now c.in-Some-None.ensures.value c.requires in
    let is = rw (c.in-Some-None.field-0-is, c.program_key.ensures) at kept in
    broken_again c.args.sections.now c.args.header.now c.args.root.now c.args.at _ c.invalid.ensures is
