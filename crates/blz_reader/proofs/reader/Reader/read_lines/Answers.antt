use Rattle.std.proofs.Common.{Option, refl, sym, ◌∙◌, subst}
use Rattle.blz_model.specs.Part.{Gives}
use Rattle.blz_info.specs.Marks.{or_invalid}
use Rattle.blz_line.specs.UnitLines.{LineTable}
use Rattle.blz_units.specs.KeptParts.{lines_view}
use Rattle.blz_reader.specs.Readers.{reader_files, reader_table}
use Rattle.blz_reader.proofs.KeptTold.{table_past}
use Rattle.blz_units.proofs.LinesLying.{lines_lying}
use Rattle.blz_reader.proofs.MainLines.{lines_by}
use Rattle.blz_reader.proofs.reader.Reader.read_lines.Goals as goal

pub returns-in-Some-clause-value : goal.returns-in-Some-clause-value
returns-in-Some-clause-value g c =
    let f = reader_files c.args.self.now in
    let t = reader_table c.args.self.now in
    subst (λ (o : Option (Option LineTable)). Gives lines_view c.lines.result (or_invalid o)) (lines_lying c.args.self.now.dwarf.now.main c.in-Some.header c.args.root.now c.args.root.now.line ∙ sym (lines_by f t c.args.number c.in-Some.header c.args.root.now (sym c.in-Some.ensures.header) c.requires.root)) c.lines.ensures.value

pub returns-in-None-clause-value : goal.returns-in-None-clause-value
returns-in-None-clause-value g c = λ _. rw (c.invalid.ensures, table_past (reader_files c.args.self.now) (reader_table c.args.self.now) c.args.number (sym c.in-None.ensures.header)) refl
