use Rattle.std.proofs.Common.{Option, sym, subst}
use Rattle.blz_model.specs.Part.{Gives}
use Rattle.blz_info.specs.Marks.{or_invalid}
use Rattle.blz_functions.specs.CallTree.{CallLists}
use Rattle.blz_reader.specs.Readers.{reader_files, reader_table}
use Rattle.blz_reader.proofs.KeptTold.{place_mark, place_good}
use Rattle.blz_reader.proofs.reader.Reader.calls_by_number.Goals as goal

pub returns-in-Err-clause-value : goal.returns-in-Err-clause-value
returns-in-Err-clause-value c = λ ne. place_mark (reader_files c.args.self.now) (reader_table c.args.self.now) c.args.units.now c.args.number c.args.function _ c.requires.fits c.requires.filled c.in-Err.ensures

pub returns-clause-value : goal.returns-clause-value
returns-clause-value c = subst (λ (o : Option CallLists). Gives (λ l. l) c.read_calls.result (or_invalid o)) (sym (place_good (reader_files c.args.self.now) (reader_table c.args.self.now) c.args.units.now c.args.number c.args.function c.in-Ok.place c.requires.fits c.requires.filled c.in-Ok.ensures)) c.read_calls.ensures.value
