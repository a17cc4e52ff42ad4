use Rattle.std.proofs.Common.{refl}
use Rattle.blz_reader.specs.Readers.{reader_files, reader_table}
use Rattle.blz_reader.proofs.KeptTold.{root_mark}
use Rattle.blz_reader.proofs.reader.Reader.lines_part.Goals as goal

pub returns-in-Err-clause-read : goal.returns-in-Err-clause-read
returns-in-Err-clause-read g c = record {
  kept = rw c.kind.ensures (root_mark (reader_files c.args.self.now) (reader_table c.args.self.now) c.args.units.now c.args.number _ c.requires.fits c.requires.filled c.in-Err.ensures);
  full = refl;
  made = tt;
}
