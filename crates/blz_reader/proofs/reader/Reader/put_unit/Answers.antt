use Rattle.blz_units.specs.declared.built_units.Side.TheVariants.{File}
use Rattle.blz_reader.specs.Readers.{reader_files, reader_table}
use Rattle.blz_units.specs.UnitAnswers.{read_unit}
use Rattle.blz_units.proofs.BuiltSteps.{all_put, back_is}
use Rattle.blz_reader.proofs.reader.Reader.put_unit.Goals as goal

pub returns : goal.returns
unfolding read_unit
returns c =
    let f = reader_files c.args.self.now in
    let t = reader_table c.args.self.now in
    record { kept = record { all = rw c.put.ensures (all_put f File t.kept c.args.built.now.kept.units.items c.args.number c.args.unit (back_is f c.args.unit (read_unit f t c.args.number) c.requires.unit) c.requires.fits.kept.all); shared = c.requires.fits.kept.shared; packed = c.requires.fits.kept.packed }; sups = c.requires.fits.sups }
