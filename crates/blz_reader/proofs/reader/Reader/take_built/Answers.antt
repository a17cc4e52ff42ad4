use Rattle.blz_model.specs.declared.cache.Cache.TheVariants.{Empty}
use Rattle.blz_units.specs.declared.built_units.Side.TheVariants.{File}
use Rattle.blz_reader.specs.Readers.{reader_files, reader_table}
use Rattle.blz_units.specs.UnitAnswers.{read_unit}
use Rattle.blz_units.proofs.BuiltSteps.{all_put, taken_is}
use Rattle.blz_reader.proofs.reader.Reader.take_built.Goals as goal

pub returns-clause-fits : goal.returns-clause-fits
returns-clause-fits c =
    let f = reader_files c.args.self.now in
    let t = reader_table c.args.self.now in
    record { kept = record { all = rw c.take.ensures.left (all_put f File t.kept c.args.built.now.kept.units.items c.args.number Empty tt c.requires.fits.kept.all); shared = c.requires.fits.kept.shared; packed = c.requires.fits.kept.packed }; sups = c.requires.fits.sups }

pub returns-clause-taken : goal.returns-clause-taken
unfolding read_unit
returns-clause-taken c =
    let f = reader_files c.args.self.now in
    let t = reader_table c.args.self.now in
    rw c.take.ensures.taken (taken_is f File t.kept c.args.built.now.kept.units.items c.args.number c.requires.fits.kept.all c.requires.filled)
