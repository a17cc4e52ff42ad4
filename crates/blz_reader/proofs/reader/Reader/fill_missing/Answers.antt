use Rattle.std.proofs.Common.{sym}
use Rattle.blz_reader.specs.Readers.{reader_files}
use Rattle.blz_units.proofs.BuiltSteps.{all_put, kept_by, never_missing, put_filled}
use Rattle.blz_reader.proofs.reader.Reader.fill_missing.Goals as goal

pub returns-in-None-clause-filled : goal.returns-in-None-clause-filled
returns-in-None-clause-filled c = absurd (never_missing c.args.units.now c.args.built.now.units.items c.args.number c.requires.fits.all.same (sym c.in-None.ensures.header) c.requires.missing)

pub returns-clause-fits : goal.returns-clause-fits
returns-clause-fits c =
    let f = reader_files c.args.self.now in
    record {
      all = rw c.put.ensures (all_put f c.args.side c.args.units.now c.args.built.now.units.items c.args.number c.in_ok-made.made (kept_by f c.args.side c.args.units.now c.args.number c.in-Some.header c.in_ok-made.made (sym c.in-Some.ensures.header) c.in_ok-made.ensures.kept) c.requires.fits.all);
      shared = c.part.ensures.shared;
      packed = c.part.ensures.packed;
    }

pub returns-clause-filled : goal.returns-clause-filled
returns-clause-filled c = rw c.put.ensures (put_filled c.args.built.now.units.items c.args.number c.in_ok-made.made c.requires.missing c.in_ok-made.ensures.full)
