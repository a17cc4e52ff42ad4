use Rattle.std.proofs.Common.{refl}
use Rattle.blz_units.specs.KeptParts.{lacks_root}
use Rattle.blz_reader.specs.Putting.{with_root}
use Rattle.blz_reader.proofs.CacheSteps.{filled, put_fills, put_there, root_put}
use Rattle.blz_reader.proofs.reader.Reader.put_root_of.Goals as goal

pub returns-clause-filled : goal.returns-clause-filled
returns-clause-filled c = put_there lacks_root (with_root c.in_ok-root.root) c.args.caches.now.units.items _ c.args.number refl c.requires.lacks c.put_root.ensures (λ _. filled c.in_ok-root.root c.in_ok-root.ensures.read.full)

pub returns-clause-fills : goal.returns-clause-fills
returns-clause-fills c = λ told. put_fills told c.args.self.now c.args.caches.now _ c.requires.fillable c.root_part.ensures.fits (root_put c.args.self.now told c.args.caches.now.units.items _ c.args.number c.in_ok-root.root c.requires.fillable.fits.units c.requires.lacks c.put_root.ensures c.in_ok-root.ensures.read)
