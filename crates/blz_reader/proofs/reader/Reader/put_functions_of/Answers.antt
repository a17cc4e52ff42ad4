use Rattle.std.proofs.Common.{refl}
use Rattle.blz_units.specs.KeptParts.{lacks_functions}
use Rattle.blz_reader.specs.Putting.{with_functions}
use Rattle.blz_reader.proofs.CacheSteps.{filled, put_fills, put_there, functions_put}
use Rattle.blz_reader.proofs.reader.Reader.put_functions_of.Goals as goal

pub returns-clause-filled : goal.returns-clause-filled
returns-clause-filled g c = put_there lacks_functions (with_functions c.in_ok-functions.functions) c.args.caches.now.units.items _ c.args.number refl c.requires.lacks c.put_functions.ensures (λ _. filled c.in_ok-functions.functions c.in_ok-functions.ensures.read.full)

pub returns-clause-fills : goal.returns-clause-fills
returns-clause-fills g c = put_fills g.O.Orders.pair_places c.args.self.now c.args.caches.now _ c.requires.fillable c.functions_part.ensures.fits (functions_put c.args.self.now g.O.Orders.pair_places c.args.caches.now.units.items _ c.args.number c.in_ok-functions.functions c.requires.fillable.fits.units c.requires.lacks c.put_functions.ensures c.in_ok-functions.ensures.read)
