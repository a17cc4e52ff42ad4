use Rattle.blz_reader.proofs.CacheSteps.{calls_put_or_not, calls_put_there, put_fills}
use Rattle.blz_reader.proofs.reader.Reader.put_calls_of.Goals as goal

pub returns-clause-filled : goal.returns-clause-filled
returns-clause-filled g c = calls_put_there c.args.caches.now.units.items _ c.args.number c.args.function c.in_ok-calls.calls c.put_calls.result c.requires.lacks c.put_calls.ensures c.in_ok-calls.ensures.read.full

pub returns-clause-fills : goal.returns-clause-fills
returns-clause-fills g c = put_fills g.O.Orders.pair_places c.args.self.now c.args.caches.now _ c.requires.fillable c.calls_part.ensures.built (calls_put_or_not c.args.self.now g.O.Orders.pair_places c.args.caches.now.units.items _ c.args.number c.args.function c.in_ok-calls.calls c.put_calls.result c.requires.fillable.fits.units c.requires.lacks c.put_calls.ensures c.in_ok-calls.ensures.read)
