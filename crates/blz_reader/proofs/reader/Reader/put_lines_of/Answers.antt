use Rattle.std.proofs.Common.{refl}
use Rattle.blz_units.specs.KeptParts.{lacks_lines}
use Rattle.blz_reader.specs.Putting.{with_lines}
use Rattle.blz_reader.proofs.CacheSteps.{filled, put_fills, put_there, lines_put}
use Rattle.blz_reader.proofs.reader.Reader.put_lines_of.Goals as goal

pub returns-clause-filled : goal.returns-clause-filled
returns-clause-filled g c = put_there lacks_lines (with_lines c.in_ok-lines.lines) c.args.caches.now.units.items _ c.args.number refl c.requires.lacks c.put_lines.ensures (λ _. filled c.in_ok-lines.lines c.in_ok-lines.ensures.read.full)

pub returns-clause-fills : goal.returns-clause-fills
returns-clause-fills g c = put_fills g.O.Orders.pair_places c.args.self.now c.args.caches.now _ c.requires.fillable c.lines_part.ensures.built (lines_put c.args.self.now g.O.Orders.pair_places c.args.caches.now.units.items _ c.args.number c.in_ok-lines.lines c.requires.fillable.fits.units c.requires.lacks c.put_lines.ensures c.in_ok-lines.ensures.read)
