use Rattle.blz_ranges.proofs.Turning.{begun, goes_on}
use Rattle.blz_ranges.proofs.turned.run_at.Goals as goal

pub returns-then-at-last : goal.returns-then-at-last
returns-then-at-last c = begun c.args.keys.now c.args.places.now c.args.at c.run_to.result c.args.last c.requires.within c.requires.last c.if-at-last.true c.run_to.ensures

pub returns-else-at-last : goal.returns-else-at-last
returns-else-at-last c = goes_on c.args.keys.now c.args.places.now c.args.at c.args.last c.requires.last c.if-at-last.false
