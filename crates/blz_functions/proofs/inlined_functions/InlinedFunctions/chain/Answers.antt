use Rattle.std.proofs.Common.{sym, ap, ◌∙◌}
use Rattle.blz_functions.specs.Chain.{at_depth, picked}
use Rattle.blz_functions.proofs.ChainLoop.{stop, goes, done}
use Rattle.blz_functions.proofs.inlined_functions.InlinedFunctions.chain.Goals as goal

pub returns-in-None : goal.returns-in-None
returns-in-None g c = stop (at_depth c.args.self.now.ranges c.args.addr) c.count-limit.result c.loop-depth.depth _ _ c.loop-depth-test.true (sym c.in-None.ensures.best) c.loop-depth.invariant ∙ ap (λ n. picked (at_depth c.args.self.now.ranges c.args.addr) n 0) c.count-limit.ensures

pub loop-depth-preserved : goal.loop-depth-preserved
loop-depth-preserved g c = goes (at_depth c.args.self.now.ranges c.args.addr) c.count-limit.result c.loop-depth.depth c.in-Some.call _ _ _ c.loop-depth-test.true (sym c.in-Some.ensures.best) c.in_ok-push-in-Some.ensures.items c.loop-depth.invariant

pub returns : goal.returns
returns g c = done (at_depth c.args.self.now.ranges c.args.addr) c.count-limit.result c.loop-depth.depth _ _ c.loop-depth-test.false c.loop-depth.invariant ∙ ap (λ n. picked (at_depth c.args.self.now.ranges c.args.addr) n 0) c.count-limit.ensures
