use Rattle.std.proofs.Common.{None}
use Rattle.blz_reader.proofs.CacheSteps.{fills_again}
use Rattle.blz_reader.proofs.reader.Reader.fill_lines.Goals as goal

pub returns-in_err-fill_root-clause-fills : goal.returns-in_err-fill_root-clause-fills
returns-in_err-fill_root-clause-fills g c = c.fill_root.ensures.fills g.O.Orders.pair_places

pub returns-then-not-lacks_lines-clause-fills : goal.returns-then-not-lacks_lines-clause-fills
returns-then-not-lacks_lines-clause-fills g c = c.fill_root.ensures.fills g.O.Orders.pair_places

pub put_lines_of-requires-clause-fillable : goal.put_lines_of-requires-clause-fillable
put_lines_of-requires-clause-fillable g c = (c.fill_root.ensures.fills None).fillable

pub returns-in-Ok-clause-fills : goal.returns-in-Ok-clause-fills
returns-in-Ok-clause-fills g c = fills_again _ _ _ _ _ (c.fill_root.ensures.fills g.O.Orders.pair_places) c.put_lines_of.ensures.fills

pub returns-in-Err-clause-fills : goal.returns-in-Err-clause-fills
returns-in-Err-clause-fills g c = fills_again _ _ _ _ _ (c.fill_root.ensures.fills g.O.Orders.pair_places) c.put_lines_of.ensures.fills
