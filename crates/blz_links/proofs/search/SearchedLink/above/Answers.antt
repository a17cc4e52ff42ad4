use Rattle.std.proofs.Common.{sym}
use Rattle.blz_links.proofs.StageLemmas.{paths_at-above, paths_at-empty_parent, paths_at-no_parent}
use Rattle.blz_links.proofs.search.SearchedLink.above.Goals as goal

pub returns-in_default : goal.returns-in_default
returns-in_default c = paths_at-no_parent c.args.self.now c.args.index c.args.path.now c.in_ok-inner.field-0 (sym c.in_default.ensures) c.in_ok-inner.ensures

pub returns-then-is_empty : goal.returns-then-is_empty
returns-then-is_empty c = paths_at-empty_parent c.args.self.now c.args.index c.args.path.now c.in-Some.above.now c.in_ok-inner-2.field-0 (sym c.in-Some.ensures) (sym c.if-is_empty.ensures) c.in_ok-inner-2.ensures

pub returns : goal.returns
returns c = paths_at-above c.args.self.now c.args.index c.args.path.now c.in-Some.above.now c.in_ok-from_str.field-0 (sym c.in-Some.ensures) (sym c.if-is_empty.ensures) c.in_ok-from_str.ensures.ok
