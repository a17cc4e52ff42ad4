use Rattle.std.proofs.Common.{sym, ◌∙◌}
use Rattle.blz_info.specs.Contents.{section_view}
use Rattle.blz_units.proofs.Named.{named_more, named_over}
use Rattle.blz_units.proofs.announced.address_sets.append_named.Goals as goal

pub loop-set-preserved : goal.loop-set-preserved
loop-set-preserved c = rw c.in_ok-append_for.ensures (sym (named_more (section_view c.args.aranges.now) c.args.start c.args.sets.now c.loop-set.set-index _ _ c.loop-set-test.true) ∙ c.loop-set.invariant)

pub returns : goal.returns
returns c = sym (named_over (section_view c.args.aranges.now) c.args.start c.args.sets.now c.loop-set.set-index _ c.loop-set-test.false) ∙ c.loop-set.invariant
