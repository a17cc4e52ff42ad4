use Rattle.blz_entry.specs.RangeLists.{ranges_of}
use Rattle.blz_entry.proofs.RangeSteps.{list_behind, list_told, put_told}
use Rattle.blz_entry.proofs.ranges.RangeAttributes.append.Goals as goal

pub returns-in-Some-clause-value : goal.returns-in-Some-clause-value
unfolding ranges_of
returns-in-Some-clause-value c =
    rw c.in-Some.is (list_told c.append_list.result _ _ _ _ (list_behind c.args.out.now.items c.args.sections.now c.args.header.now c.args.root.now c.in-Some.offset) c.append_list.ensures.value)

pub returns-in-None-clause-value : goal.returns-in-None-clause-value
unfolding ranges_of
returns-in-None-clause-value c =
    rw (c.in-None.is, ← c.bounds.ensures, ← c.not_empty.ensures) (put_told c.put.result _ _ _ c.put.ensures.ok c.put.ensures.memory)
