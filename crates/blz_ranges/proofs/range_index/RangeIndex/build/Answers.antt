use Rattle.std.proofs.Common.{sym, ◌∙◌}
use Rattle.blz_ranges.proofs.Made.{keys_kept}
use Rattle.blz_ranges.proofs.Alone.{all_kept, spans_kept}
use Rattle.blz_ranges.proofs.range_index.RangeIndex.build.Goals as goal

pub build-requires : goal.build-requires
build-requires g c = keys_kept c.as_slice.result.now c.as_slice-2.result.now c.as_slice-3.result.now c.in_ok-list.list.items (c.as_slice.ensures.value ∙ sym c.as_slice-2.ensures.value) (c.as_slice-3.ensures.value ∙ c.in_ok-keys.ensures) c.in_ok-list.ensures

pub invariant_of-result : goal.invariant_of-result
invariant_of-result g c = all_kept c.as_slice-2.result.now c.in_ok-index.index.list (c.in_ok-index.ensures.list ∙ c.in_ok-list.ensures)

pub returns-clause-spans : goal.returns-clause-spans
returns-clause-spans g c = spans_kept c.as_slice-2.result.now c.in_ok-index.index.list (c.in_ok-index.ensures.list ∙ c.in_ok-list.ensures) ∙ c.as_slice-2.ensures.value
