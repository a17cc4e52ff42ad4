use Rattle.std.proofs.Common.{◌≡◌, [], rules}
use Rattle.std.proofs.lemmas.List.Sorted.{answers_always}
use Rattle.blz_entry.specs.declared.aranges.ArangeSet.{ArangeSet}
use Rattle.blz_units.proofs.Named.{by_unit_from_sort}
use Rattle.blz_units.proofs.announced.address_sets.sorted_by_unit.Goals as goal

pub returns : goal.returns
returns c =
    let new : c.new-sorted.result.items ≡ [] = search rules in
    let keys = answers_always _ _ _ (λ f a r next called. search rules) in
    let sorted = c.in_ok-sort_by_key.ensures.sorted (λ (set : ArangeSet). set.unit) keys in
    let stable = c.sort_by_key.ensures.stable (λ (set : ArangeSet). set.unit) keys in
    by_unit_from_sort _ _ sorted (rw (c.in_ok-extend_from_slice.ensures.items, new) at stable)
