use Rattle.std.proofs.Common.{◌≡◌, ◌++◌, map, take}
use Rattle.std.specs.List.{flat_map}
use Rattle.blz_fold.specs.Numbered.{list_at}
use Rattle.blz_fold.proofs.counting.join_lists.Given as goal

abbrev pub invariant-loop-addr : goal.invariant-loop-addr
invariant-loop-addr l = l.numbers.items ≡ l.initial.numbers.items ++ flat_map (list_at l.addresses.keys (map (λ v. v.items) l.lists)) (take l.addr-index l.asked)
