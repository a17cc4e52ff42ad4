use Rattle.std.proofs.Common.{◌≡◌, nat_eq, take}
use Rattle.std.specs.List.{fold}
use Rattle.blz_fold.specs.AddressStacks.{addresses_in}
use Rattle.blz_fold.specs.Counted.{distinct, with_new}
use Rattle.blz_fold.proofs.distinct_addresses.distinct_addresses.Given as goal

abbrev pub invariant-loop-addr : goal.invariant-loop-addr
invariant-loop-addr l = l.seen.keys ≡ fold (with_new nat_eq) (distinct nat_eq (addresses_in (take l.stack-index l.stacks))) (take l.addr-index l.addr-items)

abbrev pub invariant-loop-stack : goal.invariant-loop-stack
invariant-loop-stack l = l.seen.keys ≡ distinct nat_eq (addresses_in (take l.stack-index l.stacks))
