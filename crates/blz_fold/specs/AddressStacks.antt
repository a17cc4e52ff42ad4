-- Stacks of addresses.
use Rattle.std.specs.Prelude.{ℕ, List}
use Rattle.std.specs.List.{flat_map, sum_by}
use Rattle.blz_fold.specs.declared.stack_list.Stack.{Stack}

-- all their addresses, stack by stack
abbrev pub addresses_in : List Stack → List ℕ
addresses_in stacks = flat_map (λ stack. stack.addresses) stacks

-- the sum of their counts
abbrev pub count_total : List Stack → ℕ
count_total stacks = sum_by (λ stack. stack.count) stacks
