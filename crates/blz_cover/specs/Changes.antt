-- What a list of changes leaves: the sum of what was added, less the sum of what was taken.
use Rattle.std.specs.Prelude.{ℕ, ◌-◌, ◌==◌, ◌&&◌, Bool, true, false, List, sum_by, if◌then◌else◌}
use Rattle.blz_cover.specs.declared.change.Way.{Way}
use Rattle.blz_cover.specs.declared.change.Way.TheVariants.{Added, Taken}
use Rattle.blz_cover.specs.declared.change.Change.{Change}

abbrev pub is_added : Way → Bool
is_added Added = true
is_added Taken = false

abbrev pub is_taken : Way → Bool
is_taken Added = false
is_taken Taken = true

-- what a change adds at the addresses that pass a test
abbrev pub added_by : (ℕ → Bool) → Change → ℕ
added_by test c = if is_added c.way && test c.addr then c.count else 0

-- what it takes there
abbrev pub taken_by : (ℕ → Bool) → Change → ℕ
taken_by test c = if is_taken c.way && test c.addr then c.count else 0

-- what was added and not taken again, at the addresses that pass a test
unfoldable pub left_at : (ℕ → Bool) → List Change → ℕ
left_at test changes = sum_by (added_by test) changes - sum_by (taken_by test) changes

-- what is left of one address
abbrev pub count_of : ℕ → List Change → ℕ
count_of addr changes = left_at (λ a. a == addr) changes

-- what is left of all
abbrev pub total_of : List Change → ℕ
total_of changes = left_at (λ _. true) changes

-- a count that was added at an address, and one that was taken
abbrev pub added : ℕ → ℕ → Change
added addr count = record { addr = addr; count = count; way = Added }

abbrev pub taken : ℕ → ℕ → Change
taken addr count = record { addr = addr; count = count; way = Taken }
