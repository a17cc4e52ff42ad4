-- Numbers that stand for names.
use Rattle.std.specs.Prelude.{◌≡◌, ◌<◌, ◌^◌, ℕ, List, [], ◌++◌, length, map, slice_get, slice_index_or, Option, Some, None, nat_eq}
use Rattle.std.specs.List.{AllByRecursion, AllZip, IsDistinct, flat_map, position}
use Rattle.std.specs.Str.{bytes_eq}
use Rattle.blz_error.specs.Texts.{Bytes}
use Rattle.blz_fold.specs.Counted.{Counted, Node, total}
use Rattle.blz_fold.specs.declared.stack_list.Stack.{Stack}

-- the numbers are places of a table, and stand for the names there
abbrev pub Spells : List Bytes → List ℕ → List Bytes → Type 0
Spells table numbers names = AllZip (λ number name. slice_get table number ≡ Some name) numbers names

-- A table of distinct names stays, and further names may have come behind it.
pub record Grows (old new : List Bytes) : Type 0 where
  pub more : List Bytes
  pub behind : new ≡ old ++ more
  pub apart : IsDistinct bytes_eq old → IsDistinct bytes_eq new

-- what a number stands for
abbrev pub name_at : List Bytes → ℕ → Bytes
name_at table number = slice_index_or table number []

-- the list at a place, where there is one
abbrev pub list_in : List (List ℕ) → Option ℕ → List ℕ
list_in lists None = []
list_in lists (Some i) = slice_index_or lists i []

-- the list at the place of an address among the addresses
abbrev pub list_at : List ℕ → List (List ℕ) → ℕ → List ℕ
list_at addresses lists addr = list_in lists (position (nat_eq addr) addresses)

-- a stack, each of its addresses replaced by the list at its place
abbrev pub numbered : List ℕ → List (List ℕ) → Stack → Counted ℕ
numbered addresses lists stack = record { names = flat_map (list_at addresses lists) stack.addresses; count = stack.count }

-- the stack of the names for which the numbers of a stack stand
abbrev pub spelled : List Bytes → Counted ℕ → Counted Bytes
spelled table line = record { names = map (name_at table) line.names; count = line.count }

abbrev pub spelled_node : List Bytes → Node ℕ → Node Bytes
spelled_node table node = record { names = map (name_at table) node.names; count = node.count; own = node.own }

-- each number of a stack is a place of the table
abbrev pub IsPlaced : List Bytes → Counted ℕ → Type 0
IsPlaced table line = AllByRecursion (λ number. number < length table) line.names

-- The names of a table differ, the numbers of the lines are its places, and the counts of the lines sum to a u64.
pub record AreSpelled (table : List Bytes) (lines : List (Counted ℕ)) : Type 0 where
  pub apart : IsDistinct bytes_eq table
  pub placed : AllByRecursion (IsPlaced table) lines
  pub small : total lines < 2 ^ 64
