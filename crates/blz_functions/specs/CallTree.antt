-- The inlined calls of a function, over the trees of the entries below it (DWARF 5 section 3.3.8).
use Rattle.std.specs.Prelude.{◌≡◌, ℕ, suc, ◌+◌, ◌-◌, Bool, true, false, ◌&&◌, List, [], ◌∷◌, ◌++◌, length, map, Option, Some, None, nat_le, ◌==◌, if◌then◌else◌}
use Rattle.blz_constants.specs.declared.dwarf.TheConstants as dwarf
use Rattle.blz_model.specs.Reads.{◌>>=◌}
use Rattle.blz_entry.specs.Folds.{fold_maybe}
use Rattle.blz_info.specs.Forest.{Info, Head, Close, Open, Forest, Empty, Node, Grown, grown}
use Rattle.blz_info.specs.Walks.{head_at}
use Rattle.blz_ranges.specs.declared.span.Span.{Span}
use Rattle.blz_functions.specs.declared.description.Description.{Description}
use Rattle.blz_ranges.specs.declared.grouped.Grouped.{Grouped}
use Rattle.blz_functions.specs.declared.inlined_functions.InlinedFunction.{InlinedFunction}
use Rattle.blz_functions.specs.Chain.{TreeCall, IsTree, call_range, ranges_of}
use Rattle.blz_functions.specs.Describing.{Refer, undescribed, description_step}
use Rattle.blz_functions.specs.FunctionList.{is_function}
use Rattle.blz_functions.specs.Leaves.{UnitParts, ranges_in, source_in}
use Rattle.blz_ranges.specs.Owned.{Owned}

-- DW_TAG_inlined_subroutine
abbrev pub is_call_tag : ℕ → Bool
is_call_tag tag = tag == dwarf.DW_TAG_inlined_subroutine

-- whether an entry is an inlined call
abbrev pub is_call : Info → Bool
is_call e = is_call_tag e.tag

-- the entry of a call, how many calls stand above it, and the number of the nearest of them
pub record CallEntry : Type 0 where
  pub entry : Info
  pub depth : ℕ
  pub parent : Option ℕ

-- The calls of trees in file order, below no further function. n calls stand before them.
unfoldable pub calls_in : ℕ → Option ℕ → ℕ → Forest → List CallEntry
calls_in depth parent n Empty = []
calls_in depth parent n (Node e closed children beside) =
    if is_call e then (
    let inner = calls_in (depth + 1) (Some n) (n + 1) children in
    record { entry = e; depth = depth; parent = parent } ∷ (inner ++ calls_in depth parent (n + 1 + length inner) beside)) else (
    if is_function e then calls_in depth parent n beside else (
    let inner = calls_in depth parent n children in
    inner ++ calls_in depth parent (n + length inner) beside))

-- a call of trees with its ranges
abbrev pub inlined : (Info → List Span) → CallEntry → TreeCall
inlined ranges c = record { depth = c.depth; parent = c.parent; ranges = ranges c.entry }

-- whether each entry of trees is closed
unfoldable pub all_closed : Forest → Bool
all_closed Empty = true
all_closed (Node e closed children beside) = closed && (all_closed children && all_closed beside)

-- ---- the trees below an entry

-- no trees, closed, before a place: those of an entry without children
abbrev pub no_trees : ℕ → Grown
no_trees at = record { forest = Empty; closed = true; after = at }

-- the trees whose first entry stands at a place, up to the zero that ends them
abbrev pub children : (ℕ → Option Head) → ℕ → ℕ → Option Grown
children head end at = grown head end (suc (end - at)) false at

-- the trees below what is at a place, which has to be an entry and no zero
abbrev pub below_head : (ℕ → Option Head) → ℕ → Option Head → Option Grown
below_head head end None = None
below_head head end (Some (Close next)) = None
below_head head end (Some (Open true e next)) = children head end next
below_head head end (Some (Open false e next)) = Some (no_trees next)

-- the trees below the entry at a place, which has to be one of the unit
unfoldable pub trees_below : UnitParts → ℕ → Option Grown
trees_below u place = if nat_le u.header.entries place && nat_le place u.header.end then below_head (head_at (source_in u)) u.header.end (head_at (source_in u) place) else None

-- trees have to be closed: the zero that ends them is there, and so are those of all entries in them
abbrev pub closed_trees : Grown → Option Forest
closed_trees g = if g.closed && all_closed g.forest then Some g.forest else None

-- ---- the calls

-- a call with its ranges
pub record RangedCall : Type 0 where
  pub call : InlinedFunction
  pub depth : ℕ
  pub parent : Option ℕ
  pub ranges : List Span

-- a call by its description: its name, and its call file, line and column
abbrev pub call_by : Description → InlinedFunction
call_by d = record { name = d.name; call_file = d.site.file; call_line = d.site.line; call_column = d.site.column }

-- a call by the attributes of its entry, with its ranges
unfoldable pub call_of : Refer → UnitParts → CallEntry → Option RangedCall
call_of refer u c = do
  d ← fold_maybe (description_step refer u) undescribed c.entry.attributes
  ranges ← ranges_in u d.ranges
  Some (record { call = call_by d; depth = c.depth; parent = c.parent; ranges = ranges })

-- each of some calls
unfoldable pub all_calls : Refer → UnitParts → List CallEntry → Option (List RangedCall)
all_calls refer u [] = Some []
all_calls refer u (c ∷ rest) = do
  call ← call_of refer u c
  calls ← all_calls refer u rest
  Some (call ∷ calls)

-- the calls of trees, below a function
abbrev pub calls_below : Refer → UnitParts → Grown → Option (List RangedCall)
calls_below refer u g = closed_trees g >>= λ trees. all_calls refer u (calls_in 0 None 0 trees)

-- the calls of the function at a place
unfoldable pub calls_of : Refer → UnitParts → ℕ → Option (List RangedCall)
calls_of refer u place = trees_below u place >>= calls_below refer u

abbrev pub tree_call : RangedCall → TreeCall
tree_call c = record { depth = c.depth; parent = c.parent; ranges = c.ranges }

-- ---- as lists: the calls, and their ranges in groups by depth, each with the number of its call

-- the inlined calls of a function, and their ranges, each with its depth and the number of its call
pub record CallLists : Type 0 where
  pub calls : List InlinedFunction
  pub ranges : List (Owned Grouped)

-- before the first call
abbrev pub no_calls : CallLists
no_calls = record { calls = []; ranges = [] }

-- the lists with one more call, of a depth and with ranges
abbrev pub with_call : CallLists → InlinedFunction → ℕ → List Span → CallLists
with_call l call depth ranges = record { calls = l.calls ++ call ∷ []; ranges = l.ranges ++ map (call_range depth (length l.calls)) ranges }

-- the lists with further calls, in their order
abbrev pub calls_with : CallLists → List RangedCall → CallLists
calls_with l [] = l
calls_with l (c ∷ rest) = calls_with (with_call l c.call c.depth c.ranges) rest

-- the lists have the calls of a tree, and its ranges
pub record IsTreeOf (lists : CallLists) (tree : List TreeCall) : Type 0 where
  pub ranges : lists.ranges ≡ ranges_of 0 tree
  pub count : length lists.calls ≡ length tree
  pub is_tree : IsTree tree

abbrev pub lists_below : Refer → UnitParts → Grown → Option CallLists
lists_below refer u g = calls_below refer u g >>= λ calls. Some (calls_with no_calls calls)

-- the lists of the calls among the entries from a place on, up to the zero that closes their function
abbrev pub calls_from : Refer → UnitParts → ℕ → Option CallLists
calls_from refer u at = children (head_at (source_in u)) u.header.end at >>= lists_below refer u

-- the lists of the calls of the function at a place
abbrev pub unit_calls : Refer → UnitParts → ℕ → Option CallLists
unit_calls refer u place = calls_of refer u place >>= λ calls. Some (calls_with no_calls calls)

-- the lists with a call that was described, whose ranges are read
unfoldable pub call_added : UnitParts → CallLists → ℕ → Description → Option CallLists
call_added u l depth d = ranges_in u d.ranges >>= λ ranges. Some (with_call l (call_by d) depth ranges)
