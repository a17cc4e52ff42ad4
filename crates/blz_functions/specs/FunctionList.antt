-- The functions of a unit (DWARF 5 section 3.3.1).
use Rattle.std.specs.Prelude.{ℕ, Bool, List, [], ◌∷◌, ◌++◌, length, map, Option, Some, None, ◌==◌, if◌then◌else◌}
use Rattle.blz_constants.specs.declared.dwarf.TheConstants as dwarf
use Rattle.blz_model.specs.Reads.{◌>>=◌}
use Rattle.blz_entry.specs.Folds.{fold_maybe}
use Rattle.blz_info.specs.Forest.{Info, flat}
use Rattle.blz_entry.specs.RangeLists.{bounds_of}
use Rattle.blz_info.specs.Walks.{Walk, head_at}
use Rattle.blz_info.specs.declared.entries.Entry.{Entry}
use Rattle.blz_ranges.specs.declared.span.Span.{Span}
use Rattle.blz_functions.specs.declared.functions.Function.{Function}
use Rattle.blz_functions.specs.declared.description.Description.{Description}
use Rattle.blz_ranges.specs.Owned.{Owned, own_all}
use Rattle.blz_functions.specs.Leaves.{UnitParts, ranges_in, source_in}
use Rattle.blz_functions.specs.Describing.{Refer, undescribed, description_step, described_if}

-- a function with its ranges
pub record RangedFunction : Type 0 where
  pub function : Function
  pub ranges : List Span

-- a function by the place of its entry and its description: its name and its bounds
abbrev pub function_by : ℕ → Description → Function
function_by place d = record { place = place; name = d.name; bounds = bounds_of d.ranges }

-- a function by the attributes of its entry, with its ranges
unfoldable pub function_of : Refer → UnitParts → Info → Option RangedFunction
function_of refer u e = do
  d ← fold_maybe (description_step refer u) undescribed e.attributes
  ranges ← ranges_in u d.ranges
  Some (record { function = function_by e.place d; ranges = ranges })

-- DW_TAG_subprogram
abbrev pub is_function_tag : ℕ → Bool
is_function_tag tag = tag == dwarf.DW_TAG_subprogram

-- whether an entry is a function
abbrev pub is_function : Info → Bool
is_function e = is_function_tag e.tag

-- the functions among entries; all of them are read
unfoldable pub functions_among : Refer → UnitParts → List Info → Option (List RangedFunction)
functions_among refer u [] = Some []
functions_among refer u (e ∷ rest) = if is_function e then (do
  f ← function_of refer u e
  fs ← functions_among refer u rest
  Some (f ∷ fs))
    else functions_among refer u rest

-- the entries of a unit from a place on, where d of them are open
abbrev pub entries_from : UnitParts → ℕ → ℕ → Option (List (ℕ × Info))
entries_from u d at = flat (head_at (source_in u)) u.header.end d at

-- the entries without their depths
abbrev pub infos : List (ℕ × Info) → List Info
infos list = map (λ (e : ℕ × Info). e.1) list

-- the subprograms of a unit in file order, also those without a range
unfoldable pub functions_of : Refer → UnitParts → Option (List RangedFunction)
functions_of refer u = entries_from u 0 u.header.entries >>= λ es. functions_among refer u (infos es)

-- ---- as lists: the functions, and their ranges, each with the number of its function

-- the functions of a unit, and their ranges, each with the number of its function
pub record Lists : Type 0 where
  pub functions : List Function
  pub ranges : List (Owned Span)

-- before the first function
abbrev pub no_lists : Lists
no_lists = record { functions = []; ranges = [] }

-- the lists with one more function, which is left out where it has no range
abbrev pub with_ranges : Lists → Function → List Span → Lists
with_ranges l f [] = l
with_ranges l f (s ∷ ranges) = record { functions = l.functions ++ f ∷ []; ranges = l.ranges ++ own_all (length l.functions) (s ∷ ranges) }

-- the lists with further functions, in their order
abbrev pub lists_with : Lists → List RangedFunction → Lists
lists_with l [] = l
lists_with l (f ∷ fs) = lists_with (with_ranges l f.function f.ranges) fs

abbrev pub lists_of : List RangedFunction → Lists
lists_of fs = lists_with no_lists fs

-- the lists with a function that was described, whose ranges are read
unfoldable pub lists_added : UnitParts → Lists → ℕ → Description → Option Lists
lists_added u l place d = ranges_in u d.ranges >>= λ ranges. Some (with_ranges l (function_by place d) ranges)

-- ---- while a unit is read

-- the lists of all functions from a place of a unit on, where d entries are open, behind those so far
unfoldable pub lists_from : Refer → UnitParts → Lists → ℕ → ℕ → Option Lists
lists_from refer u l d at = do
  es ← entries_from u d at
  fs ← functions_among refer u (infos es)
  Some (lists_with l fs)

-- the lists of the functions of a unit
abbrev pub unit_lists : Refer → UnitParts → Option Lists
unit_lists refer u = lists_from refer u no_lists 0 u.header.entries

-- ---- one entry of a walk

-- the lists with the function that an entry is, if it is one
abbrev pub function_added : UnitParts → Lists → ℕ → Option Description → Option Lists
function_added u l place None = Some l
function_added u l place (Some d) = lists_added u l place d

abbrev pub function_behind : UnitParts → Lists → ℕ → Option Description × ℕ → Option (Lists × ℕ)
function_behind u l place p = function_added u l place p.0 >>= λ m. Some (m, p.1)

-- the lists with an entry that a walk has met, and the place behind it
unfoldable pub entry_met : Refer → UnitParts → Lists → Entry → Walk → Option (Lists × ℕ)
entry_met refer u l e w = described_if refer u (is_function_tag e.tag) e.code w >>= function_behind u l e.place
