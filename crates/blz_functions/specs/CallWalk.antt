-- The calls of a function as its entries are read, one after the other.
use Rattle.std.specs.Prelude.{◌≡◌, ℕ, ◌+◌, ◌-◌, ◌≤◌, List, ◌∷◌, [], ◌++◌, length, take, Option, Some, None, is_some, ◌==◌, if◌then◌else◌}
use Rattle.std.specs.List.{slice_get}
use Rattle.blz_model.specs.Reads.{◌>>=◌}
use Rattle.blz_info.specs.Walks.{Walk}
use Rattle.blz_info.specs.declared.entries.Entry.{Entry}
use Rattle.blz_functions.specs.declared.description.Description.{Description}
use Rattle.blz_functions.specs.declared.levels.Above.{Above}
use Rattle.blz_functions.specs.declared.levels.Above.TheVariants.{Calls, AnotherFunction}
use Rattle.blz_functions.specs.CallTree.{CallLists, is_call_tag, call_added}
use Rattle.blz_functions.specs.Describing.{Refer, described_if}
use Rattle.blz_functions.specs.FunctionList.{is_function_tag}
use Rattle.blz_functions.specs.Leaves.{UnitParts}

-- ---- what stands above the entries of the levels that are open, the outermost first

abbrev pub depth_of : Above → ℕ
depth_of (Calls depth) = depth
depth_of AnotherFunction = 0

-- above the children of an entry with a tag
abbrev pub below_tag : Above → ℕ → Above
below_tag (Calls depth) tag = if is_call_tag tag then Calls (depth + 1) else (if is_function_tag tag then AnotherFunction else Calls depth)
below_tag AnotherFunction tag = AnotherFunction

abbrev pub innermost : List Above → Option Above
innermost levels = slice_get levels (length levels - 1)

abbrev pub closed_level : List Above → List Above
closed_level levels = take (length levels - 1) levels

abbrev pub opened_by : List Above → ℕ → Option Above → List Above
opened_by levels tag None = levels
opened_by levels tag (Some above) = levels ++ below_tag above tag ∷ []

abbrev pub opened_level : List Above → ℕ → List Above
opened_level levels tag = opened_by levels tag (innermost levels)

-- A zero closes a level, and an entry that has children opens one.
abbrev pub levels_behind : List Above → Entry → List Above
levels_behind levels e = if e.code == 0 then closed_level levels else (if e.children then opened_level levels e.tag else levels)

-- no more calls stand above the entries of a level than levels are open around it
abbrev pub IsCounted : List Above → Type 0
IsCounted levels = (k : ℕ) (x : Above) → slice_get levels k ≡ Some x → depth_of x ≤ k

-- ---- one entry of the walk

-- the depth of an entry below what stands above it, where it is a call of the function
abbrev pub call_depth : Option Above → ℕ → Option ℕ
call_depth None tag = None
call_depth (Some (Calls depth)) tag = if is_call_tag tag then Some depth else None
call_depth (Some AnotherFunction) tag = None

-- the lists with the call that an entry is, if it is one
abbrev pub call_if : UnitParts → CallLists → Option ℕ → Option Description → Option CallLists
call_if u l (Some depth) (Some d) = call_added u l depth d
call_if u l (Some depth) None = Some l
call_if u l None d = Some l

abbrev pub call_behind : UnitParts → CallLists → Option ℕ → Option Description × ℕ → Option (CallLists × ℕ)
call_behind u l depth p = call_if u l depth p.0 >>= λ m. Some (m, p.1)

-- the lists with an entry that a walk has met, and the place behind it
unfoldable pub call_met : Refer → UnitParts → CallLists → Option ℕ → Entry → Walk → Option (CallLists × ℕ)
call_met refer u l depth e w = described_if refer u (is_some depth) e.code w >>= call_behind u l depth
