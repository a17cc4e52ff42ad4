-- What the steps of a search find.
use Rattle.std.specs.Prelude.{◌≡◌, ℕ, ◌+◌, ◌*◌, ◌<◌, ◌≤◌, Bool, true, false, ◌&&◌, ◌||◌, ◌==◌, List, length, Option, Some, None, nat_lt, nat_le, if◌then◌else◌}
use Rattle.std.specs.List.{slice_get}
use Rattle.blz_ranges.specs.declared.ordered.Ordered.{Ordered}
use Rattle.blz_ranges.specs.declared.ordered.Target.{Target}
use Rattle.blz_ranges.specs.declared.placed.Placed.{Placed}
use Rattle.blz_ranges.specs.Best.{NotAfter, passes}

-- from the ranges of a group that begin at or below an address
abbrev pub target_at : ℕ → ℕ → Target
target_at g addr = record { group = g; begin = addr; behind = None }

-- the same, of those that come after a range of which the place and the begin are given
abbrev pub target_after : ℕ → ℕ → ℕ → ℕ → Target
target_after g addr place begin = if nat_le begin addr then record { group = g; begin = begin; behind = Some place } else target_at g addr

abbrev pub is_behind : Option ℕ → ℕ → Bool
is_behind None place = true
is_behind (Some bound) place = nat_lt bound place

-- whether a search goes back from behind an entry
abbrev pub is_below : Ordered → Target → Bool
is_below e t = nat_lt e.group t.group || (e.group == t.group && (nat_lt e.span.begin t.begin || (e.span.begin == t.begin && is_behind t.behind e.place)))

pub record IsBelow (t : Target) (e : Ordered) : Type 0 where
  pub group_le : e.group ≤ t.group
  pub begin_le : e.group ≡ t.group → e.span.begin ≤ t.begin
  pub behind : e.group ≡ t.group → e.span.begin ≡ t.begin → is_behind t.behind e.place ≡ true

pub record IsAbove (t : Target) (e : Ordered) : Type 0 where
  pub group_le : t.group ≤ e.group
  pub begin_le : e.group ≡ t.group → t.begin ≤ e.span.begin
  pub not_behind : e.group ≡ t.group → e.span.begin ≡ t.begin → is_behind t.behind e.place ≡ false

-- A search goes back over the entries before an index, and over none from there on.
pub record IsSplit (entries : List Ordered) (t : Target) (at : ℕ) : Type 0 where
  pub within : at ≤ length entries
  pub below : (i : ℕ) (e : Ordered) → i < at → slice_get entries i ≡ Some e → IsBelow t e
  pub above : (i : ℕ) (e : Ordered) → at ≤ i → slice_get entries i ≡ Some e → IsAbove t e

-- whether an entry is of a group, covers an address, and comes after another range where that is asked
abbrev pub tests : ℕ → ℕ → Option Placed → Ordered → Bool
tests g addr after e = e.group == g && passes addr after e.place e.span

-- Of the entries before an index those of the group pass that end above the address; from there on none does.
pub record IsStart (entries : List Ordered) (g addr : ℕ) (after : Option Placed) (at : ℕ) : Type 0 where
  pub no_later : (i : ℕ) (e : Ordered) → i < at → slice_get entries i ≡ Some e → e.group ≤ g
  pub passing : (i : ℕ) (e : Ordered) → i < at → slice_get entries i ≡ Some e → e.group ≡ g → addr < e.span.end → tests g addr after e ≡ true
  pub past : (i : ℕ) (e : Ordered) → at ≤ i → slice_get entries i ≡ Some e → tests g addr after e ≡ true → ⊥

-- the best entry that passes
pub record IsFirst (entries : List Ordered) (g addr : ℕ) (after : Option Placed) (b : Ordered) : Type 0 where
  pub at : ℕ
  pub is : slice_get entries at ≡ Some b
  pub passes : tests g addr after b ≡ true
  pub first : (i : ℕ) (e : Ordered) → slice_get entries i ≡ Some e → tests g addr after e ≡ true → NotAfter b.place b.span e.place e.span

abbrev pub IsFound : List Ordered → ℕ → ℕ → Option Placed → Option Ordered → Type 0
IsFound entries g addr after None = (i : ℕ) (e : Ordered) → slice_get entries i ≡ Some e → tests g addr after e ≡ true → ⊥
IsFound entries g addr after (Some b) = IsFirst entries g addr after b

abbrev pub place_found : Option Ordered → Option ℕ
place_found None = None
place_found (Some e) = Some e.place

-- Of the entries from an index up to another none of the group ends above the address.
pub record IsPassed (entries : List Ordered) (g addr at high : ℕ) : Type 0 where
  pub within : at ≤ high
  pub low : (i : ℕ) (e : Ordered) → at ≤ i → i < high → slice_get entries i ≡ Some e → e.group ≡ g → e.span.end ≤ addr

-- the size that is left of n, after looks whose power is given
pub record Halved (power size n : ℕ) : Type 0 where
  pub left : power * size ≤ n
  pub bound : power ≤ 2 * n + 1
