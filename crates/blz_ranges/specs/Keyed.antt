-- By which keys ranges are put into order.
use Rattle.std.specs.Prelude.{◌≡◌, ℕ, ◌≤◌, Bool, List, length, Option, Some, None}
use Rattle.blz_ranges.specs.declared.span.Span.{Span}
use Rattle.blz_bytes.specs.declared.orders.Key.{Key}
use Rattle.blz_bytes.specs.PairOrder.{accepts, key_at}
use Rattle.blz_ranges.specs.declared.grouped.Grouped.{Grouped}
use Rattle.blz_ranges.specs.Groups.{grouped_at}
use Rattle.blz_ranges.specs.Turned.{Alike, KeyUpTo}

-- the order of two ranges
pub record RangeUpTo (x y : Grouped) : Type 0 where
  pub later : x.group ≤ y.group
  pub below : x.group ≡ y.group → x.span.begin ≤ y.span.begin

-- Keys that put ranges into the order of group and begin, and are alike where these are.
pub record AreKeysOf (keys : List Key) (list : List Grouped) : Type 0 where
  pub same : length keys ≡ length list
  pub rises : (p q : ℕ) → KeyUpTo (key_at keys p) (key_at keys q) → RangeUpTo (grouped_at list p) (grouped_at list q)
  pub alike : (p q : ℕ) → (grouped_at list p).group ≡ (grouped_at list q).group → (grouped_at list p).span.begin ≡ (grouped_at list q).span.begin → Alike (key_at keys p) (key_at keys q)

-- ranges without groups, by their begins
abbrev pub begin_key : Span → Key
begin_key s = record { first = s.begin; second = 0 }

-- ranges in groups, by group and begin
abbrev pub group_key : Grouped → Key
group_key x = record { first = x.group; second = x.span.begin }

-- Where the places are told, they are accepted exactly where they pass the check.
abbrev pub IsAccepted : Option (List Key → List ℕ) → List Key → Bool → Type 0
IsAccepted None keys ordered = Unit {0}
IsAccepted (Some told) keys ordered = ordered ≡ accepts keys (told keys)
