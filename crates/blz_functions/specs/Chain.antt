-- The chain of inlined calls of an address.
use Rattle.std.specs.Prelude.{◌≡◌, ℕ, zero, suc, ◌+◌, ◌<◌, List, [], ◌∷◌, ◌++◌, map, Option, Some, None}
use Rattle.std.specs.List.{slice_get}
use Rattle.blz_ranges.specs.declared.span.Span.{Span}
use Rattle.blz_ranges.specs.declared.grouped.Grouped.{Grouped}
use Rattle.blz_ranges.specs.Best.{Covers}
use Rattle.blz_ranges.specs.Groups.{grouped, best_in}
use Rattle.blz_ranges.specs.Owned.{Owned, items_of, owner_at}

-- the call to which the range at a place belongs, where one was found
abbrev pub owner_found : List (Owned Grouped) → Option ℕ → Option ℕ
owner_found ranges None = None
owner_found ranges (Some place) = owner_at ranges place

-- the call whose range is the best of those of a depth that cover an address
abbrev pub at_depth : List (Owned Grouped) → ℕ → ℕ → Option ℕ
at_depth ranges addr depth = owner_found ranges (best_in (items_of ranges) depth addr)

-- a call before the deeper ones; the chain ends where there is none
abbrev pub with_next : Option ℕ → List ℕ → List ℕ
with_next None rest = []
with_next (Some c) rest = c ∷ rest

-- what is picked at each depth from one on, up to the first where nothing is, of at most n depths
unfoldable pub picked : (ℕ → Option ℕ) → ℕ → ℕ → List ℕ
picked pick zero depth = []
picked pick (suc n) depth = with_next (pick depth) (picked pick n (depth + 1))

-- the calls of depth 0, 1, 2 and so on; none of n calls stands deeper than there are calls
abbrev pub chain : List (Owned Grouped) → ℕ → ℕ → List ℕ
chain ranges n addr = picked (at_depth ranges addr) n 0

-- a call: how many calls stand above it, the nearest of them, and its ranges
pub record TreeCall : Type 0 where
  pub depth : ℕ
  pub parent : Option ℕ
  pub ranges : List Span

-- a range of the call of a number, in the group of its depth
abbrev pub call_range : ℕ → ℕ → Span → Owned Grouped
call_range depth n s = record { item = grouped depth s; owner = n }

-- the ranges of calls, in their order; the first call has the number n
unfoldable pub ranges_of : ℕ → List TreeCall → List (Owned Grouped)
ranges_of n [] = []
ranges_of n (c ∷ rest) = map (call_range c.depth n) c.ranges ++ ranges_of (n + 1) rest

-- How depths and parents make a tree.
pub record HasParent (calls : List TreeCall) (c p : ℕ) (x : TreeCall) : Type 0 where
  pub parent : TreeCall
  pub is : slice_get calls p ≡ Some parent
  pub depth : x.depth ≡ suc parent.depth
  pub before : p < c

pub record IsTree (calls : List TreeCall) : Type 0 where
  pub top : (c : ℕ) (x : TreeCall) → slice_get calls c ≡ Some x → x.parent ≡ None → x.depth ≡ 0
  pub below : (c p : ℕ) (x : TreeCall) → slice_get calls c ≡ Some x → x.parent ≡ Some p → HasParent calls c p x

-- a range of a call that covers an address
pub record CoveredBy (calls : List TreeCall) (addr c : ℕ) : Type 0 where
  pub call : TreeCall
  pub is : slice_get calls c ≡ Some call
  pub span : Span
  pub place : ℕ
  pub at : slice_get call.ranges place ≡ Some span
  pub covers : Covers span addr

-- Each call with a parent lies within it, and no two siblings share an address.
pub record IsNested (calls : List TreeCall) : Type 0 where
  pub within : (addr c p : ℕ) (x : TreeCall) → slice_get calls c ≡ Some x → x.parent ≡ Some p → CoveredBy calls addr c → CoveredBy calls addr p
  pub apart : (addr c d : ℕ) (x y : TreeCall) → slice_get calls c ≡ Some x → slice_get calls d ≡ Some y → x.parent ≡ y.parent → CoveredBy calls addr c → CoveredBy calls addr d → c ≡ d

-- where a call stands in a list
pub record Listed (list : List ℕ) (c : ℕ) : Type 0 where
  pub at : ℕ
  pub is : slice_get list at ≡ Some c

pub record IsChild (calls : List TreeCall) (c : ℕ) (parent : Option ℕ) : Type 0 where
  pub call : TreeCall
  pub is : slice_get calls c ≡ Some call
  pub parent_is : call.parent ≡ parent

-- A list of calls is the path of all that cover an address, each the parent of the next.
pub record IsPath (calls : List TreeCall) (addr : ℕ) (list : List ℕ) : Type 0 where
  pub cover : (i c : ℕ) → slice_get list i ≡ Some c → CoveredBy calls addr c
  pub all : (c : ℕ) → CoveredBy calls addr c → Listed list c
  pub first : (c : ℕ) → slice_get list 0 ≡ Some c → IsChild calls c None
  pub next : (i c d : ℕ) → slice_get list i ≡ Some c → slice_get list (suc i) ≡ Some d → IsChild calls d (Some c)
