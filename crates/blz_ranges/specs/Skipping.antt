-- Steps back over entries that end too low.
use Rattle.std.specs.Prelude.{◌≡◌, ℕ, zero, suc, ◌≤◌, List, length, Option, Some, None, ◌⊎◌}
use Rattle.std.specs.List.{slice_get}
use Rattle.blz_ranges.specs.declared.ordered.Ordered.{Ordered}
use Rattle.blz_ranges.specs.declared.skips.Skip.{Skip}

abbrev pub skip_before : List Skip → ℕ → Option Skip
skip_before skips zero = None
skip_before skips (suc at) = slice_get skips at

-- a step from an index, over entries that end at a top or below
pub record IsSkip (entries : List Ordered) (at : ℕ) (s : Skip) : Type 0 where
  pub up : s.to ≤ at
  pub tops : (i : ℕ) (e : Ordered) → s.to ≤ i → i ≤ at → slice_get entries i ≡ Some e → e.span.end ≤ s.top

abbrev pub AreFirstSkips : List Ordered → List Skip → Type 0
AreFirstSkips entries skips = (i : ℕ) (s : Skip) → slice_get skips i ≡ Some s → IsSkip entries i s

pub record AreSkips (entries : List Ordered) (skips : List Skip) : Type 0 where
  pub same : length skips ≡ length entries
  pub each : AreFirstSkips entries skips

-- what a search goes on to before an entry that ends at an address or below
pub record IsStepBack (skips : List Skip) (at addr next : ℕ) : Type 0 where
  pub back : next ≤ at
  pub over : (s : Skip) → slice_get skips at ≡ Some s → (next ≡ at) ⊎ ((next ≡ s.to) × (s.top ≤ addr))
