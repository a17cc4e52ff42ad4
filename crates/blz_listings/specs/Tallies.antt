-- Distinct items with the number of their places in a list.
use Rattle.std.specs.Prelude.{ℕ, ◌+◌, Bool, List, [], ◌∷◌, ◌++◌, map, count_by, if◌then◌else◌}
use Rattle.std.specs.List.{fold, list_any}

-- an item, and how often it is there
pub record Tally (K : Type 0) : Type 0 where
  pub item : K
  pub count : ℕ

module _ {K : Type 0} (same : K → K → Bool) where
  -- the items, and one more behind them where it is new
  abbrev pub with_new : List K → K → List K
  with_new seen item = if list_any (same item) seen then seen else seen ++ item ∷ []

  -- the items in the order of their first places, each once
  abbrev pub distinct : List K → List K
  distinct items = fold with_new [] items

  -- an item, and how many of the items are the same
  abbrev pub tally_of : List K → K → Tally K
  tally_of items item = record { item = item; count = count_by (same item) items }

  -- the distinct items, each with its number
  abbrev pub tallies_of : List K → List (Tally K)
  tallies_of items = map (tally_of items) (distinct items)

  -- the tallies, after one item more
  abbrev pub tallied : List (Tally K) → K → List (Tally K)
  tallied [] item = record { item = item; count = 1 } ∷ []
  tallied (t ∷ ts) item = if same item t.item then record { item = t.item; count = t.count + 1 } ∷ ts else t ∷ tallied ts item
