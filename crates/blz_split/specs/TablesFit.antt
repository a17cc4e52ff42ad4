-- The tables of an index lie inside it.
use Rattle.std.specs.Prelude.{◌≡◌, ℕ, ◌+◌, ◌*◌, ◌≤◌, ◌<◌, ◌^◌}
use Rattle.blz_split.specs.declared.tables.Tables.{Tables}

pub record TablesFit (len : ℕ) (t : Tables) : Type 0 where
  pub small : len < 2 ^ 63
  pub rows : t.rows ≡ 16 + 8 * t.slots
  pub names : t.names ≡ 16 + 12 * t.slots
  pub offsets : t.offsets ≡ t.names + 4 * t.columns
  pub sizes : t.sizes ≡ t.offsets + 4 * (t.columns * t.units)
  pub inside : 0 < t.slots + t.columns → t.sizes + 4 * (t.columns * t.units) ≤ len
