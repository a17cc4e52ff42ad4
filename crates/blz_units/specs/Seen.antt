-- Units that announce an address, without some that were told before.
use Rattle.std.specs.Prelude.{◌≡◌, ℕ, ◌+◌, Bool, true, false, nat_lt, List, [], ◌∷◌, Option, Some, None, ◌⊎◌, ◌==◌, if◌then◌else◌}
use Rattle.std.specs.List.{slice_get, slice_set}
use Rattle.blz_ranges.specs.Ranges.{OwnedRanges}
use Rattle.blz_units.specs.Announced.{units_covering, Announcing}
use Rattle.blz_units.specs.declared.announced.units_at.Told.{Told}

-- ---- units that are noted as told

abbrev pub is_unit : Option ℕ → ℕ → Bool
is_unit None unit = false
is_unit (Some number) unit = number == unit

abbrev pub is_noted : List (Option ℕ) → ℕ → Bool
is_noted [] unit = false
is_noted (x ∷ told) unit = if is_unit x unit then true else is_noted told unit

abbrev pub IsNoneNoted : Told → Type 0
IsNoneNoted t = (unit : ℕ) → is_noted t.units unit ≡ false

-- one more, of at most eight
abbrev pub noted : Told → ℕ → Told
noted t unit = if nat_lt t.next 8 then record { units = slice_set t.units t.next (Some unit); next = t.next + 1 } else t

-- units without those that are noted when it is their turn
unfoldable pub untold : Told → List ℕ → List ℕ
untold t [] = []
untold t (unit ∷ rest) = if is_noted t.units unit then untold t rest else unit ∷ untold (noted t unit) rest

abbrev pub left_of : Told → Announcing → Announcing
left_of t a = record { announced = a.announced; address = a.address; left = untold t a.left; fresh = a.fresh }

-- ---- lists without some items that stood before

-- A number stands in a list.
abbrev pub Holds : List ℕ → ℕ → Type 0
Holds list n = (i : ℕ) × (slice_get list i ≡ Some n)

-- A list without some of its items, each of which stands in another list or stood before it.
abbrev pub LeavesOut : List ℕ → List ℕ → List ℕ → Type 0
LeavesOut before [] few = few ≡ []
LeavesOut before (n ∷ all) few =
    (Holds before n × LeavesOut before all few) ⊎ (rest : List ℕ) × (few ≡ n ∷ rest) × LeavesOut (n ∷ before) all rest

-- the units that announce an address, before the first is asked for, without some that stand there again
pub record IsOnce (a : OwnedRanges) (addr : ℕ) (units : Announcing) : Type 0 where
  pub announced : units.announced ≡ a
  pub address : units.address ≡ addr
  pub fresh : units.fresh ≡ true
  pub without : LeavesOut [] (units_covering a addr) units.left
