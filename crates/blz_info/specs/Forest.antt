-- The entries of a unit as trees, and as a flat list with depths (DWARF 5 sections 2.3 and 7.5.3). What stands at a
-- place is told by a function from places, so that all of this holds whatever the entries are read from.
use Rattle.std.specs.Prelude.{◌≡◌, ℕ, zero, suc, ◌+◌, ◌-◌, ◌<◌, ◌≤◌, Bool, true, false, List, [], ◌∷◌, ◌++◌, Option, Some, None, option_map, nat_lt, if◌then◌else◌}
use Rattle.blz_model.specs.Reads.{◌>>=◌}
use Rattle.blz_info.specs.declared.forms.value.AttrValue.{AttrValue}

-- an entry by itself: its place, its code, its tag, and its attributes with their names
pub record Info : Type 0 where
  pub place : ℕ
  pub code : ℕ
  pub tag : ℕ
  pub children : Bool
  pub attributes : List (ℕ × AttrValue)

-- What stands at a place: a zero, or an entry, which may have children; and the place behind it.
pub data Head : Type 0 where
  Close : ℕ → Head
  Open : Bool → Info → ℕ → Head

-- Trees: none, or one with its entry, whether it is closed, its children, and the trees beside it. An entry that has
-- no children is closed, and another is where the zero behind its children is there.
pub data Forest : Type 0 where
  Empty : Forest
  Node : Info → Bool → Forest → Forest → Forest

-- trees, whether a zero ends them, and the place behind them
pub record Grown : Type 0 where
  pub forest : Forest
  pub closed : Bool
  pub after : ℕ

-- an entry with its children, closed where a zero ends them, before the trees beside it
abbrev pub node : Info → Grown → Grown → Grown
node e children beside = record { forest = Node e children.closed children.forest beside.forest; closed = beside.closed; after = beside.after }

-- an entry without children, which is closed, before the trees beside it
abbrev pub leaf : Info → Grown → Grown
leaf e beside = record { forest = Node e true Empty beside.forest; closed = beside.closed; after = beside.after }

-- One step: a zero ends the trees, or is skipped where no entry is open; `go` reads the trees from a place on.
abbrev pub grown_step : Bool → Option Head → (Bool → ℕ → Option Grown) → Option Grown
grown_step top None go = None
grown_step top (Some (Close next)) go = if top then go true next else Some (record { forest = Empty; closed = true; after = next })
grown_step top (Some (Open true e next)) go = go false next >>= λ children. go top children.after >>= λ beside. Some (node e children beside)
grown_step top (Some (Open false e next)) go = go top next >>= λ beside. Some (leaf e beside)

-- the trees from a place up to the zero that ends them or to the end, in at most n steps
unfoldable pub grown : (ℕ → Option Head) → ℕ → ℕ → Bool → ℕ → Option Grown
grown head end zero top at = None
grown head end (suc n) top at = if nat_lt at end then grown_step top (head at) (λ t next. grown head end n t next) else Some (record { forest = Empty; closed = false; after = at })

-- the trees from a place up to the end
unfoldable pub forest : (ℕ → Option Head) → ℕ → ℕ → Option Forest
forest head end at = option_map (λ g. g.forest) (grown head end (suc (end - at)) true at)

-- the entries of trees in the order of the bytes, each with its depth
abbrev pub preorder : ℕ → Forest → List (ℕ × Info)
preorder d Empty = []
preorder d (Node e closed children beside) = (d, e) ∷ (preorder (d + 1) children ++ preorder d beside)

-- One step of the flat walk: the depth is counted up at an entry that has children, and down at a zero, not below 0.
abbrev pub flat_step : ℕ → Option Head → (ℕ → ℕ → Option (List (ℕ × Info))) → Option (List (ℕ × Info))
flat_step d None go = None
flat_step d (Some (Close next)) go = go (d - 1) next
flat_step d (Some (Open true e next)) go = option_map (λ rest. (d, e) ∷ rest) (go (d + 1) next)
flat_step d (Some (Open false e next)) go = option_map (λ rest. (d, e) ∷ rest) (go d next)

-- the entries from a place up to the end, each with its depth, in at most n steps
unfoldable pub flat_in : (ℕ → Option Head) → ℕ → ℕ → ℕ → ℕ → Option (List (ℕ × Info))
flat_in head end zero d at = None
flat_in head end (suc n) d at = if nat_lt at end then flat_step d (head at) (λ k next. flat_in head end n k next) else Some []

-- the entries from a place up to the end, each with its depth, where d entries are open
unfoldable pub flat : (ℕ → Option Head) → ℕ → ℕ → ℕ → Option (List (ℕ × Info))
flat head end d at = flat_in head end (suc (end - at)) d at

-- where what stands at a place leads
abbrev pub Leads : Option Head → ℕ → Type 0
Leads None next = ⊥
Leads (Some (Close n)) next = n ≡ next
Leads (Some (Open children e n)) next = n ≡ next

-- It leads on, and not past the end.
abbrev pub LeadsOn : (ℕ → Option Head) → ℕ → Type 0
LeadsOn head end = (at next : ℕ) → at < end → Leads (head at) next → (at < next) × (next ≤ end)
