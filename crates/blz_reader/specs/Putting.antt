-- Something put among what is kept of units.
use Rattle.std.specs.Prelude.{◌≡◌, ℕ, List, MatchResult, Option, Result, Some}
use Rattle.std.specs.List.{slice_get, slice_set}
use Rattle.blz_model.specs.declared.cache.Cache.{Cache}
use Rattle.blz_entry.specs.declared.root.UnitRoot.{UnitRoot}
use Rattle.blz_line.specs.UnitLines.{OrderedLines}
use Rattle.blz_units.specs.declared.caches.UnitCaches.{UnitCaches}
use Rattle.blz_units.specs.KeptParts.{call_cache}
use Rattle.blz_functions.specs.FunctionRanges.{CallRanges, FunctionRanges}

abbrev pub with_root : Cache UnitRoot → UnitCaches → UnitCaches
with_root root c = record c { root = root }

abbrev pub with_functions : Cache FunctionRanges → UnitCaches → UnitCaches
with_functions functions c = record c { functions = functions }

abbrev pub with_lines : Cache (Option OrderedLines) → UnitCaches → UnitCaches
with_lines lines c = record c { lines = lines }

-- A unit that is there is changed; all others are as before.
abbrev pub Puts : (UnitCaches → UnitCaches) → List UnitCaches → List UnitCaches → ℕ → Type 0
Puts change old new k = (c : UnitCaches) → slice_get old k ≡ Some c → new ≡ slice_set old k (change c)

-- A unit has the calls of a function besides; all else is as before.
pub record HasCalls (old new : UnitCaches) (n : ℕ) (calls : Cache CallRanges) : Type 0 where
  pub root : new.root ≡ old.root
  pub functions : new.functions ≡ old.functions
  pub lines : new.lines ≡ old.lines
  pub here : call_cache new n ≡ calls
  pub others : (m : ℕ) → (m ≡ n → ⊥) → call_cache new m ≡ call_cache old m

-- It has them, or the calls that it had, where there was no memory for them.
abbrev pub TakesCalls : {U E : Type 0} → Result U E → UnitCaches → UnitCaches → ℕ → Cache CallRanges → Type 0
TakesCalls r old new n calls = MatchResult r (λ _. HasCalls old new n calls) (λ _. HasCalls old new n (call_cache old n))

-- a unit in a list has them
pub record PutsCalls (old : UnitCaches) (units new : List UnitCaches) (k n : ℕ) (calls : Cache CallRanges) : Type 0 where
  pub unit : UnitCaches
  pub is : new ≡ slice_set units k unit
  pub has : HasCalls old unit n calls

-- The unit in a list that is there has them, or the calls that it had.
abbrev pub PutsOrKeeps : {U E : Type 0} → Result U E → List UnitCaches → List UnitCaches → ℕ → ℕ → Cache CallRanges → Type 0
PutsOrKeeps r units new k n calls = (c : UnitCaches) → slice_get units k ≡ Some c
    → MatchResult r (λ _. PutsCalls c units new k n calls) (λ _. PutsCalls c units new k n (call_cache c n))
