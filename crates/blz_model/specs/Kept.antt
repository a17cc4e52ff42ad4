-- What a cache keeps of a part.
use Rattle.std.specs.Prelude.{◌≡◌, ◌≢◌, Bool, true, false}
use Rattle.blz_error.specs.declared.kind.ErrorKind.TheVariants.{OutOfMemory}
use Rattle.blz_model.specs.Part.{Part, Good, Broken}
use Rattle.blz_model.specs.declared.cache.Cache.{Cache}
use Rattle.blz_model.specs.declared.cache.Cache.TheVariants.{Empty, Value, Mark}

-- A cache is empty, or holds what its part is. Want of memory is never kept.
abbrev pub Kept : {X A : Type 0} → (X → Type 0) → (X → A) → Cache X → Part A → Type 0
Kept fits view Empty p = Unit {0}
Kept fits view (Value x) p = fits x × (p ≡ Good (view x))
Kept fits view (Mark k) p = (p ≡ Broken k) × (k ≢ OutOfMemory)

-- the part is there, as its value or its mark
abbrev pub is_kept : {X : Type 0} → Cache X → Bool
is_kept Empty = false
is_kept (Value x) = true
is_kept (Mark k) = true
