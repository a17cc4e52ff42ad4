-- The calls of a function put among those of the units.
use Rattle.std.proofs.Common.{◌≡◌, ℕ, List, Result, Ok, Err, Some, refl, ◌∙◌, get_or}
use Rattle.std.proofs.lemmas.Option.{get_or_from_slice_get}
use Rattle.std.specs.List.{slice_get, slice_set}
use Rattle.std.specs.Prelude.{MatchResult}
use Rattle.blz_model.specs.declared.cache.Cache.{Cache}
use Rattle.blz_units.specs.declared.caches.UnitCaches.{UnitCaches}
use Rattle.blz_units.specs.KeptParts.{call_cache}
use Rattle.blz_reader.specs.Putting.{HasCalls, PutsCalls}
use Rattle.blz_functions.specs.FunctionRanges.{CallRanges}

pub puts_in : {X E : Type 0} (r : Result X E) (units : List UnitCaches) (k n : ℕ) (old old' new : UnitCaches) (calls : Cache CallRanges) → old ≡ old' → MatchResult r (λ _. HasCalls old new n calls) (λ _. HasCalls old new n (call_cache old n))
    → MatchResult r (λ _. PutsCalls old' units (slice_set units k new) k n calls) (λ _. PutsCalls old' units (slice_set units k new) k n (call_cache old' n))
puts_in (Ok x) units k n old old' new calls e h = record { unit = new; is = refl; has = rw e at h }
puts_in (Err x) units k n old old' new calls e h = record { unit = new; is = refl; has = rw e at h }

pub same_item : (units : List UnitCaches) (k : ℕ) (x unit : UnitCaches) → slice_get units k ≡ Some unit → x ≡ get_or units k x → x ≡ unit
same_item units k x unit is e = e ∙ get_or_from_slice_get units k unit x is
