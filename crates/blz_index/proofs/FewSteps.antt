-- A search that goes on behind the first unit finds nothing where no two announced ranges share an address.
use Rattle.std.proofs.Common.{◌≡◌, ℕ, List, [], drop, Option, Some, None, Result, Ok, Err, refl, sym, ◌∙◌}
use Rattle.blz_error.specs.Fault.{Fault}
use Rattle.blz_model.specs.Part.{Good}
use Rattle.blz_units.specs.declared.caches.UnitCaches.{UnitCaches}
use Rattle.blz_units.specs.KeptAnswers.{Repeats, first_kept}
use Rattle.blz_units.specs.Seen.{LeavesOut}
use Rattle.blz_reader.proofs.LeftOut.{none_more}
use Rattle.blz_ranges.specs.Owned.{items_of}
use Rattle.blz_ranges.specs.Ranges.{OwnedRanges}
use Rattle.blz_ranges.specs.Turns.{covering}
use Rattle.blz_ranges.specs.Owned.{owners_of}
use Rattle.blz_index.specs.UnitsWarm.{FewLooks}
use Rattle.blz_ranges.proofs.OneCovers.{none_left}

nothing : (units : List UnitCaches) (a : ℕ) (ks : List ℕ) → ks ≡ [] → first_kept units a ks ≡ Good None
unfolding first_kept
nothing units a ks e = rw e refl

found_none : (units : List UnitCaches) (a : ℕ) (ks : List ℕ) (r : ℕ × ℕ) → ks ≡ [] → first_kept units a ks ≡ Good (Some r) → ⊥
found_none units a ks r e h = let n = sym (nothing units a ks e) ∙ h in absurd cc

pub few_after : (announced : OwnedRanges) (units : List UnitCaches) (a address : ℕ) (left : List ℕ) → LeavesOut [] (owners_of announced.ranges (covering (items_of announced.ranges) address)) left → (r : Result (Option (ℕ × ℕ)) Fault) (looks : ℕ) → Repeats (λ x. x) r (first_kept units a (drop 1 left)) → FewLooks announced units r looks
few_after announced units a address left out (Err e) looks h = tt
few_after announced units a address left out (Ok None) looks h = tt
few_after announced units a address left out (Ok (Some r)) looks h = λ ordered apart f_ordered f_apart d e m n. absurd (found_none units a _ r (none_more _ left out (none_left announced.ranges address apart)) h)
