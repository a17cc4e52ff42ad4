-- What was made is what the words and files give.
use Rattle.std.proofs.Common.{◌≡◌, ℕ, ◌⊎◌, inl, inr, Option, Some, None, Result, Ok, Err, Vec, refl, sym, ap, subst, ◌∙◌}
use Rattle.std.specs.FinMap as map
use Rattle.blz_error.specs.Texts.{Bytes}
use Rattle.blz_error.specs.declared.kind.ErrorKind.{ErrorKind}
use Rattle.blz_error.specs.declared.kind.ErrorKind.TheVariants as kind
use Rattle.blz_model.specs.Part.{Good, Broken, Fails}
use Rattle.blz_program.specs.Reading.{FindsNothing, Holds}
use Rattle.blz_program.specs.Runs.{Found, Mark, IsMade}
use Rattle.blz_program.specs.declared.outcome.Outcome.{Outcome}
use Rattle.blz_program.specs.declared.outcome.Outcome.TheVariants.{Done, Refused, Usage, BadLine, WriteFailed, OutOfMemory}
use Rattle.blz_program.proofs.Ends.{HasKindCause-format, HasKindCause-weaker}
use Rattle.blz_resolver.specs.Books.{framed}
use Rattle.blz_resolver.specs.Contents.{Contents}
use Rattle.blz_resolver.specs.FormatKinds.{IsFormatKind, IsMemoryOrFormat}
use Rattle.blz_resolver.specs.Images.{ImageSet}
use Rattle.blz_resolver.specs.Opening.{Opens, default_dirs}
use Rattle.blz_resolver.specs.Outcomes.{HasKindCause}
use Rattle.blz_cover.specs.Counting.{FindsCover, FindsFor, FindsHits, FindsInBundle, IsCounted, found_for, found_in_hits, found_opened, mark_or}

-- what was counted is what a file of hits gives
pub IsMade-counted : {Z : Type 0} (r : Result (Vec ℕ Z) Outcome) (found : Found) (F : Type 0) → IsCounted r found → IsMade (λ f. f ≡ found) F r
IsMade-counted (Ok v) found F is = sym is
IsMade-counted (Err Done) found F is = is
IsMade-counted (Err (Refused k)) found F is = HasKindCause-format k F (Mark k ≡ found) is.1 (sym is.0)
IsMade-counted (Err Usage) found F is = absurd is
IsMade-counted (Err (BadLine line fault)) found F is = sym is
IsMade-counted (Err WriteFailed) found F is = is
IsMade-counted (Err OutOfMemory) found F is = is

-- ---- the file of hits

pub finds_hits : (contents : Option Contents) (images : ImageSet) (path text : Bytes) (found : Found) → Holds contents path (Some text) → found ≡ found_in_hits images (Some text) → FindsHits contents images path found
finds_hits contents images path text found holds same = record { held = Some text; holds = holds; same = same }

pub finds_no_hits : (contents : Option Contents) (images : ImageSet) (path : Bytes) (k : ErrorKind) → FindsNothing contents path k → FindsHits contents images path (Mark k)
finds_no_hits contents images path k nothing = record { held = None; holds = nothing.nothing; same = ap Mark nothing.kind }

-- something is held, or nothing
pub holds_some : (contents : Option Contents) (path : Bytes) → (held : Option Bytes) × Holds contents path held
holds_some None path = (None, tt)
holds_some (Some contents) path = (map.get contents path, refl)

-- ---- the bundle

pub finds_in_framed : (contents : Option Contents) (images bundle : ImageSet) (path : Bytes) (found : Found) → images ≡ bundle → framed bundle ≡ Good tt → FindsHits contents images path found → FindsInBundle contents bundle path found
finds_in_framed contents images bundle path found same framed_is finds =
    record { held = finds.held; holds = finds.holds; same = finds.same ∙ ap (λ i. found_in_hits i finds.held) same ∙ sym (ap (λ p. mark_or p (found_in_hits bundle finds.held)) framed_is) }

pub finds_frame_mark : (contents : Option Contents) (bundle : ImageSet) (path : Bytes) (k : ErrorKind) → framed bundle ≡ Broken k → FindsInBundle contents bundle path (Mark k)
finds_frame_mark contents bundle path k is =
    let held = holds_some contents path in
    record { held = held.0; holds = held.1; same = sym (ap (λ p. mark_or p (found_in_hits bundle held.0)) is) }

not_memory : (k : ErrorKind) → IsFormatKind k → k ≡ kind.OutOfMemory → ⊥
not_memory k is same = let h = rw same at is in h

-- an error of the frame is for want of memory, or its mark
pub frame_cause : (contents : Option Contents) (bundle : ImageSet) (path : Bytes) (k : ErrorKind) (F : Type 0) → Fails k (framed bundle) → IsMemoryOrFormat k → (k ≡ kind.OutOfMemory) ⊎ HasKindCause k F (FindsInBundle contents bundle path (Mark k))
frame_cause contents bundle path k F fails (inl memory) = inl memory
frame_cause contents bundle path k F fails (inr is) = inr (HasKindCause-format k F _ is (finds_frame_mark contents bundle path k (fails (not_memory k is))))

-- ---- both files

pub finds_opened : (contents : Option Contents) (image hits : Bytes) (bundle : ImageSet) (found : Found) → Opens contents image default_dirs (Good bundle) → FindsInBundle contents bundle hits found → FindsCover contents (image, hits) found
finds_opened contents image hits bundle found opens finds = record { opening = Good bundle; opens = opens; held = finds.held; holds = finds.holds; same = finds.same }

pub finds_opening_mark : (contents : Option Contents) (image hits : Bytes) (k : ErrorKind) → Opens contents image default_dirs (Broken k) → FindsCover contents (image, hits) (Mark k)
finds_opening_mark contents image hits k opens =
    let held = holds_some contents hits in
    record { opening = Broken k; opens = opens; held = held.0; holds = held.1; same = refl }

-- ---- where the contents are told

known_cover : (contents : Contents) (paths : Bytes × Bytes) (found : Found) → FindsCover (Some contents) paths found → found ≡ found_for contents (Some paths)
known_cover contents paths found finds = finds.same ∙ ap (λ p. found_opened p finds.held) (sym finds.opens) ∙ ap (found_opened _) (sym finds.holds)

pub known : (contents : Contents) (paths : Option (Bytes × Bytes)) (found : Found) → FindsFor paths (Some contents) found → found ≡ found_for contents paths
known contents None found is = is
known contents (Some paths) found is = known_cover contents paths found is

-- the same, where the contents are known by another name
pub found_known : (contents : Option Contents) (c : Contents) (paths : Option (Bytes × Bytes)) (found : Found) → contents ≡ Some c → FindsFor paths contents found → found ≡ found_for c paths
found_known contents c paths found told finds =
    let P : Option Contents → Type 0 = λ contents. FindsFor paths contents found in
    known c paths found (subst P told finds)

-- an error of opening is for want of memory, or has its cause
pub opening_cause : (contents : Option Contents) (image hits : Bytes) (k : ErrorKind) (F : Type 0) → (k ≡ kind.OutOfMemory) ⊎ HasKindCause k F (Opens contents image default_dirs (Broken k))
    → (k ≡ kind.OutOfMemory) ⊎ HasKindCause k F (FindsCover contents (image, hits) (Mark k))
opening_cause contents image hits k F (inl memory) = inl memory
opening_cause contents image hits k F (inr cause) = inr (HasKindCause-weaker k F _ F _ (λ f. f) (finds_opening_mark contents image hits k) cause)
