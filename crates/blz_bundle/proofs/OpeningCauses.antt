-- The causes of what opening refuses.
use Rattle.std.proofs.Common.{◌≡◌, ◌⊎◌, Bool, false, List, [], ◌∷◌, Option, Some, None, Result, Ok, Err, String, string_bytes, map, refl, sym, ap, inl, inr, subst}
use Rattle.std.specs.Prelude.{codes}
use Rattle.std.specs.Result.{IfErr, IfOk}
use Rattle.blz_error.specs.Fault.{Fault}
use Rattle.blz_error.specs.Texts.{Bytes}
use Rattle.blz_error.specs.declared.kind.ErrorKind.{ErrorKind}
use Rattle.blz_error.specs.declared.kind.ErrorKind.TheVariants as kind
use Rattle.blz_error.specs.declared.kind.ErrorKind.TheVariants.{InvalidData}
use Rattle.blz_model.specs.Part.{Good, Broken}
use Rattle.blz_links.specs.Contents.{Contents}
use Rattle.blz_bundle.specs.FileAnswers.{told_steps}
use Rattle.blz_bundle.specs.Images.{ImageSet}
use Rattle.blz_bundle.specs.Opened.{Opened, Found, Refused, agreeing, part_of}
use Rattle.blz_bundle.specs.Opening.{IsOpened, IsOpeningKind, Lacks, Opens, OpensTo, default_dirs}
use Rattle.blz_bundle.specs.Outcomes.{Concludes, HasKindCause, IsFaultKind, IsRefusal}
use Rattle.blz_bundle.proofs.OpeningKinds.{IsMark, opened_lacks, opened_marks}

-- ---- a check

pub differs : (e : Fault) (texts : List Bytes) (same : Bool) (actual recorded a b : Bytes) (values : Bytes × Bytes) → e ≡ record { kind = InvalidData; texts = texts; mismatch = Some values } → values ≡ (a, b) → a ≡ actual → b ≡ recorded → same ≡ false
    → IsRefusal (λ found. agreeing same actual recorded ≡ found) ⊥ e
differs e texts same actual recorded a b values is pair a-is b-is differ = rw (is, pair, a-is, b-is, differ) (inr (inr (record { values = Some (actual, recorded); is_found = refl; kept = refl })))

-- ---- the kinds

mark_cause : (k : ErrorKind) (F M : Type 0) → IsMark k → M → HasKindCause k F M
mark_cause kind.NotFound F M is mark = mark
mark_cause kind.PermissionDenied F M is mark = absurd is
mark_cause kind.AlreadyExists F M is mark = absurd is
mark_cause kind.WouldBlock F M is mark = absurd is
mark_cause kind.InvalidInput F M is mark = absurd is
mark_cause kind.InvalidData F M is mark = mark
mark_cause kind.InvalidDwarf F M is mark = absurd is
mark_cause kind.TimedOut F M is mark = absurd is
mark_cause kind.WriteZero F M is mark = absurd is
mark_cause kind.Unsupported F M is mark = mark
mark_cause kind.UnexpectedEof F M is mark = absurd is
mark_cause kind.OutOfMemory F M is mark = absurd is
mark_cause kind.Other F M is mark = absurd is

fault_cause : (k : ErrorKind) (F M : Type 0) → IsFaultKind k → F → HasKindCause k F M
fault_cause kind.NotFound F M is fault = absurd is
fault_cause kind.PermissionDenied F M is fault = fault
fault_cause kind.AlreadyExists F M is fault = absurd is
fault_cause kind.WouldBlock F M is fault = absurd is
fault_cause kind.InvalidInput F M is fault = absurd is
fault_cause kind.InvalidData F M is fault = absurd is
fault_cause kind.InvalidDwarf F M is fault = absurd is
fault_cause kind.TimedOut F M is fault = absurd is
fault_cause kind.WriteZero F M is fault = absurd is
fault_cause kind.Unsupported F M is fault = absurd is
fault_cause kind.UnexpectedEof F M is fault = absurd is
fault_cause kind.OutOfMemory F M is fault = absurd is
fault_cause kind.Other F M is fault = fault

opening_mark : (k : ErrorKind) → IsMark k → IsOpeningKind k
opening_mark kind.NotFound is = tt
opening_mark kind.PermissionDenied is = absurd is
opening_mark kind.AlreadyExists is = absurd is
opening_mark kind.WouldBlock is = absurd is
opening_mark kind.InvalidInput is = absurd is
opening_mark kind.InvalidData is = tt
opening_mark kind.InvalidDwarf is = absurd is
opening_mark kind.TimedOut is = absurd is
opening_mark kind.WriteZero is = absurd is
opening_mark kind.Unsupported is = tt
opening_mark kind.UnexpectedEof is = absurd is
opening_mark kind.OutOfMemory is = absurd is
opening_mark kind.Other is = absurd is

opening_fault : (k : ErrorKind) → IsFaultKind k → IsOpeningKind k
opening_fault kind.NotFound is = absurd is
opening_fault kind.PermissionDenied is = tt
opening_fault kind.AlreadyExists is = absurd is
opening_fault kind.WouldBlock is = absurd is
opening_fault kind.InvalidInput is = absurd is
opening_fault kind.InvalidData is = absurd is
opening_fault kind.InvalidDwarf is = absurd is
opening_fault kind.TimedOut is = absurd is
opening_fault kind.WriteZero is = absurd is
opening_fault kind.Unsupported is = absurd is
opening_fault kind.UnexpectedEof is = absurd is
opening_fault kind.OutOfMemory is = absurd is
opening_fault kind.Other is = tt

opens_marks : (contents : Option Contents) (path : Bytes) (dirs : List Bytes) (k : ErrorKind) (v : Option (Bytes × Bytes)) → OpensTo contents path dirs (Refused k v) → IsMark k
opens_marks None path dirs k v is = opened_marks is.0 path dirs k v is.1
opens_marks (Some c) path dirs k v is = opened_marks (told_steps c) path dirs k v is

-- ---- what a call says of its error

opens_part : (contents : Option Contents) (path : Bytes) (dirs : List Bytes) (found : Opened ImageSet) → OpensTo contents path dirs found → Opens contents path dirs (part_of found)
opens_part None path dirs found is = (is.0, ap part_of is.1)
opens_part (Some c) path dirs found is = ap part_of is

opening_cause : (contents : Option Contents) (path : Bytes) (dirs : List Bytes) (failed : Type 0) (r : Result ImageSet Fault) → Concludes (λ b. b) r failed (OpensTo contents path dirs)
    → IfErr r (λ e. (e.kind ≡ kind.OutOfMemory) ⊎ HasKindCause e.kind failed (Opens contents path dirs (Broken e.kind)))
opening_cause contents path dirs failed (Ok b) is = tt
opening_cause contents path dirs failed (Err e) (inl memory) = inl (ap (λ e. e.kind) memory)
opening_cause contents path dirs failed (Err e) (inr (inl fault)) = inr (fault_cause e.kind _ _ fault.kind fault.counted)
opening_cause contents path dirs failed (Err e) (inr (inr tells)) =
    inr (mark_cause e.kind _ _ (opens_marks contents path dirs e.kind tells.values tells.is_found) (opens_part contents path dirs (Refused e.kind tells.values) tells.is_found))

opening_kinds : (contents : Option Contents) (path : Bytes) (dirs : List Bytes) (failed : Type 0) (r : Result ImageSet Fault) → Concludes (λ b. b) r failed (OpensTo contents path dirs) → IfErr r (λ e. IsOpeningKind e.kind)
opening_kinds contents path dirs failed (Ok b) is = tt
opening_kinds contents path dirs failed (Err e) (inl memory) = let P : ErrorKind → Type 0 = λ k. IsOpeningKind k in subst P (sym (ap (λ e. e.kind) memory)) tt
opening_kinds contents path dirs failed (Err e) (inr (inl fault)) = opening_fault e.kind fault.kind
opening_kinds contents path dirs failed (Err e) (inr (inr tells)) = opening_mark e.kind (opens_marks contents path dirs e.kind tells.values tells.is_found)

lacks : (contents : Option Contents) (path : Bytes) (dirs : List Bytes) (v : Option (Bytes × Bytes)) → OpensTo contents path dirs (Refused kind.NotFound v) → Lacks contents path
lacks None path dirs v is = tt
lacks (Some c) path dirs v is = opened_lacks c path dirs v is

opening_lacks : (contents : Option Contents) (path : Bytes) (dirs : List Bytes) (failed : Type 0) (r : Result ImageSet Fault) → Concludes (λ b. b) r failed (OpensTo contents path dirs)
    → IfErr r (λ e. e.kind ≡ kind.NotFound → Lacks contents path)
opening_lacks contents path dirs failed (Ok b) is = tt
opening_lacks contents path dirs failed (Err e) (inl memory) = λ not_found. absurd (let wants : e.kind ≡ kind.OutOfMemory = ap (λ e. e.kind) memory in cc)
opening_lacks contents path dirs failed (Err e) (inr (inl fault)) = λ not_found. let P : ErrorKind → Type 0 = λ k. IsFaultKind k in absurd (subst P not_found fault.kind)
opening_lacks contents path dirs failed (Err e) (inr (inr tells)) = λ not_found. let P : ErrorKind → Type 0 = λ k. OpensTo contents path dirs (Refused k tells.values) in lacks contents path dirs tells.values (subst P not_found tells.is_found)

opening_good : (contents : Option Contents) (path : Bytes) (dirs : List Bytes) (failed : Type 0) (r : Result ImageSet Fault) → Concludes (λ b. b) r failed (OpensTo contents path dirs)
    → IfOk r (λ b. Opens contents path dirs (Good b))
opening_good contents path dirs failed (Ok b) is = opens_part contents path dirs (Found b) is
opening_good contents path dirs failed (Err e) is = tt

opening_refusal : (contents : Option Contents) (path : Bytes) (dirs : List Bytes) (failed : Type 0) (r : Result ImageSet Fault) → Concludes (λ b. b) r failed (OpensTo contents path dirs)
    → IfErr r (IsRefusal (OpensTo contents path dirs) failed)
opening_refusal contents path dirs failed (Ok b) is = tt
opening_refusal contents path dirs failed (Err e) is = is

pub opening_concludes : (contents : Option Contents) (path : Bytes) (dirs : List Bytes) (failed : Type 0) (r : Result ImageSet Fault) → Concludes (λ b. b) r failed (OpensTo contents path dirs)
    → IsOpened contents path dirs failed r
opening_concludes contents path dirs failed r is = record {
  good = opening_good contents path dirs failed r is;
  mark = opening_cause contents path dirs failed r is;
  mismatch = opening_refusal contents path dirs failed r is;
  kinds = opening_kinds contents path dirs failed r is;
  missing = opening_lacks contents path dirs failed r is;
}

-- ---- the directories

pub are_default : {Z : Type 0} (first second : String Z) → string_bytes first ≡ codes "/usr/lib/debug" → string_bytes second ≡ codes "/lib/debug/" → map string_bytes (first ∷ second ∷ []) ≡ default_dirs
are_default first second a b = rw (a, b) refl
