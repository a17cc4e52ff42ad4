-- How a run ends, from what was made to what it found.
use Rattle.std.proofs.Common.{◌≡◌, ◌⊎◌, ℕ, ◌≤◌, Option, Some, None, Result, Ok, Err, Vec, refl, ap, subst, inl, inr, arith}
use Rattle.blz_error.specs.Texts.{Bytes}
use Rattle.blz_error.specs.declared.kind.ErrorKind.{ErrorKind}
use Rattle.blz_error.specs.declared.kind.ErrorKind.TheVariants as kind
use Rattle.blz_resolver.specs.Counts.{Rose}
use Rattle.blz_resolver.specs.FormatKinds.{IsFormatKind}
use Rattle.blz_resolver.specs.Outcomes.{HasKindCause}
use Rattle.blz_program.specs.Outcomes.{ProgramTexts, line_for, refusal_of, status_of}
use Rattle.blz_program.specs.Runs.{EndsBy, FilesFail, Found, HasOutcome, IsCaused, IsMade, IsText, TellsLine, Mark, status_for}
use Rattle.blz_program.specs.declared.outcome.Outcome.{Outcome}
use Rattle.blz_program.specs.declared.outcome.Outcome.TheVariants.{Done, Refused, Usage, BadLine, WriteFailed, OutOfMemory}

-- a cause of one thing is a cause of what follows from it
pub HasKindCause-weaker : (k : ErrorKind) (F M G N : Type 0) → (F → G) → (M → N) → HasKindCause k F M → HasKindCause k G N
HasKindCause-weaker kind.NotFound F M G N f m cause = m cause
HasKindCause-weaker kind.PermissionDenied F M G N f m cause = f cause
HasKindCause-weaker kind.AlreadyExists F M G N f m cause = m cause
HasKindCause-weaker kind.WouldBlock F M G N f m cause = m cause
HasKindCause-weaker kind.InvalidInput F M G N f m cause = m cause
HasKindCause-weaker kind.InvalidData F M G N f m cause = m cause
HasKindCause-weaker kind.InvalidDwarf F M G N f m cause = m cause
HasKindCause-weaker kind.TimedOut F M G N f m cause = m cause
HasKindCause-weaker kind.WriteZero F M G N f m cause = m cause
HasKindCause-weaker kind.Unsupported F M G N f m cause = m cause
HasKindCause-weaker kind.UnexpectedEof F M G N f m cause = m cause
HasKindCause-weaker kind.OutOfMemory F M G N f m cause = cause
HasKindCause-weaker kind.Other F M G N f m cause = f cause

-- what is broken in a file is a mark
pub HasKindCause-format : (k : ErrorKind) (F M : Type 0) → IsFormatKind k → M → HasKindCause k F M
HasKindCause-format kind.NotFound F M is mark = absurd is
HasKindCause-format kind.PermissionDenied F M is mark = absurd is
HasKindCause-format kind.AlreadyExists F M is mark = absurd is
HasKindCause-format kind.WouldBlock F M is mark = absurd is
HasKindCause-format kind.InvalidInput F M is mark = mark
HasKindCause-format kind.InvalidData F M is mark = mark
HasKindCause-format kind.InvalidDwarf F M is mark = mark
HasKindCause-format kind.TimedOut F M is mark = absurd is
HasKindCause-format kind.WriteZero F M is mark = absurd is
HasKindCause-format kind.Unsupported F M is mark = mark
HasKindCause-format kind.UnexpectedEof F M is mark = absurd is
HasKindCause-format kind.OutOfMemory F M is mark = absurd is
HasKindCause-format kind.Other F M is mark = absurd is

-- where nothing failed, a cause is a mark
pub HasKindCause-no_failure : (k : ErrorKind) (F M : Type 0) → ¬ F → HasKindCause k F M → M
HasKindCause-no_failure kind.NotFound F M n h = h
HasKindCause-no_failure kind.PermissionDenied F M n h = absurd (n h)
HasKindCause-no_failure kind.AlreadyExists F M n h = h
HasKindCause-no_failure kind.WouldBlock F M n h = h
HasKindCause-no_failure kind.InvalidInput F M n h = h
HasKindCause-no_failure kind.InvalidData F M n h = h
HasKindCause-no_failure kind.InvalidDwarf F M n h = h
HasKindCause-no_failure kind.TimedOut F M n h = h
HasKindCause-no_failure kind.WriteZero F M n h = h
HasKindCause-no_failure kind.Unsupported F M n h = h
HasKindCause-no_failure kind.UnexpectedEof F M n h = h
HasKindCause-no_failure kind.OutOfMemory F M n h = absurd h
HasKindCause-no_failure kind.Other F M n h = absurd (n h)

refusal_with_cause : (k : ErrorKind) (F M : Type 0) → HasKindCause k F M → refusal_of k ≡ Refused k
refusal_with_cause kind.NotFound F M cause = refl
refusal_with_cause kind.PermissionDenied F M cause = refl
refusal_with_cause kind.AlreadyExists F M cause = refl
refusal_with_cause kind.WouldBlock F M cause = refl
refusal_with_cause kind.InvalidInput F M cause = refl
refusal_with_cause kind.InvalidData F M cause = refl
refusal_with_cause kind.InvalidDwarf F M cause = refl
refusal_with_cause kind.TimedOut F M cause = refl
refusal_with_cause kind.WriteZero F M cause = refl
refusal_with_cause kind.Unsupported F M cause = refl
refusal_with_cause kind.UnexpectedEof F M cause = refl
refusal_with_cause kind.OutOfMemory F M cause = absurd cause
refusal_with_cause kind.Other F M cause = refl

-- an error is for want of memory, or has its cause, so it is the outcome in place of a text
pub IsMade-refusal : (Z : Type 0) (k : ErrorKind) (Finds : Found → Type 0) (F : Type 0)
    → (k ≡ kind.OutOfMemory) ⊎ HasKindCause k F (Finds (Mark k)) → IsMade {Z = Z} Finds F (Err (refusal_of k))
IsMade-refusal Z k Finds F (inl memory) = rw memory tt
IsMade-refusal Z k Finds F (inr cause) = rw (refusal_with_cause k F _ cause) cause

-- what was made is also what another way of finding finds
pub IsMade-weaker : {Z : Type 0} (made : Result (Vec ℕ Z) Outcome) (Finds Others : Found → Type 0) (F G : Type 0)
    → ((found : Found) → Finds found → Others found) → (F → G) → IsMade Finds F made → IsMade Others G made
IsMade-weaker (Ok v) Finds Others F G finds fails is = finds _ is
IsMade-weaker (Err Done) Finds Others F G finds fails is = is
IsMade-weaker (Err (Refused k)) Finds Others F G finds fails is = HasKindCause-weaker k F _ G _ fails (finds _) is
IsMade-weaker (Err Usage) Finds Others F G finds fails is = finds _ is
IsMade-weaker (Err (BadLine line fault)) Finds Others F G finds fails is = finds _ is
IsMade-weaker (Err WriteFailed) Finds Others F G finds fails is = is
IsMade-weaker (Err OutOfMemory) Finds Others F G finds fails is = is

-- a failure that was counted before or after is counted in the whole
pub Rose-later : (a b c : ℕ) → Rose a b → b ≤ c → Rose a c
Rose-later a b c rose h = omega (arith, rose, h)

pub Rose-earlier : (a b c : ℕ) → a ≤ b → Rose b c → Rose a c
Rose-earlier a b c h rose = omega (arith, rose, h)

pub IsCaused-ended : {Z : Type 0} (made : Result (Vec ℕ Z) Outcome) (o : Outcome) (Finds : Found → Type 0) (old new : Option Bytes) (F S : Type 0)
    → IsMade Finds F made → EndsBy made o old new S → IsCaused o Finds old new F S
IsCaused-ended (Ok v) Done Finds old new F S is ends = record { text = v.items; finds = is; appended = ends }
IsCaused-ended (Ok v) (Refused k) Finds old new F S is ends = absurd ends
IsCaused-ended (Ok v) Usage Finds old new F S is ends = absurd ends
IsCaused-ended (Ok v) (BadLine line fault) Finds old new F S is ends = absurd ends
IsCaused-ended (Ok v) WriteFailed Finds old new F S is ends = record { text = v.items; finds = is; appended = ends.appended; cause = ends.cause }
IsCaused-ended (Ok v) OutOfMemory Finds old new F S is ends = absurd ends
IsCaused-ended {Z = Z} (Err made) o Finds old new F S is ends = rw ends.same (by_outcome made is)
  where
    by_outcome : (made : Outcome) → IsMade {Z = Z} Finds F (Err made) → IsCaused made Finds old new F S
    by_outcome Done is = absurd is
    by_outcome (Refused k) is = record { cause = is; kept = ends.kept }
    by_outcome Usage is = record { finds = is; kept = ends.kept }
    by_outcome (BadLine line fault) is = record { finds = is; kept = ends.kept }
    by_outcome WriteFailed is = absurd is
    by_outcome OutOfMemory is = ends.kept

-- a run that made what it found ends by it
pub HasOutcome-made : {Z : Type 0} (status : ℕ) (made : Result (Vec ℕ Z) Outcome) (Finds : Found → Type 0) (old new : Option Bytes) (F S : Type 0) (Tells : Outcome → Type 0)
    → IsMade Finds F made → HasOutcome status (λ o. EndsBy made o old new S × Tells o) → HasOutcome status (λ o. IsCaused o Finds old new F S × Tells o)
HasOutcome-made status made Finds old new F S Tells is (o, same, both) = (o, same, (IsCaused-ended made o Finds old new F S is both.0, both.1))

-- The same, where the program's texts are known by another name.
pub HasOutcome-finished : {Z : Type 0} (status : ℕ) (made : Result (Vec ℕ Z) Outcome) (Finds : Found → Type 0) (old new : Option Bytes) (F S : Type 0)
    (E : Type 0) (told_old told_new : Option Bytes) (texts named : ProgramTexts) → texts ≡ named → IsMade Finds F made
    → HasOutcome status (λ o. EndsBy made o old new S × TellsLine E told_old told_new (line_for texts o))
    → HasOutcome status (λ o. IsCaused o Finds old new F S × TellsLine E told_old told_new (line_for named o))
HasOutcome-finished status made Finds old new F S E told_old told_new texts named same is ends =
    HasOutcome-made status made Finds old new F S (λ o. TellsLine E told_old told_new (line_for named o)) is
    (subst (λ (texts : ProgramTexts). HasOutcome status (λ o. EndsBy made o old new S × TellsLine E told_old told_new (line_for texts o))) same ends)

status_when_known : (o : Outcome) (Finds : Found → Type 0) (found : Found) (old new : Option Bytes) (F S : Type 0)
    → IsCaused o Finds old new F S → ((f : Found) → Finds f → f ≡ found) → ¬ F → (S → ¬ (IsText found)) → (status_of o ≡ 4) ⊎ (status_of o ≡ status_for found)
status_when_known Done Finds found old new F S h known no_f no_s = inr (ap status_for (known _ h.finds))
status_when_known (Refused k) Finds found old new F S h known no_f no_s = inr (ap status_for (known _ (HasKindCause-no_failure k F _ no_f h.cause)))
status_when_known Usage Finds found old new F S h known no_f no_s = inr (ap status_for (known _ h.finds))
status_when_known (BadLine line fault) Finds found old new F S h known no_f no_s = inr (ap status_for (known _ h.finds))
status_when_known WriteFailed Finds found old new F S h known no_f no_s = absurd (no_s h.cause (subst IsText (known _ h.finds) tt))
status_when_known OutOfMemory Finds found old new F S h known no_f no_s = inl refl

-- Where it is known what is found, no failure of the files was counted, and none of the sink where it is a text, the
-- status is that of what is found, or there was no memory.
pub HasOutcome-known : (status : ℕ) (Finds : Found → Type 0) (found : Found) (old new : Option Bytes) (F S : Type 0) (Tells : Outcome → Type 0)
    → HasOutcome status (λ o. IsCaused o Finds old new F S × Tells o) → ((f : Found) → Finds f → f ≡ found) → ¬ F → (S → ¬ (IsText found))
    → (status ≡ 4) ⊎ (status ≡ status_for found)
HasOutcome-known status Finds found old new F S Tells (o, same, both) known no_f no_s = rw same (status_when_known o Finds found old new F S both.0 known no_f no_s)

-- where no failure was counted, the files failed for nothing that was asked
pub nothing_failed : {A : Type 0} (asking : Option A) (failed : Type 0) → ¬ failed → ¬ (FilesFail asking failed)
nothing_failed None failed not = λ h. h
nothing_failed (Some question) failed not = not
