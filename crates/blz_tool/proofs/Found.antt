-- From what was read to what is found.
use Rattle.std.proofs.Common.{◌≡◌, ◌⊎◌, ◌≢◌, ℕ, Bool, true, false, List, Option, Result, Err, Vec, refl, sym, ap, subst, inl, inr}
use Rattle.clap.specs.Words.{takes}
use Rattle.blz_error.specs.Texts.{Bytes}
use Rattle.blz_error.specs.declared.kind.ErrorKind.{ErrorKind}
use Rattle.blz_error.specs.declared.kind.ErrorKind.TheVariants as kind
use Rattle.blz_model.specs.Part.{Part, Good, Broken, Fails}
use Rattle.blz_program.proofs.Ends.{HasKindCause-format, HasKindCause-weaker, IsMade-refusal, IsMade-weaker}
use Rattle.blz_program.specs.Outcomes.{refusal_of}
use Rattle.blz_program.specs.Runs.{IsMade, Mark}
use Rattle.blz_program.specs.Runs as run
use Rattle.blz_program.specs.declared.outcome.Outcome.{Outcome}
use Rattle.blz_program.specs.declared.outcome.Outcome.TheVariants.{OutOfMemory, Usage}
use Rattle.blz_resolver.specs.Contents.{Contents}
use Rattle.blz_resolver.specs.FormatKinds.{IsFormatKind, IsMemoryOrFormat}
use Rattle.blz_resolver.specs.Images.{ImageSet}
use Rattle.blz_resolver.specs.Opening.{Opens}
use Rattle.blz_resolver.specs.Outcomes.{HasKindCause}
use Rattle.blz_tool.specs.CommandLine.{Asked, Demo, Malformed, Question, Resolve, asked_named, tool_app}
use Rattle.blz_tool.specs.Runs.{FailsNamed, FindsFor, FindsNamed, FindsPart, Prints, dirs_of, found_in, text_for}
use Rattle.blz_tool.specs.Summary.{summary}

pub not_true : (b : Bool) → ¬ (b ≡ true) → b ≡ false
not_true true h = absurd (h refl)
not_true false h = refl

format_is_not_memory : (k : ErrorKind) → IsFormatKind k → k ≢ kind.OutOfMemory
format_is_not_memory k is e = let P : ErrorKind → Type 0 = λ k. IsFormatKind k in subst P e is

-- a part that fails by a kind of the formats is a mark
pub format_cause : (k : ErrorKind) (F : Type 0) (M : Type 0) (part : Part Bytes) → Fails k part → IsMemoryOrFormat k → (part ≡ Broken k → M) → (k ≡ kind.OutOfMemory) ⊎ HasKindCause k F M
format_cause k F M part fails (inl memory) mark = inl memory
format_cause k F M part fails (inr is) mark = inr (HasKindCause-format k F M is (mark (fails (format_is_not_memory k is))))

-- opening is refused, so nothing is printed
pub opening_cause : (k : ErrorKind) (F : Type 0) (contents : Option Contents) (question : Question)
    → (k ≡ kind.OutOfMemory) ⊎ HasKindCause k F (Opens contents question.path (dirs_of question) (Broken k))
    → (k ≡ kind.OutOfMemory) ⊎ HasKindCause k F (Prints contents question (Broken k))
opening_cause k F contents question (inl memory) = inl memory
opening_cause k F contents question (inr cause) =
    inr (HasKindCause-weaker k F _ F _ (λ f. f) (λ opens. record { opening = Broken k; opens = opens; gives = refl }) cause)

-- the answers are refused, so nothing is printed
pub scan_cause : (k : ErrorKind) (F : Type 0) (contents : Option Contents) (question : Question) (images : ImageSet)
    → Opens contents question.path (dirs_of question) (Good images) → Fails k (text_for question images) → IsMemoryOrFormat k
    → (k ≡ kind.OutOfMemory) ⊎ HasKindCause k F (Prints contents question (Broken k))
scan_cause k F contents question images opens fails is =
    format_cause k F _ (text_for question images) fails is (λ gives. record { opening = Good images; opens = opens; gives = gives })

pub printed_cause : (k : ErrorKind) (F : Type 0) (contents : Option Contents) (question : Question)
    → (k ≡ kind.OutOfMemory) ⊎ HasKindCause k F (Prints contents question (Broken k))
    → (k ≡ kind.OutOfMemory) ⊎ HasKindCause k F (FindsPart (Prints contents question) (Mark k))
printed_cause k F contents question (inl memory) = inl memory
printed_cause k F contents question (inr cause) =
    inr (HasKindCause-weaker k F _ F _ (λ f. f) (λ prints. record { part = Broken k; is_part = prints; same = refl }) cause)

-- words that the simple command does not take
pub made_of_no_words : (Z : Type 0) (given : List Bytes) (contents : Option Contents) (F : Type 0) (o : Outcome)
    → (o ≡ OutOfMemory) ⊎ ((o ≡ Usage) × (takes tool_app given ≡ false)) → IsMade {Z = Z} (FindsNamed given contents) F (Err o)
made_of_no_words Z given contents F o (inl memory) = rw memory tt
made_of_no_words Z given contents F o (inr usage) = rw usage.0 (inr (record { not_taken = usage.1; same = refl }))

-- what the words ask for is a file
pub made_of_file : {Z : Type 0} (made : Result (Vec ℕ Z) Outcome) (given : List Bytes) (contents : Option Contents) (question : Question) (failed : Type 0)
    → asked_named given ≡ Resolve question → IsMade (FindsPart (Prints contents question)) failed made → IsMade (FindsNamed given contents) (FailsNamed given failed) made
made_of_file made given contents question failed asks is =
    IsMade-weaker made (FindsPart (Prints contents question)) (FindsNamed given contents) failed (FailsNamed given failed)
    (λ found h. inl (subst (λ (what : Asked). FindsFor what contents found) (sym asks) h))
    (λ counted. record { question = question; asks = asks; counted = counted })
    is

-- what the words ask for is the demo
pub made_of_sample : {Z : Type 0} (made : Result (Vec ℕ Z) Outcome) (given : List Bytes) (contents : Option Contents) (n : ℕ) (failed : Type 0)
    → asked_named given ≡ Demo n → IsMade (λ found. found ≡ found_in (summary n)) ⊥ made → IsMade (FindsNamed given contents) failed made
made_of_sample made given contents n failed asks is =
    IsMade-weaker made (λ found. found ≡ found_in (summary n)) (FindsNamed given contents) ⊥ failed
    (λ found h. inl (subst (λ (what : Asked). FindsFor what contents found) (sym asks) h))
    (λ none. absurd none)
    is

pub made_of_nothing : (Z : Type 0) (given : List Bytes) (contents : Option Contents) (F : Type 0) → asked_named given ≡ Malformed → IsMade {Z = Z} (FindsNamed given contents) F (Err Usage)
made_of_nothing Z given contents F asks = inl (subst (λ (what : Asked). FindsFor what contents run.Malformed) (sym asks) refl)

-- the demo's mark is the outcome in place of its text
pub demo_refused : (n : ℕ) (k : ErrorKind) → Fails k (summary n) → IsMemoryOrFormat k → IsMade {Z = ℕ} (λ found. found ≡ found_in (summary n)) ⊥ (Err (refusal_of k))
demo_refused n k fails is =
    IsMade-refusal ℕ k (λ found. found ≡ found_in (summary n)) ⊥ (format_cause k ⊥ _ (summary n) fails is (λ mark. ap found_in (sym mark)))

-- a file's mark, or a failure of the files, is the outcome in place of its text
pub file_refused : (contents : Option Contents) (question : Question) (k : ErrorKind) (F : Type 0)
    → (k ≡ kind.OutOfMemory) ⊎ HasKindCause k F (Prints contents question (Broken k)) → IsMade {Z = ℕ} (FindsPart (Prints contents question)) F (Err (refusal_of k))
file_refused contents question k F cause =
    IsMade-refusal ℕ k (FindsPart (Prints contents question)) F (printed_cause k F contents question cause)

-- the words are known by another name
pub made_of_same : {Z : Type 0} (made : Result (Vec ℕ Z) Outcome) (given other : List Bytes) (contents : Option Contents) (failed : Type 0)
    → given ≡ other → IsMade (FindsNamed given contents) (FailsNamed given failed) made → IsMade (FindsNamed other contents) (FailsNamed other failed) made
made_of_same made given other contents failed same is =
    let P : List Bytes → Type 0 = λ given. IsMade (FindsNamed given contents) (FailsNamed given failed) made in
    subst P same is
