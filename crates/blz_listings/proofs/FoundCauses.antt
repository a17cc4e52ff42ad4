-- From what was read to what is found.
use Rattle.std.proofs.Common.{◌≡◌, ◌⊎◌, ◌≢◌, Option, Some, None, refl, sym, ap, subst, ◌∙◌, inl, inr}
use Rattle.blz_error.specs.Texts.{Bytes}
use Rattle.blz_error.specs.declared.kind.ErrorKind.{ErrorKind}
use Rattle.blz_error.specs.declared.kind.ErrorKind.TheVariants as kind
use Rattle.blz_model.specs.Part.{Part, Good, Broken, Fails, ◌>>=◌}
use Rattle.blz_program.proofs.Ends.{HasKindCause-format, HasKindCause-weaker}
use Rattle.blz_program.specs.Runs.{Found}
use Rattle.blz_resolver.specs.Contents.{Contents}
use Rattle.blz_resolver.specs.FormatKinds.{IsFormatKind, IsMemoryOrFormat}
use Rattle.blz_resolver.specs.Images.{ImageSet}
use Rattle.blz_resolver.specs.Opening.{Opens, default_dirs}
use Rattle.blz_resolver.specs.Outcomes.{HasKindCause}
use Rattle.blz_listings.specs.Questions.{Finds, Prints, Question, found_for, found_in, printed}

-- opening is refused, so nothing is printed
pub opening_cause : (k : ErrorKind) (F : Type 0) (contents : Option Contents) (question : Question)
    → (k ≡ kind.OutOfMemory) ⊎ HasKindCause k F (Opens contents question.path default_dirs (Broken k))
    → (k ≡ kind.OutOfMemory) ⊎ HasKindCause k F (Prints contents question (Broken k))
opening_cause k F contents question (inl memory) = inl memory
opening_cause k F contents question (inr cause) =
    inr (HasKindCause-weaker k F _ F _ (λ f. f) (λ opens. record { opening = Broken k; opens = opens; gives = refl }) cause)

format_is_not_memory : (k : ErrorKind) → IsFormatKind k → k ≢ kind.OutOfMemory
format_is_not_memory k is e = let P : ErrorKind → Type 0 = λ k. IsFormatKind k in subst P e is

-- the answer is refused, so nothing is printed
pub answer_cause : (k : ErrorKind) (F : Type 0) (contents : Option Contents) (question : Question) (images : ImageSet)
    → Opens contents question.path default_dirs (Good images) → Fails k (question.text_for images) → IsMemoryOrFormat k
    → (k ≡ kind.OutOfMemory) ⊎ HasKindCause k F (Prints contents question (Broken k))
answer_cause k F contents question images opens fails (inl memory) = inl memory
answer_cause k F contents question images opens fails (inr is) =
    inr (HasKindCause-format k F _ is (record { opening = Good images; opens = opens; gives = fails (format_is_not_memory k is) }))

-- ---- where the contents are told

printed_is : (c : Contents) (question : Question) (part : Part Bytes) → Prints (Some c) question part → printed c question ≡ part
printed_is c question part prints = ap (λ (p : Part ImageSet). p >>= question.text_for) prints.opens ∙ prints.gives

known_told : (c : Contents) (asking : Option Question) (found : Found) → Finds asking (Some c) found → found ≡ found_for c asking
known_told c None found finds = finds
known_told c (Some question) found finds = finds.same ∙ ap found_in (sym (printed_is c question finds.part finds.prints))

-- what is found is known
pub found_known : (contents : Option Contents) (c : Contents) (asking : Option Question) (found : Found) → contents ≡ Some c → Finds asking contents found → found ≡ found_for c asking
found_known contents c asking found told finds =
    let P : Option Contents → Type 0 = λ contents. Finds asking contents found in
    known_told c asking found (subst P told finds)
