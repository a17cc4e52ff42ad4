-- What a run makes is what it finds.
use Rattle.std.proofs.Common.{◌≡◌, ◌≢◌, ◌⊎◌, ℕ, Bool, List, Option, Some, None, Result, Ok, Err, refl, sym, ap, subst, ◌∙◌, inl, inr}
use Rattle.std.specs.FinMap as map
use Rattle.std.specs.Str.{bytes_eq}
use Rattle.blz_error.specs.Texts.{Bytes}
use Rattle.blz_error.specs.declared.kind.ErrorKind.{ErrorKind}
use Rattle.blz_error.specs.declared.kind.ErrorKind.TheVariants as kind
use Rattle.blz_model.specs.Part.{Good, Broken}
use Rattle.blz_program.specs.Reading.{FindsNothing, Holds}
use Rattle.std.specs.Result.{IfOk}
use Rattle.std.specs.declared.vec.Vec.{Vec}
use Rattle.blz_program.specs.Outcomes.{refusal_of}
use Rattle.blz_program.specs.Runs.{Found, IsMade, Mark, Text}
use Rattle.blz_program.specs.declared.outcome.Outcome.{Outcome}
use Rattle.blz_program.proofs.Ends.{HasKindCause-format, HasKindCause-weaker, IsMade-refusal}
use Rattle.blz_resolver.specs.Contents.{Contents}
use Rattle.blz_resolver.specs.FormatKinds.{IsFormatKind, IsMemoryOrFormat}
use Rattle.blz_resolver.specs.Images.{ImageSet}
use Rattle.blz_resolver.specs.Opening.{Opens, default_dirs}
use Rattle.blz_resolver.specs.Outcomes.{HasKindCause}
use Rattle.blz_fold.specs.Counted.{Counted, lines_of, nodes_of}
use Rattle.blz_fold.specs.Naming.{FoldedNames, fold_of, folded_names, named_lines, named_stacks}
use Rattle.blz_fold.specs.Runs.{FindsFolded, FindsFor, Question, asked, folded_text, found_folded, found_for, found_from, found_parsed, Finds}
use Rattle.blz_fold.specs.StackLines.{parsed}
use Rattle.blz_fold.specs.declared.stack_list.Stack.{Stack}
use Rattle.blz_fold.proofs.Named.{folded_good}
use Rattle.blz_fold.proofs.Scanning.{mark_of_bind}

-- ---- a text

pub text_found : (images : ImageSet) (stacks : List Stack) (lines : List (Counted Bytes)) (nodes : Bool) (text : Bytes) → named_lines images stacks ≡ Good lines → text ≡ folded_text nodes (record { lines = lines; nodes = nodes_of bytes_eq lines }) → Text text ≡ found_folded nodes (fold_of images stacks)
text_found images stacks lines nodes text good is =
    let folded : FoldedNames = record { lines = lines; nodes = nodes_of bytes_eq lines } in
    ap Text is ∙ sym (ap (λ p. found_folded nodes p) (folded_good images stacks lines good folded refl refl))

-- ---- a mark

not_memory : (k : ErrorKind) → IsFormatKind k → k ≢ kind.OutOfMemory
not_memory k is same = subst IsFormatKind same is

-- an error of the scan is for want of memory, or its mark is found
pub mark_found : (images : ImageSet) (stacks : List Stack) (nodes : Bool) (k : ErrorKind) → IsMemoryOrFormat k → (k ≢ kind.OutOfMemory → named_lines images stacks ≡ Broken k) → (k ≡ kind.OutOfMemory) ⊎ HasKindCause k ⊥ (Mark k ≡ found_folded nodes (fold_of images stacks))
mark_found images stacks nodes k (inl memory) fails = inl memory
mark_found images stacks nodes k (inr is) fails =
    let broken = mark_of_bind (named_stacks images stacks) (λ names. lines_of bytes_eq names) folded_names k (fails (not_memory k is)) in
    inr (HasKindCause-format k ⊥ (Mark k ≡ found_folded nodes (fold_of images stacks)) is (sym (ap (λ p. found_folded nodes p) broken)))

-- ---- the files

some_held : (contents : Option Contents) (path : Bytes) → (held : Option Bytes) × Holds contents path held
some_held None path = (None, tt)
some_held (Some c) path = (map.get c path, refl)

-- what opening broke on is found
pub opening_found : (contents : Option Contents) (question : Question) (k : ErrorKind) → Opens contents question.image default_dirs (Broken k) → FindsFolded contents question (Mark k)
opening_found contents question k opens =
    let held = some_held contents question.stacks in
    record { opening = Broken k; opens = opens; held = held.0; holds = held.1; same = refl }

-- that the stacks are not there is found
pub nothing_found : (contents : Option Contents) (question : Question) (images : ImageSet) (k : ErrorKind) → Opens contents question.image default_dirs (Good images) → FindsNothing contents question.stacks k → FindsFolded contents question (Mark k)
nothing_found contents question images k opens none = record { opening = Good images; opens = opens; held = None; holds = none.nothing; same = ap Mark none.kind }

-- what is found where the contents are told
pub found_is : (c : Contents) (contents : Option Contents) (words : List Bytes) (found : Found) → contents ≡ Some c → Finds words contents found → found ≡ found_for c (asked words)
found_is c contents words found told finds = by (asked words) (subst (λ z. Finds words z found) told finds)
  where
    by : (o : Option Question) → FindsFor o (Some c) found → found ≡ found_for c o
    by None h = h
    by (Some question) h = h.same ∙ (λ i. found_from question.nodes (sym h.opens i) (sym h.holds i))

pub if_ok_same : {Z E : Type 0} (r : Result (Vec ℕ Z) E) (x y : Bytes) → x ≡ y → IfOk r (λ v. v.items ≡ x) → IfOk r (λ v. v.items ≡ y)
if_ok_same (Ok v) x y same is = is ∙ same
if_ok_same (Err e) x y same is = tt

-- an error with its cause, or for want of memory, of a part of what is done
pub cause_of : (k : ErrorKind) (F M G N : Type 0) → (F → G) → (M → N) → (k ≡ kind.OutOfMemory) ⊎ HasKindCause k F M → (k ≡ kind.OutOfMemory) ⊎ HasKindCause k G N
cause_of k F M G N f m (inl memory) = inl memory
cause_of k F M G N f m (inr cause) = inr (HasKindCause-weaker k F M G N f m cause)

-- an error ends a run by it
pub refused_by : (Z : Type 0) (o : Outcome) (k : ErrorKind) (Found_so : Found → Type 0) (F : Type 0) → o ≡ refusal_of k → (k ≡ kind.OutOfMemory) ⊎ HasKindCause k F (Found_so (Mark k)) → IsMade {Z = Z} Found_so F (Err o)
refused_by Z o k Found_so F is cause = subst (λ z. IsMade {Z = Z} Found_so F (Err z)) (sym is) (IsMade-refusal Z k Found_so F cause)

-- the text of the stacks decides what is found
pub text_decides : (contents : Option Contents) (question : Question) (images : ImageSet) (text : Bytes) (found : Found) → Opens contents question.image default_dirs (Good images) → Holds contents question.stacks (Some text) → found ≡ found_parsed question.nodes images (parsed text) → FindsFolded contents question found
text_decides contents question images text found opens holds same = record { opening = Good images; opens = opens; held = Some text; holds = holds; same = same }
