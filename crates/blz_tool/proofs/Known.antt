-- Where it is known what the words and files give.
use Rattle.std.proofs.Common.{◌≡◌, ℕ, true, false, List, Option, Some, sym, ap, subst, inl, inr, ◌∙◌}
use Rattle.std.proofs.lemmas.Bool.{false≢true}
use Rattle.blz_error.specs.Texts.{Bytes}
use Rattle.blz_model.specs.Part.{Part, ◌>>=◌}
use Rattle.blz_program.specs.Runs.{Found}
use Rattle.blz_program.specs.Runs as run
use Rattle.blz_resolver.specs.Contents.{Contents}
use Rattle.blz_resolver.specs.Images.{ImageSet}
use Rattle.blz_tool.specs.CommandLine.{Asked, Demo, Malformed, Question, Resolve, asked, is_taken}
use Rattle.blz_tool.specs.Runs.{FilesFail, Finds, FindsFor, Prints, found_for, found_in, printed, text_for}
use Rattle.blz_tool.specs.Summary.{summary}

told : (c : Contents) (question : Question) (part : Part Bytes) → Prints (Some c) question part → part ≡ printed c question
told c question part p = sym (ap (λ (images : Part ImageSet). images >>= text_for question) p.opens ∙ p.gives)

known_for : (c : Contents) (what : Asked) (found : Found) → FindsFor what (Some c) found → found ≡ found_for c what
known_for c (Resolve question) found h = h.same ∙ ap found_in (told c question h.part h.is_part)
known_for c (Demo n) found h = h
known_for c Malformed found h = h

-- the files tell their contents
pub known : (c : Contents) (contents : Option Contents) (words : List Bytes) (found : Found) → contents ≡ Some c → is_taken words ≡ true → Finds words contents found → found ≡ found_for c (asked words)
known c contents words found is taken (inl h) = known_for c (asked words) found (subst (λ (contents : Option Contents). FindsFor (asked words) contents found) is h)
known c contents words found is taken (inr h) = absurd (false≢true (sym h.not_taken ∙ taken))

-- the demo reads no files
pub known_demo : (contents : Option Contents) (words : List Bytes) (n : ℕ) (found : Found) → asked words ≡ Demo n → is_taken words ≡ true → Finds words contents found → found ≡ found_in (summary n)
known_demo contents words n found asks taken (inl h) = subst (λ (what : Asked). FindsFor what contents found) asks h
known_demo contents words n found asks taken (inr h) = absurd (false≢true (sym h.not_taken ∙ taken))

pub demo_reads_none : (words : List Bytes) (n : ℕ) (failed : Type 0) → asked words ≡ Demo n → ¬ (FilesFail words failed)
demo_reads_none words n failed asks h = other_asked n h.question (sym asks ∙ h.asks)
  where
    other_asked : (n : ℕ) (question : Question) → Demo n ≡ Resolve question → ⊥
    other_asked n question e = cc

-- words that are not of their form
pub known_malformed : (contents : Option Contents) (words : List Bytes) (found : Found) → asked words ≡ Malformed → Finds words contents found → found ≡ run.Malformed
known_malformed contents words found asks (inl h) = subst (λ (what : Asked). FindsFor what contents found) asks h
known_malformed contents words found asks (inr h) = h.same

pub malformed_reads_none : (words : List Bytes) (failed : Type 0) → asked words ≡ Malformed → ¬ (FilesFail words failed)
malformed_reads_none words failed asks h = other_asked h.question (sym asks ∙ h.asks)
  where
    other_asked : (question : Question) → Malformed ≡ Resolve question → ⊥
    other_asked question e = cc
