-- The relocations of the sections from one on.
use Rattle.std.proofs.Common.{◌≡◌, ℕ, ◌+◌, ◌<◌, ◌≤◌, List, length, get_or, drop, refl, sym, ◌∙◌}
use Rattle.std.proofs.lemmas.List.{at_drop_more, at_drop_all}
use Rattle.blz_error.specs.declared.kind.ErrorKind.{ErrorKind}
use Rattle.blz_model.specs.Part.{Part, Good, Broken}
use Rattle.blz_image.specs.declared.format.Format.{Format}
use Rattle.blz_image.specs.declared.section.Section.{Section}
use Rattle.blz_relocations.specs.Relocations.{SectionMap}
use Rattle.blz_image.specs.RelocationTables.{with_section, with_sections}

pub section_on : (f : Format) (bytes : List ℕ) (sections : List Section) (i : ℕ) (s : Section) (m n : SectionMap) (total : Part SectionMap) → i < length sections → ((d : Section) → get_or sections i d ≡ s) → with_section f bytes sections m s ≡ Good n → with_sections f bytes sections (drop i sections) m ≡ total → with_sections f bytes sections (drop (i + 1) sections) n ≡ total
unfolding with_sections
section_on f bytes sections i s m n total lt here e so_far =
    sym (at_drop_more (λ (ys : List Section). with_sections f bytes sections ys m) sections i s lt ∙ rw (here s, e) refl) ∙ so_far

pub section_break : (f : Format) (bytes : List ℕ) (sections : List Section) (i : ℕ) (s : Section) (m : SectionMap) (total : Part SectionMap) (kind : ErrorKind) → i < length sections → ((d : Section) → get_or sections i d ≡ s) → with_section f bytes sections m s ≡ Broken kind → with_sections f bytes sections (drop i sections) m ≡ total → total ≡ Broken kind
unfolding with_sections
section_break f bytes sections i s m total kind lt here e so_far =
    sym so_far ∙ at_drop_more (λ (ys : List Section). with_sections f bytes sections ys m) sections i s lt ∙ rw (here s, e) refl

pub sections_end : (f : Format) (bytes : List ℕ) (sections : List Section) (i : ℕ) (m : SectionMap) (total : Part SectionMap) → length sections ≤ i → with_sections f bytes sections (drop i sections) m ≡ total → total ≡ Good m
unfolding with_sections
sections_end f bytes sections i m total past so_far =
    sym so_far ∙ at_drop_all (λ (ys : List Section). with_sections f bytes sections ys m) sections i past
