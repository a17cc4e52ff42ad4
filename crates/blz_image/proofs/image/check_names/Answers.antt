use Rattle.std.proofs.Common.{◌≡◌, ℕ, ◌+◌, ◌-◌, ◌<◌, ◌≤◌, List, length, get_or, drop, arith}
use Rattle.std.proofs.lemmas.List.{get_or-drop, length-drop}
use Rattle.std.proofs.lemmas.Result.{err_from_is_err_and}
use Rattle.blz_error.specs.declared.kind.ErrorKind.{ErrorKind}
use Rattle.blz_model.specs.Part.{Good, Broken}
use Rattle.blz_model.specs.Texts.{name_at}
use Rattle.blz_image.specs.Images.{names_of}
use Rattle.blz_image.specs.declared.section.Section.{Section}
use Rattle.blz_model.proofs.PartLemmas.{all_good_is, all_good_breaks}
use Rattle.blz_image.specs.Names.{name_in, names_in}
use Rattle.blz_image.proofs.image.check_names.Goals as goal

-- each name from 1 up to i is read
abbrev Read : List ℕ → List Section → ℕ → Type 0
Read texts sections i = (k : ℕ) (d : Section) → 1 ≤ k → k < i → name_at texts (get_or sections k d).name_offset ≡ Good (name_in texts (get_or sections k d))

later : (texts : List ℕ) (sections : List Section) (i : ℕ) → Read texts sections i → (k : ℕ) (d : Section) → k + 1 < i → name_at texts (get_or (drop 1 sections) k d).name_offset ≡ Good (name_in texts (get_or (drop 1 sections) k d))
later texts sections i read k d lt = rw get_or-drop (read (1 + k) d (omega arith) (omega arith))

names_read : (texts : List ℕ) (sections : List Section) (i : ℕ) → length sections ≤ i → Read texts sections i → names_of texts sections ≡ Good (names_in texts sections)
unfolding names_of
names_read texts sections i le read = all_good_is (λ s. name_at texts s.name_offset) (name_in texts) (drop 1 sections) (λ k d lt. later texts sections i read k d (omega (arith, length-drop 1 sections)))

names_break : (texts : List ℕ) (sections : List Section) (i : ℕ) (s : Section) (kind : ErrorKind) → 1 ≤ i → i < length sections → ((d : Section) → get_or sections i d ≡ s) → Read texts sections i → name_at texts s.name_offset ≡ Broken kind → names_of texts sections ≡ Broken kind
unfolding names_of
names_break texts sections i s kind low high here read broken =
    all_good_breaks (λ s. name_at texts s.name_offset) (name_in texts) (drop 1 sections) (i - 1) kind (omega (arith, length-drop 1 sections)) (λ k d lt. later texts sections i read k d (omega arith))
    (λ d. let at : 1 + (i - 1) ≡ i = omega arith in rw (get_or-drop, at, here d) broken)

pub returns-in_err-next_name : goal.returns-in_err-next_name
returns-in_err-next_name c =
    let p = err_from_is_err_and c.from_residual.result c.from_residual.ensures.1 in
    rw (p.1, p.2) (names_break c.args.texts.now c.args.sections.now c.loop-i.i _ _ (omega arith) (omega (arith, c.len-i-end.ensures)) c.at.ensures c.loop-i.invariant.read c.in_err-next_name.ensures.value.0, c.in_err-next_name.ensures.value.1)

pub returns : goal.returns
returns c = names_read c.args.texts.now c.args.sections.now c.loop-i.i (omega (arith, c.len-i-end.ensures)) c.loop-i.invariant.read
