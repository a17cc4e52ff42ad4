use Rattle.std.proofs.Common.{◌≡◌, ℕ, ◌<◌, ◌≤◌, get_or}
use Rattle.std.specs.Prelude.{IfSome}
use Rattle.blz_model.specs.Part.{Good}
use Rattle.blz_model.specs.Texts.{name_at}
use Rattle.blz_image.specs.declared.section.Section.{Section}
use Rattle.blz_image.specs.Names.{name_in}
use Rattle.blz_image.proofs.image.check_names.Given as goal

abbrev pub invariant-loop-i : goal.invariant-loop-i
invariant-loop-i l = record {
  read : (k : ℕ) (d : Section) → 1 ≤ k → k < l.i → name_at l.texts (get_or l.sections k d).name_offset ≡ Good (name_in l.texts (get_or l.sections k d));
  last : IfSome l.last (λ r. name_at l.texts r.at ≡ Good r.text.now);
}
