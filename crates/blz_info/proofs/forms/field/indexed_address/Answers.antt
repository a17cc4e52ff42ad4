use Rattle.std.proofs.Common.{ℕ, arith, sym, ap, ◌∙◌}
use Rattle.std.specs.Prelude.{Option, option_map}
use Rattle.blz_info.specs.Contents.{section_view}
use Rattle.blz_info.proofs.Bytes.{address_past}
use Rattle.blz_info.proofs.forms.field.indexed_address.Goals as goal

pub returns-in_err-place : goal.returns-in_err-place
returns-in_err-place c =
    c.from_residual.ensures ∙ sym (ap (λ (o : Option (ℕ × ℕ)). option_map (λ (r : ℕ × ℕ). r.0) o) (address_past c.args.address_size (section_view c.args.section.now) _ (omega (arith, c.in_err-place.ensures))))
