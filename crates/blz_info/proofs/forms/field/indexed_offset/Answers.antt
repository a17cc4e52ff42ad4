use Rattle.std.proofs.Common.{◌≤◌, ◌^◌, ◌+◌, ◌*◌, ℕ, arith, sym, ap, ◌∙◌}
use Rattle.std.specs.Prelude.{Option, option_map}
use Rattle.blz_info.specs.Contents.{section_view, offset_len}
use Rattle.blz_info.proofs.Bytes.{offset_past}
use Rattle.blz_info.proofs.forms.field.indexed_offset.Goals as goal

pub returns-in_err-place : goal.returns-in_err-place
returns-in_err-place c =
    c.from_residual.ensures ∙ sym (ap (λ (o : Option (ℕ × ℕ)). option_map (λ (r : ℕ × ℕ). r.0) o) (offset_past c.args.wide (section_view c.args.section.now) _ (let past : 2 ^ 64 ≤ c.args.base + c.args.index * offset_len c.args.wide = rw (← c.offset_len.ensures) c.in_err-place.ensures in omega arith)))
