use Rattle.std.proofs.Common.{◌≡◌, ◌<◌, ◌-◌, Some, None, Option, refl, sym, ◌∙◌, arith}
use Rattle.blz_info.specs.Contents.{section_view}
use Rattle.blz_ranges.specs.declared.span.Span.{Span}
use Rattle.blz_entry.proofs.SetSteps.{pair_kept, pair_passed, pairs_end, pair_ahead}
use Rattle.blz_entry.proofs.aranges.next_kept.Goals as goal

pub returns-in-Some-range : goal.returns-in-Some-range
returns-in-Some-range c =
    let read = rw c.in-Some-range.is at c.in-Some.ensures.value in
    sym c.loop-range.invariant ∙ pair_kept _ _ _ _ c.in-Some.next c.in-Some-range.range (sym read)

pub loop-range-smaller : goal.loop-range-smaller
loop-range-smaller c =
    let led = pair_ahead c.args.end c.args.size (section_view c.args.section.now) c.loop-range.place (c.in-Some.range, c.in-Some.next) (sym c.in-Some.ensures.value) in
    let less : c.args.end - c.in-Some.next < c.args.end - c.loop-range.place = omega (arith, led) in
    less

pub loop-range-preserved : goal.loop-range-preserved
loop-range-preserved c =
    let none : c.in-Some.range ≡ None = is_none c.in-Some.range c.in_default-range.not-Some in
    let read = rw none at c.in-Some.ensures.value in
    sym (pair_passed _ _ _ _ c.in-Some.next (sym read)) ∙ c.loop-range.invariant
  where
    is_none : (o : Option Span) → ((x : Span) → o ≡ Some x → ⊥) → o ≡ None
    is_none None h = refl
    is_none (Some x) h = absurd (h x refl)

pub returns : goal.returns
returns c = sym c.loop-range.invariant ∙ pairs_end _ _ _ _ (sym c.in_default.ensures.value)
