-- One more range of a scan from the end.
use Rattle.std.proofs.Common.{◌≡◌, ℕ, zero, suc, ◌+◌, ◌-◌, ◌<◌, Bool, cond, List, ◌∷◌, drop, length, Option, Some, get_or, refl, ap, subst, drop-cons, arith, ◌∙◌}
use Rattle.std.specs.Prelude.{option_map, ◌&&◌}
use Rattle.std.specs.List.{slice_get}
use Rattle.std.proofs.lemmas.Option.{slice_get_within, slice_get-map, get_or_from_slice_get}
use Rattle.blz_ranges.specs.declared.span.Span.{Span}
use Rattle.blz_ranges.specs.declared.placed.Placed.{Placed}
use Rattle.blz_ranges.specs.declared.grouped.Grouped.{Grouped}
use Rattle.blz_ranges.specs.Best.{better, best_by}
use Rattle.blz_ranges.specs.Groups.{group_is, in_group, spans_of}

drop_at : (spans : List Span) (i : ℕ) (s : Span) → slice_get spans i ≡ Some s → drop i spans ≡ s ∷ drop (i + 1) spans
drop_at spans i s is =
    let lt : i < length spans = slice_get_within spans i s is in
    let e : get_or spans i s ≡ s = get_or_from_slice_get spans i s s is in
    let f : suc i ≡ i + 1 = omega arith in
    drop-cons spans i s lt ∙ (ap (λ (x : Span). x ∷ drop (suc i) spans) e ∙ ap (λ (n : ℕ). s ∷ drop n spans) f)

stepped : (test : ℕ → Span → Bool) (spans : List Span) (i : ℕ) (s : Span) → slice_get spans i ≡ Some s
    → cond (test i s) (better (record { place = i; span = s }) (best_by test (i + 1) (drop (i + 1) spans))) (best_by test (i + 1) (drop (i + 1) spans)) ≡ best_by test i (drop i spans)
unfolding best_by
stepped test spans i s is = rw (drop_at spans i s is) refl

scanned_by : (test : ℕ → Span → Bool) (spans : List Span) (at : ℕ) (s : Span) (best : Option Placed) → 0 < at → slice_get spans (at - 1) ≡ Some s → best ≡ best_by test at (drop at spans)
    → cond (test (at - 1) s) (better (record { place = at - 1; span = s }) best) best ≡ best_by test (at - 1) (drop (at - 1) spans)
scanned_by test spans zero s best pos is h = absurd (omega arith)
scanned_by test spans (suc i) s best pos is h =
    let e : suc i - 1 ≡ i = omega arith in
    let f : suc i ≡ i + 1 = omega arith in
    let is' : slice_get spans i ≡ Some s = subst (λ (n : ℕ). slice_get spans n ≡ Some s) e is in
    rw (e, h, f) (stepped test spans i s is')

pub scanned : (list : List Grouped) (g : ℕ) (test : ℕ → Span → Bool) (at : ℕ) (x : Grouped) (best : Option Placed) → 0 < at → slice_get list (at - 1) ≡ Some x → best ≡ best_by (in_group list g test) at (drop at (spans_of list))
    → cond (group_is g (Some x) && test (at - 1) x.span) (better (record { place = at - 1; span = x.span }) best) best ≡ best_by (in_group list g test) (at - 1) (drop (at - 1) (spans_of list))
scanned list g test at x best pos is h =
    let s : slice_get (spans_of list) (at - 1) ≡ Some x.span = slice_get-map (λ (e : Grouped). e.span) list (at - 1) ∙ ap (option_map (λ (e : Grouped). e.span)) is in
    subst (λ (o : Option Grouped). cond (group_is g o && test (at - 1) x.span) (better (record { place = at - 1; span = x.span }) best) best ≡ best_by (in_group list g test) (at - 1) (drop (at - 1) (spans_of list))) is
    (scanned_by (in_group list g test) (spans_of list) at x.span best pos s h)
