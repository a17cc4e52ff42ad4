-- Ranges of one group are weighed as ranges without groups.
use Rattle.std.proofs.Common.{◌≡◌, ℕ, zero, suc, ◌+◌, ◌*◌, ◌≤◌, Bool, true, List, [], ◌∷◌, map, length, Option, Some, None, refl, sym, ap, arith, ◌∙◌}
use Rattle.std.specs.Prelude.{option_map}
use Rattle.std.specs.List.{slice_get}
use Rattle.std.proofs.lemmas.Bool.{and_parts, and_from, eq-eqb}
use Rattle.std.proofs.lemmas.List.{length-map}
use Rattle.std.proofs.lemmas.Option.{slice_get-map}
use Rattle.blz_ranges.specs.declared.span.Span.{Span}
use Rattle.blz_ranges.specs.declared.placed.Placed.{Placed}
use Rattle.blz_ranges.specs.declared.grouped.Grouped.{Grouped}
use Rattle.blz_ranges.specs.Best.{best, next, placed, passes, IsBest}
use Rattle.blz_ranges.specs.Groups.{grouped, group_is, spans_of, in_group, best_in, next_in, AreApart, AreApartInGroups}
use Rattle.blz_ranges.specs.Ranges.{AllInGroup}
use Rattle.blz_ranges.proofs.BestOf.{best_is, best_is_best}

-- a range of the list has a grouped one at its place
record Source (list : List Grouped) (q : ℕ) (t : Span) : Type 0 where
  pub item : Grouped
  pub is : slice_get list q ≡ Some item
  pub span_is : item.span ≡ t

source : (list : List Grouped) (q : ℕ) (t : Span) → slice_get (spans_of list) q ≡ Some t → Source list q t
source [] q t h = absurd cc
source (x ∷ xs) zero t h = record { item = x; is = refl; span_is = cc }
source (x ∷ xs) (suc q) t h = let r = source xs q t h in record { item = r.item; is = r.is; span_is = r.span_is }

is_there : (g : ℕ) (list : List Grouped) (q : ℕ) (t : Span) → AllInGroup g list → slice_get (spans_of list) q ≡ Some t → group_is g (slice_get list q) ≡ true
is_there g list q t all is =
    let s = source list q t is in
    ap (group_is g) s.is ∙ eq-eqb s.item.group g (all q s.item s.is)

alone : (g : ℕ) (list : List Grouped) (test : ℕ → Span → Bool) (o : Option ℕ) → AllInGroup g list → IsBest (in_group list g test) (spans_of list) o → IsBest test (spans_of list) o
alone g list test None all h = λ q t is p. h q t is (and_from _ _ (is_there g list q t all is) p)
alone g list test (Some p) all h = record {
  span = h.span;
  at = h.at;
  passes = (and_parts _ _ h.passes).1;
  first = λ q t is r. h.first q t is (and_from _ _ (is_there g list q t all is) r);
}

pub best_alone : (g : ℕ) (list : List Grouped) (a : ℕ) → AllInGroup g list → best_in list g a ≡ best (spans_of list) a
best_alone g list a all = best_is (passes a None) (spans_of list) _ (alone g list (passes a None) _ all (best_is_best (in_group list g (passes a None)) (spans_of list)))

pub next_alone : (g : ℕ) (list : List Grouped) (a bound : ℕ) → AllInGroup g list → next_in list g a bound ≡ next (spans_of list) a bound
next_alone g list a bound all =
    let after : Option Placed = Some (placed (spans_of list) bound) in
    best_is (passes a after) (spans_of list) _ (alone g list (passes a after) _ all (best_is_best (in_group list g (passes a after)) (spans_of list)))

span_there : (list : List Grouped) (p : ℕ) (x : Grouped) → slice_get list p ≡ Some x → slice_get (spans_of list) p ≡ Some x.span
span_there list p x is = slice_get-map (λ (e : Grouped). e.span) list p ∙ ap (option_map (λ (e : Grouped). e.span)) is

pub apart_alone : (g : ℕ) (list : List Grouped) → AllInGroup g list → AreApart (spans_of list) → AreApartInGroups list
apart_alone g list all apart = record {
  nonempty = λ p x is. apart.nonempty p x.span (span_there list p x is);
  apart = λ p q x y ne is isy s. apart.apart p q x.span y.span ne (span_there list p x is) (span_there list q y isy);
}

pub all_in_one : (spans : List Span) (p : ℕ) (x : Grouped) → slice_get (map (grouped 0) spans) p ≡ Some x → x.group ≡ 0
all_in_one [] p x is = absurd cc
all_in_one (s ∷ rest) zero x is = let e : grouped 0 s ≡ x = cc in sym (ap (λ (y : Grouped). y.group) e)
all_in_one (s ∷ rest) (suc p) x is = all_in_one rest p x is

pub spans_of_one : (spans : List Span) → spans_of (map (grouped 0) spans) ≡ spans
spans_of_one [] = refl
spans_of_one (s ∷ rest) = ap (λ (xs : List Span). s ∷ xs) (spans_of_one rest)

pub all_kept : (spans : List Span) (list : List Grouped) → list ≡ map (grouped 0) spans → AllInGroup 0 list
all_kept spans list e = rw e (all_in_one spans)

pub spans_kept : (spans : List Span) (list : List Grouped) → list ≡ map (grouped 0) spans → spans_of list ≡ spans
spans_kept spans list e = ap spans_of e ∙ spans_of_one spans

pub cost_alone : (g : ℕ) (list : List Grouped) (cost : ℕ) → AllInGroup g list → AreApart (spans_of list) → (AreApartInGroups list → cost ≤ 4 * (2 * length list + 1)) → cost ≤ 4 * (2 * length (spans_of list) + 1)
cost_alone g list cost all apart h =
    let k = h (apart_alone g list all apart) in
    let e = length-map list (λ (x : Grouped). x.span) in
    omega arith
