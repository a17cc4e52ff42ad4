-- The sets that name the start of a unit stand together where the sets rise, and a stable sort keeps their order.
use Rattle.std.proofs.Common.{◌≡◌, ℕ, zero, suc, ◌+◌, ◌-◌, ◌≤◌, ◌<◌, Bool, true, false, ltb, leb, List, [], ◌∷◌, ◌++◌, length, get_or, take, drop, filter, nat_cmp, is_lt, Some, refl, sym, ap, ◌∙◌, append_assoc, drop-cons, arith, inl, inr}
use Rattle.std.specs.List.{slice_get}
use Rattle.std.specs.List.Sorted.{ties, IsPartitionPoint, IsSortedByKey, IsStableByKey}
use Rattle.std.specs.Prelude.{if◌then◌else◌}
use Rattle.std.proofs.lemmas.Bool.{cases_Bool, ltb-true, ltb-false, leb-false, ne_eqb}
use Rattle.std.proofs.lemmas.Bool.Decides.{nat_tests}
use Rattle.std.proofs.Math.ListN.{drop_of_length-le}
use Rattle.std.proofs.lemmas.List.{append-nil}
use Rattle.std.proofs.lemmas.List.Sorted.{IsNonDecreasingBy-from_sort}
use Rattle.std.proofs.lemmas.Option.{get_or_from_slice_get, slice_get_within}
use Rattle.blz_entry.specs.AddressSets.{pairs_of}
use Rattle.blz_info.specs.Contents.{Contents}
use Rattle.blz_entry.specs.declared.aranges.ArangeSet.{ArangeSet}
use Rattle.blz_ranges.specs.declared.span.Span.{Span}
use Rattle.blz_units.specs.Sets.{ranges_for, named, IsByUnit, IsExtent}

no_ranges : (s : Contents) (start : ℕ) (set : ArangeSet) → (set.unit ≡ start → ⊥) → ranges_for s start set ≡ []
no_ranges s start set other = let f = ne_eqb set.unit start other in ap (λ (b : Bool). if b then pairs_of s set else []) f

abbrev Others : ℕ → List ArangeSet → ℕ → Type 0
Others start sets from = (i : ℕ) (set : ArangeSet) → from ≤ i → slice_get sets i ≡ Some set → set.unit ≡ start → ⊥

named_nothing : (s : Contents) (start : ℕ) (sets : List ArangeSet) → Others start sets 0 → named s start sets ≡ []
unfolding named
named_nothing s start [] others = refl
named_nothing s start (set ∷ rest) others =
    ap (λ (l : List Span). l ++ named s start rest) (no_ranges s start set (others 0 set (omega arith) refl)) ∙ named_nothing s start rest (λ i x le is. others (suc i) x (omega arith) is)

named_cut : (s : Contents) (start : ℕ) (sets : List ArangeSet) (n : ℕ) → Others start sets n → named s start (take n sets) ≡ named s start sets
unfolding named
named_cut s start [] zero others = refl
named_cut s start [] (suc n) others = refl
named_cut s start (set ∷ rest) zero others = sym (named_nothing s start (set ∷ rest) others)
named_cut s start (set ∷ rest) (suc n) others = ap (λ (l : List Span). ranges_for s start set ++ l) (named_cut s start rest n (λ i x le is. others (suc i) x (omega arith) is))

named_skip : (s : Contents) (start : ℕ) (sets : List ArangeSet) (n : ℕ) → ((i : ℕ) (set : ArangeSet) → i < n → slice_get sets i ≡ Some set → set.unit ≡ start → ⊥) → named s start (drop n sets) ≡ named s start sets
unfolding named
named_skip s start [] zero others = refl
named_skip s start [] (suc n) others = refl
named_skip s start (set ∷ rest) zero others = refl
named_skip s start (set ∷ rest) (suc n) others =
    named_skip s start rest n (λ i x lt is. others (suc i) x (omega arith) is) ∙ ap (λ (l : List Span). l ++ named s start rest) (sym (no_ranges s start set (others 0 set (omega arith) refl)))

dropped : (sets : List ArangeSet) (n i j : ℕ) (set : ArangeSet) → j ≡ n + i → slice_get (drop n sets) i ≡ Some set → slice_get sets j ≡ Some set
dropped [] zero i j set e is = absurd cc
dropped [] (suc n) i j set e is = absurd cc
dropped (x ∷ rest) zero i j set e is = let k : j ≡ i = omega arith in rw k is
dropped (x ∷ rest) (suc n) i zero set e is = absurd (omega arith)
dropped (x ∷ rest) (suc n) i (suc j) set e is = dropped rest n i j set (omega arith) is

pub named_within : (s : Contents) (start : ℕ) (sets : List ArangeSet) (from to : ℕ) → IsExtent start sets from to → named s start (take (to - from) (drop from sets)) ≡ named s start sets
named_within s start sets from to e =
    let o = e.ordered in
    named_cut s start (drop from sets) (to - from) (λ i x le is. e.behind (from + i) x (omega arith) (dropped sets from i (from + i) x refl is)) ∙ named_skip s start sets from e.before

-- ---- one set after the other

pub named_more : (s : Contents) (start : ℕ) (sets : List ArangeSet) (i : ℕ) (d : ArangeSet) (front : List Span) → i < length sets → front ++ named s start (drop i sets) ≡ (front ++ ranges_for s start (get_or sets i d)) ++ named s start (drop (i + 1) sets)
unfolding named
named_more s start sets i d front lt =
    let k : i + 1 ≡ suc i = omega arith in
    rw (k, drop-cons sets i d) (sym (append_assoc front (ranges_for s start (get_or sets i d)) (named s start (drop (suc i) sets))))

pub named_over : (s : Contents) (start : ℕ) (sets : List ArangeSet) (i : ℕ) (front : List Span) → length sets ≤ i → front ++ named s start (drop i sets) ≡ front
unfolding named
named_over s start sets i front le = let e = drop_of_length-le sets {i = i} le in rw e (append-nil front)

pub span_more : (front : List Span) (span : Span) (old new rest : List Span) → old ≡ span ∷ new → front ++ old ≡ rest → (front ++ span ∷ []) ++ new ≡ rest
span_more front span old new rest e is = append_assoc front (span ∷ []) new ∙ (ap (λ (l : List Span). front ++ l) (sym e) ∙ is)

pub span_over : (front old rest : List Span) → old ≡ [] → front ++ old ≡ rest → front ≡ rest
span_over front old rest e is = sym (append-nil front) ∙ (ap (λ (l : List Span). front ++ l) (sym e) ∙ is)

-- ---- where they stand

no_set : ArangeSet
no_set = record { unit = 0; at = 0; end = 0; address_size = 0 }

abbrev pub PartsBelow : List ArangeSet → ℕ → ℕ → Type 0
PartsBelow sets start at = IsPartitionPoint (λ (set : ArangeSet). ltb set.unit start ≡ true) (λ (set : ArangeSet). ltb set.unit start ≡ false) sets at

abbrev pub PartsUpTo : List ArangeSet → ℕ → ℕ → Type 0
PartsUpTo sets start at = IsPartitionPoint (λ (set : ArangeSet). leb set.unit start ≡ true) (λ (set : ArangeSet). leb set.unit start ≡ false) sets at

in_order : (start : ℕ) (sets : List ArangeSet) (from to : ℕ) → from ≤ length sets → PartsBelow sets start from → PartsUpTo sets start to → from ≤ to
in_order start sets from to within below up_to = elim (cases_Bool (ltb to from)) [
  | inl t ↦ absurd (
      let lt = ltb-true _ _ t in
      let below_start = ltb-true _ _ (below.0 to no_set (omega arith) (omega arith)) in
      let above_start = leb-false _ _ (up_to.1 to no_set (omega arith) (omega arith)) in
      omega arith)
  | inr f ↦ let k = ltb-false _ _ f in omega arith
]

pub extent_made : (start : ℕ) (sets : List ArangeSet) (from to : ℕ) → from ≤ length sets → to ≤ length sets → PartsBelow sets start from → PartsUpTo sets start to → IsExtent start sets from to
extent_made start sets from to from_in to_in below up_to = record {
  ordered = in_order start sets from to from_in below up_to;
  within = to_in;
  before = λ i set lt is same.
      let here = get_or_from_slice_get sets i set set is in
      let b = ltb-true _ _ (below.0 i set (omega arith) lt) in
      let k = ap (λ (x : ArangeSet). x.unit) here in
      omega arith;
  behind = λ i set le is same.
      let here = get_or_from_slice_get sets i set set is in
      let in_list = slice_get_within sets i set is in
      let b = leb-false _ _ (up_to.1 i set le in_list) in
      let k = ap (λ (x : ArangeSet). x.unit) here in
      omega arith;
}

-- ---- a stable sort by the unit

abbrev unit_of : ArangeSet → ℕ
unit_of set = set.unit

abbrev unit_tie : ArangeSet → ArangeSet → Bool
unit_tie = ties (λ (x y : ArangeSet). is_lt (nat_cmp x.unit y.unit))

equal_units_tie : (m n : ℕ) → m ≡ n → ties (λ x y. is_lt (nat_cmp x y)) m n ≡ true
equal_units_tie m n e = grind (arith, nat_tests)

-- the sets that tie with one of a unit are all that name the unit
named_among_ties : (s : Contents) (x : ArangeSet) (sets : List ArangeSet) → named s x.unit (filter (unit_tie x) sets) ≡ named s x.unit sets
unfolding named
named_among_ties s x [] = refl
named_among_ties s x (set ∷ rest) = elim (cases_Bool (unit_tie x set)) [
  | inl t ↦ rw t (ap (λ (l : List Span). ranges_for s x.unit set ++ l) (named_among_ties s x rest))
  | inr f ↦ rw f (named_among_ties s x rest ∙ ap (λ (l : List Span). l ++ named s x.unit rest) (sym (no_ranges s x.unit set (λ same. let t = equal_units_tie x.unit set.unit (sym same) in cc))))
]

named_after_sort : (s : Contents) (start : ℕ) (sets sorted : List ArangeSet) → IsStableByKey unit_of nat_cmp sets sorted → named s start sorted ≡ named s start sets
named_after_sort s start sets sorted stable =
    let x : ArangeSet = record { unit = start; at = 0; end = 0; address_size = 0 } in
    sym (named_among_ties s x sorted) ∙ (ap (λ (l : List ArangeSet). named s start l) (stable x) ∙ named_among_ties s x sets)

pub by_unit_from_sort : (sets sorted : List ArangeSet) → IsSortedByKey unit_of nat_cmp sorted → IsStableByKey unit_of nat_cmp sets sorted → IsByUnit sets sorted
by_unit_from_sort sets sorted up stable = record {
  rising = IsNonDecreasingBy-from_sort unit_of sorted up;
  same = λ s start. named_after_sort s start sets sorted stable;
}
