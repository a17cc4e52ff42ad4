-- Lines, counted one stack after another; and what is the same of lines and of stacks.
use Rattle.std.proofs.Common.{◌≡◌, ℕ, ◌+◌, Bool, true, false, List, [], ◌∷◌, ◌++◌, map, refl, sym, ap, ◌∙◌, if◌then◌else◌, arith}
use Rattle.std.specs.Bool.{Decides}
use Rattle.std.specs.Cmp.Lexicographic.{pointwise}
use Rattle.std.specs.List.{flat_map, starts_with}
use Rattle.std.proofs.lemmas.List.{map_push, append_assoc, append-nil}
use Rattle.std.proofs.lemmas.List.Sums.{sum_by-cons}
use Rattle.blz_fold.specs.Counted.{Counted, Node, names_in, count_where, total, total_where, beginnings, distinct, line_of, lines_of, node_of, nodes_of}
use Rattle.blz_fold.specs.Adding.{line_added, node_added}
use Rattle.blz_fold.proofs.Distinct.{distinct_given}
use Rattle.blz_fold.proofs.Gathered.{names_match, node_names, row, gathered, gathered_push}
use Rattle.blz_fold.proofs.SumLemmas.{sum_map, map_map, map_back, map_same}

abbrev as_entry : {N : Type 0} → Counted N → Node N
as_entry s = record { names = s.names; count = s.count; own = 0 }

abbrev line_in : {N : Type 0} → Node N → Counted N
line_in n = record { names = n.names; count = n.count }

module _ {N : Type 0} (same : N → N → Bool) where
  abbrev alike : List N → List N → Bool
  alike = pointwise same

  line_added_in : (ns : List (Node N)) (s : Counted N) → line_added same (map line_in ns) s.names s.count ≡ map line_in (node_added same ns (as_entry s))
  line_added_in [] s = refl
  line_added_in (n ∷ ns) s = by (alike s.names n.names) (line_added_in ns s)
    where
      by : (b : Bool) → line_added same (map line_in ns) s.names s.count ≡ map line_in (node_added same ns (as_entry s)) →
          (if b then record { names = n.names; count = n.count + s.count } ∷ map line_in ns else line_in n ∷ line_added same (map line_in ns) s.names s.count)
          ≡ map line_in (if b then record { names = n.names; count = n.count + s.count; own = n.own + 0 } ∷ ns else n ∷ node_added same ns (as_entry s))
      by true h = refl
      by false h = ap (λ z. line_in n ∷ z) h

  lines_gathered : (stacks : List (Counted N)) → lines_of same stacks ≡ map line_in (gathered same (map as_entry stacks))
  lines_gathered stacks =
      let es = map as_entry stacks in
      let each : (k : List N) → line_of same stacks k ≡ line_in (row same es k) = λ k. (λ i. record { names = k; count = sym (sum_map (λ (e : Node N). if alike k e.names then e.count else 0) as_entry stacks) i }) in
      map_same (line_of same stacks) (λ k. line_in (row same es k)) each (distinct alike (map names_in stacks))
      ∙ sym (map_map line_in (row same es) (distinct alike (map names_in stacks)))
      ∙ ap (λ z. map line_in (map (row same es) (distinct alike z))) (sym (map_map node_names as_entry stacks))

  module _ (decides : (x y : N) → Decides (same x y) (x ≡ y)) where
    -- one stack more
    pub lines_push : (done : List (Counted N)) (s : Counted N) → line_added same (lines_of same done) s.names s.count ≡ lines_of same (done ++ s ∷ [])
    lines_push done s =
        ap (λ z. line_added same z s.names s.count) (lines_gathered done)
        ∙ line_added_in (gathered same (map as_entry done)) s
        ∙ ap (λ z. map line_in z) (gathered_push same decides (map as_entry done) (as_entry s))
        ∙ ap (λ z. map line_in (gathered same z)) (sym (map_push as_entry done s))
        ∙ sym (lines_gathered (done ++ s ∷ []))

    total_added : (test : List N → Bool) (lines : List (Counted N)) (names : List N) (count : ℕ) → total_where test (line_added same lines names count) ≡ total_where test lines + (if test names then count else 0)
    total_added test [] names count = omega (arith, sum_by-cons (count_where test) (record { names = names; count = count }) [])
    total_added test (l ∷ ls) names count = by (alike names l.names) refl (total_added test ls names count)
      where
        sum_cases : (b : Bool) → (if b then l.count + count else 0) ≡ (if b then l.count else 0) + (if b then count else 0)
        sum_cases true = refl
        sum_cases false = refl

        by : (b : Bool) → alike names l.names ≡ b → total_where test (line_added same ls names count) ≡ total_where test ls + (if test names then count else 0) →
            total_where test (if b then record { names = l.names; count = l.count + count } ∷ ls else l ∷ line_added same ls names count) ≡ total_where test (l ∷ ls) + (if test names then count else 0)
        by true is h =
            let named : (if test names then count else 0) ≡ (if test l.names then count else 0) = ap (λ z. if test z then count else 0) ((names_match same decides names l.names).0 is) in
            omega (arith, sum_by-cons (count_where test) (record { names = l.names; count = l.count + count }) ls, sum_by-cons (count_where test) l ls, sum_cases (test l.names), named)
        by false is h = omega (arith, sum_by-cons (count_where test) l (line_added same ls names count), sum_by-cons (count_where test) l ls, h)

    totals_along : (test : List N → Bool) (done more : List (Counted N)) → total_where test (lines_of same (done ++ more)) ≡ total_where test (lines_of same done) + total_where test more
    totals_along test done [] = ap (λ z. total_where test (lines_of same z)) (append-nil done) ∙ omega arith
    totals_along test done (s ∷ more) =
        let moved = ap (λ z. total_where test (lines_of same z)) (append_assoc done (s ∷ []) more) in
        let pushed = ap (λ z. total_where test z) (lines_push done s) in
        omega (arith, moved, totals_along test (done ++ s ∷ []) more, pushed, total_added test (lines_of same done) s.names s.count, sum_by-cons (count_where test) s more)

    -- the lines have the sums of the stacks, whatever names are asked for
    pub totals_stay : (test : List N → Bool) (stacks : List (Counted N)) → total_where test (lines_of same stacks) ≡ total_where test stacks
    totals_stay test stacks = omega (arith, totals_along test [] stacks)

    -- no count is lost
    pub total_stays : (stacks : List (Counted N)) → total (lines_of same stacks) ≡ total stacks
    total_stays stacks = totals_stay (λ names. true) stacks

    -- the nodes of the lines are those of the stacks
    pub nodes_of_lines : (stacks : List (Counted N)) → nodes_of same (lines_of same stacks) ≡ nodes_of same stacks
    nodes_of_lines stacks =
        let lines = lines_of same stacks in
        let names = map_back names_in (line_of same stacks) (λ k. refl) (distinct alike (map names_in stacks)) in
        let each : (k : List N) → node_of same lines k ≡ node_of same stacks k = λ k. (λ i. record { names = k; count = totals_stay (λ l. starts_with same l k) stacks i; own = totals_stay (alike k) stacks i }) in
        ap (λ z. map (node_of same lines) (distinct alike (flat_map beginnings z))) names
        ∙ ap (λ z. map (node_of same lines) z) (distinct_given alike (names_match same decides) alike (names_match same decides) beginnings (map names_in stacks))
        ∙ map_same (node_of same lines) (node_of same stacks) each (distinct alike (flat_map beginnings (map names_in stacks)))
