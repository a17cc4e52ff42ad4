-- The beginnings of stacks, gathered one after another.
use Rattle.std.proofs.Common.{◌≡◌, ℕ, ◌+◌, Bool, true, false, ◌&&◌, List, [], ◌∷◌, ◌++◌, map, length, take, refl, sym, ap, ◌∙◌, if◌then◌else◌, arith}
use Rattle.std.specs.Bool.{Decides, ⊤}
use Rattle.std.specs.Cmp.Lexicographic.{pointwise}
use Rattle.std.specs.List.{flat_map, starts_with, sum_by, AllByRecursion}
use Rattle.std.proofs.lemmas.List.{map-append, take_all}
use Rattle.std.proofs.lemmas.List.Sums.{sum_by-cons, sum_by-append}
use Rattle.blz_fold.specs.Counted.{Counted, Node, names_in, count_where, total_where, beginnings, distinct, node_of, nodes_of}
use Rattle.blz_fold.proofs.Distinct.{all_append, all_distinct}
use Rattle.blz_fold.proofs.Gathered.{names_match, node_names, part, row, gathered}
use Rattle.blz_fold.proofs.SumLemmas.{sum_same, sum_none, sum_map, map_back}

abbrev IsNonempty : {N : Type 0} → List N → Type 0
IsNonempty [] = ⊥
IsNonempty (n ∷ ns) = ⊤

all_nonempty : {N : Type 0} (n : N) (ps : List (List N)) → AllByRecursion IsNonempty (map (λ p. n ∷ p) ps)
all_nonempty n [] = tt
all_nonempty n (p ∷ ps) = (tt, all_nonempty n ps)

beginnings_nonempty : {N : Type 0} (ns : List N) → AllByRecursion IsNonempty (beginnings ns)
beginnings_nonempty [] = tt
beginnings_nonempty (n ∷ ns) = (tt, all_nonempty n (beginnings ns))

all_beginnings_nonempty : {N : Type 0} (xs : List (List N)) → AllByRecursion IsNonempty (flat_map beginnings xs)
all_beginnings_nonempty [] = tt
all_beginnings_nonempty (x ∷ xs) = all_append IsNonempty (beginnings x) (flat_map beginnings xs) (beginnings_nonempty x) (all_beginnings_nonempty xs)

module _ {N : Type 0} (same : N → N → Bool) where
  abbrev alike : List N → List N → Bool
  alike = pointwise same

  -- a beginning of a stack, with what the stack adds to it
  abbrev pub entry_at : Counted N → List N → Node N
  entry_at s p = record { names = p; count = s.count; own = if alike p s.names then s.count else 0 }

  abbrev pub entries : Counted N → List (Node N)
  entries s = map (entry_at s) (beginnings s.names)

  pub no_empty : (c : ℕ) (ns : List N) → sum_by (λ p. if alike [] p then c else 0) (beginnings ns) ≡ 0
  no_empty c [] = refl
  no_empty c (n ∷ ns) = omega (arith, sum_by-cons (λ p. if alike [] p then c else 0) (n ∷ []) (map (λ p. n ∷ p) (beginnings ns)), sum_map (λ p. if alike [] p then c else 0) (λ p. n ∷ p) (beginnings ns), sum_none (λ p. if alike [] (n ∷ p) then c else 0) (λ p. refl) (beginnings ns))

  -- a list begins with others as often as one of its beginnings is those: once or never
  pub begun : (c : ℕ) (m : N) (ms ns : List N) → sum_by (λ p. if alike (m ∷ ms) p then c else 0) (beginnings ns) ≡ (if starts_with same ns (m ∷ ms) then c else 0)
  begun c m ms [] = refl
  begun c m ms (n ∷ ns) =
      sum_by-cons (λ p. if alike (m ∷ ms) p then c else 0) (n ∷ []) (map (λ p. n ∷ p) (beginnings ns))
      ∙ ap (λ z. (if alike (m ∷ ms) (n ∷ []) then c else 0) + z) (sum_map (λ p. if alike (m ∷ ms) p then c else 0) (λ p. n ∷ p) (beginnings ns))
      ∙ by (same m n) ms (λ k ks. begun c k ks ns)
    where
      by : (b : Bool) (ks : List N) → ((l : N) (ls : List N) → sum_by (λ p. if alike (l ∷ ls) p then c else 0) (beginnings ns) ≡ (if starts_with same ns (l ∷ ls) then c else 0)) →
          (if (b && alike ks []) then c else 0) + sum_by (λ p. if (b && alike ks p) then c else 0) (beginnings ns) ≡ (if (b && alike ks (take (length ks) ns)) then c else 0)
      by false ks rest = omega (arith, sum_none (λ p. if (false && alike ks p) then c else 0) (λ p. refl) (beginnings ns))
      by true [] rest = omega (arith, no_empty c ns)
      by true (l ∷ ls) rest = omega (arith, rest l ls)

  module _ (decides : (x y : N) → Decides (same x y) (x ≡ y)) where
    own_part : (k names : List N) (c : ℕ) (p : List N) → (if alike k p then (if alike p names then c else 0) else 0) ≡ (if alike k p then (if alike k names then c else 0) else 0)
    own_part k names c p = by (alike k p) refl
      where
        by : (b : Bool) → alike k p ≡ b → (if b then (if alike p names then c else 0) else 0) ≡ (if b then (if alike k names then c else 0) else 0)
        by true is = ap (λ z. if alike z names then c else 0) (sym ((names_match same decides k p).0 is))
        by false is = refl

    zero_either : (b : Bool) → ◌≡◌ {A = ℕ} (if b then 0 else 0) 0
    zero_either true = refl
    zero_either false = refl

    -- a list begins with itself
    pub begins_with_itself : (names : List N) → starts_with same names names ≡ true
    begins_with_itself names = ap (λ z. alike names z) (take_all (length names) names (omega arith)) ∙ (names_match same decides names names).1 refl

    whole : (k names : List N) (c : ℕ) → (if starts_with same names k then (if alike k names then c else 0) else 0) ≡ (if alike k names then c else 0)
    whole k names c = by (alike k names) refl
      where
        by : (b : Bool) → alike k names ≡ b → (if starts_with same names k then (if b then c else 0) else 0) ≡ (if b then c else 0)
        by true is = ap (λ z. if z then c else 0) (ap (λ z. starts_with same names z) ((names_match same decides k names).0 is) ∙ begins_with_itself names)
        by false is = zero_either (starts_with same names k)

    counts_of : (m : N) (ms : List N) (s : Counted N) → sum_by (part same (λ e. e.count) (m ∷ ms)) (entries s) ≡ count_where (λ l. starts_with same l (m ∷ ms)) s
    counts_of m ms s = sum_map (part same (λ e. e.count) (m ∷ ms)) (entry_at s) (beginnings s.names) ∙ begun s.count m ms s.names

    owns_of : (m : N) (ms : List N) (s : Counted N) → sum_by (part same (λ e. e.own) (m ∷ ms)) (entries s) ≡ count_where (alike (m ∷ ms)) s
    owns_of m ms s =
        let worth = if alike (m ∷ ms) s.names then s.count else 0 in
        sum_map (part same (λ e. e.own) (m ∷ ms)) (entry_at s) (beginnings s.names)
        ∙ sum_same (λ p. if alike (m ∷ ms) p then (if alike p s.names then s.count else 0) else 0) (λ p. if alike (m ∷ ms) p then worth else 0) (own_part (m ∷ ms) s.names s.count) (beginnings s.names)
        ∙ begun worth m ms s.names ∙ whole (m ∷ ms) s.names s.count

    sums_of : (weight : Node N → ℕ) (test : List N → Bool) (k : List N) → ((s : Counted N) → sum_by (part same weight k) (entries s) ≡ count_where test s) → (stacks : List (Counted N)) → sum_by (part same weight k) (flat_map entries stacks) ≡ total_where test stacks
    sums_of weight test k each [] = refl
    sums_of weight test k each (s ∷ ss) = omega (arith, sum_by-append (part same weight k) (entries s) (flat_map entries ss), sum_by-cons (count_where test) s ss, each s, sums_of weight test k each ss)

    node_is_row : (stacks : List (Counted N)) (k : List N) → IsNonempty k → node_of same stacks k ≡ row same (flat_map entries stacks) k
    node_is_row stacks [] none = absurd none
    node_is_row stacks (m ∷ ms) some =
        let counts = sym (sums_of (λ e. e.count) (λ l. starts_with same l (m ∷ ms)) (m ∷ ms) (counts_of m ms) stacks) in
        let owns = sym (sums_of (λ e. e.own) (alike (m ∷ ms)) (m ∷ ms) (owns_of m ms) stacks) in
        (λ i. record { names = m ∷ ms; count = counts i; own = owns i })

    nodes_are_rows : (stacks : List (Counted N)) (ks : List (List N)) → AllByRecursion IsNonempty ks → map (node_of same stacks) ks ≡ map (row same (flat_map entries stacks)) ks
    nodes_are_rows stacks [] all = refl
    nodes_are_rows stacks (k ∷ ks) all = λ i. node_is_row stacks k all.0 i ∷ nodes_are_rows stacks ks all.1 i

    entry_names : (stacks : List (Counted N)) → map node_names (flat_map entries stacks) ≡ flat_map beginnings (map names_in stacks)
    entry_names [] = refl
    entry_names (s ∷ ss) = map-append node_names (entries s) (flat_map entries ss) ∙ (λ i. map_back node_names (entry_at s) (λ p. refl) (beginnings s.names) i ++ entry_names ss i)

    -- the nodes are gathered from what each stack adds to its beginnings
    pub nodes_gathered : (stacks : List (Counted N)) → nodes_of same stacks ≡ gathered same (flat_map entries stacks)
    nodes_gathered stacks =
        nodes_are_rows stacks (distinct alike (flat_map beginnings (map names_in stacks))) (all_distinct alike IsNonempty (flat_map beginnings (map names_in stacks)) [] tt (all_beginnings_nonempty (map names_in stacks)))
        ∙ ap (λ z. map (row same (flat_map entries stacks)) (distinct alike z)) (sym (entry_names stacks))
