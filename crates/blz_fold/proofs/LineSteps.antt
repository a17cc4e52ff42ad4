-- The beginnings of one line more, one after another.
use Rattle.std.proofs.Common.{◌≡◌, ◌<◌, ◌≤◌, ◌+◌, ◌^◌, ℕ, zero, suc, nat_eq, Bool, true, false, List, [], ◌∷◌, ◌++◌, length, map, take, get_or, slice_get, Option, Some, refl, sym, ap, ◌∙◌, if◌then◌else◌, arith}
use Rattle.std.specs.Option.{unwrap_or}
use Rattle.std.specs.Cmp.Lexicographic.{pointwise}
use Rattle.std.specs.List.{AllByRecursion, flat_map, sum_by}
use Rattle.std.proofs.lemmas.Bool.Decides.{Decides-eqb, Decides-like, same_from_decides}
use Rattle.std.proofs.lemmas.List.{append-nil, append_assoc, get_or-map, length-map, length-take, take_all, take_more}
use Rattle.std.proofs.lemmas.List.Sums.{sum_by-append, sum_by-cons, sum_by-take-le, sum_by-le-sum_by}
use Rattle.blz_fold.specs.Adding.{node_added}
use Rattle.blz_fold.specs.Counted.{Counted, Node, beginnings, count_in, distinct, nodes_of, total}
use Rattle.blz_fold.specs.Trees.{NodeFits, line_names, node_at}
use Rattle.blz_fold.specs.declared.tree.Beginning.{Beginning}
use Rattle.blz_fold.proofs.Beginnings.{begun, entries, entry_at, nodes_gathered, no_empty}
use Rattle.blz_fold.proofs.Distinct.{flat_map-append}
use Rattle.blz_fold.proofs.Gathered.{gathered, gathered_push, names_match, node_names, part, row}
use Rattle.blz_fold.proofs.MapSteps.{take_got}
use Rattle.blz_fold.proofs.SumLemmas.{sum_map}

abbrev alike : List ℕ → List ℕ → Bool
alike = pointwise nat_eq

beginnings_length : (ns : List ℕ) → length (beginnings ns) ≡ length ns
beginnings_length [] = refl
beginnings_length (n ∷ ns) = ap suc (length-map (beginnings ns) (λ p. n ∷ p) ∙ beginnings_length ns)

beginning_at : (ns : List ℕ) (k : ℕ) → k < length ns → get_or (beginnings ns) k [] ≡ take (suc k) ns
beginning_at [] k lt = absurd (omega (arith, lt))
beginning_at (n ∷ ns) zero lt = refl
beginning_at (n ∷ ns) (suc k) lt = get_or-map (λ p. n ∷ p) (beginnings ns) k [] [] (omega (arith, lt, beginnings_length ns)) ∙ ap (λ z. n ∷ z) (beginning_at ns k (omega (arith, lt)))

entries_length : (s : Counted ℕ) → length (entries nat_eq s) ≡ length s.names
entries_length s = length-map (beginnings s.names) (entry_at nat_eq s) ∙ beginnings_length s.names

pub entries_further : (s : Counted ℕ) (k : ℕ) → k < length s.names → take (k + 1) (entries nat_eq s) ≡ take k (entries nat_eq s) ++ entry_at nat_eq s (take (k + 1) s.names) ∷ []
entries_further s k lt =
    let next : suc k ≡ k + 1 = omega arith in
    let there = get_or-map (entry_at nat_eq s) (beginnings s.names) k [] (entry_at nat_eq s []) (omega (arith, lt, beginnings_length s.names)) ∙ ap (λ z. entry_at nat_eq s z) (beginning_at s.names k lt ∙ ap (λ n. take n s.names) next) in
    take_more (entries nat_eq s) k (entry_at nat_eq s []) (omega (arith, lt, entries_length s)) ∙ ap (λ z. take k (entries nat_eq s) ++ z ∷ []) there

-- the first names are the whole list exactly where they are as many
whole_there : (ns : List ℕ) (n : ℕ) → n ≤ length ns → alike (take n ns) ns ≡ nat_eq n (length ns)
whole_there ns n le = same_from_decides (alike (take n ns) ns) (nat_eq n (length ns)) (names_match nat_eq Decides-eqb (take n ns) ns)
    (Decides-like (nat_eq n (length ns)) (λ e. take_all n ns (omega (arith, e))) (λ e. let same : length (take n ns) ≡ length ns = ap (λ (z : List ℕ). length z) e in omega (arith, same, length-take n ns, le)) (Decides-eqb n (length ns)))

pub node_is_entry : (lines : List (Counted ℕ)) (b : Beginning) (s : Counted ℕ) (k : ℕ) → k < length s.names → line_names lines b.line ≡ s.names → b.len ≡ k + 1 → b.count ≡ s.count → b.own ≡ (if nat_eq (k + 1) (length s.names) then s.count else 0) → node_at lines b ≡ entry_at nat_eq s (take (k + 1) s.names)
node_is_entry lines b s k lt there len count own =
    let owns = own ∙ ap (λ t. if t then s.count else 0) (sym (whole_there s.names (k + 1) (omega (arith, lt)))) in
    (λ i. record { names = take (len i) (there i); count = count i; own = owns i })

-- ---- no sum is too large

entry_own_at_most : (s : Counted ℕ) (k q : List ℕ) → part nat_eq (λ e. e.own) k (entry_at nat_eq s q) ≤ part nat_eq (λ e. e.count) k (entry_at nat_eq s q)
entry_own_at_most s k q = by (alike k q) (alike q s.names)
  where
    by : (t u : Bool) → (if t then (if u then s.count else 0) else 0) ≤ (if t then s.count else 0)
    by true true = omega arith
    by true false = omega arith
    by false u = omega arith

counts_at_most : (s : Counted ℕ) (k : List ℕ) → sum_by (part nat_eq (λ e. e.count) k) (entries nat_eq s) ≤ s.count
counts_at_most s [] = omega (arith, sum_map (part nat_eq (λ e. e.count) []) (entry_at nat_eq s) (beginnings s.names), no_empty nat_eq s.count s.names)
counts_at_most s (m ∷ ms) = omega (arith, sum_map (part nat_eq (λ e. e.count) (m ∷ ms)) (entry_at nat_eq s) (beginnings s.names), begun nat_eq s.count m ms s.names, at_most (alike (m ∷ ms) (take (length (m ∷ ms)) s.names)))
  where
    at_most : (t : Bool) → (if t then s.count else 0) ≤ s.count
    at_most true = omega arith
    at_most false = omega arith

owns_at_most : (s : Counted ℕ) (k : List ℕ) → sum_by (part nat_eq (λ e. e.own) k) (entries nat_eq s) ≤ s.count
owns_at_most s k = omega (arith, sum_map (part nat_eq (λ e. e.own) k) (entry_at nat_eq s) (beginnings s.names), sum_map (part nat_eq (λ e. e.count) k) (entry_at nat_eq s) (beginnings s.names), sum_by-le-sum_by (λ q. part nat_eq (λ e. e.own) k (entry_at nat_eq s q)) (λ q. part nat_eq (λ e. e.count) k (entry_at nat_eq s q)) (beginnings s.names) (entry_own_at_most s k), counts_at_most s k)

all_at_most : (weight : Node ℕ → ℕ) (k : List ℕ) → ((s : Counted ℕ) → sum_by (part nat_eq weight k) (entries nat_eq s) ≤ s.count) → (done : List (Counted ℕ)) → sum_by (part nat_eq weight k) (flat_map (entries nat_eq) done) ≤ total done
all_at_most weight k each [] = omega arith
all_at_most weight k each (s ∷ ss) = omega (arith, sum_by-append (part nat_eq weight k) (entries nat_eq s) (flat_map (entries nat_eq) ss), sum_by-cons count_in s ss, each s, all_at_most weight k each ss)

pub names_there : (lines : List (Counted ℕ)) (line : ℕ) (s : Counted ℕ) → slice_get lines line ≡ Some s → line_names lines line ≡ s.names
names_there [] line s there = absurd cc
names_there (l ∷ ls) zero s there = ap (λ (o : Option (Counted ℕ)). (unwrap_or o l).names) there
names_there (l ∷ ls) (suc line) s there = names_there ls line s there

module _ (lines : List (Counted ℕ)) (line : ℕ) (s : Counted ℕ) (there : slice_get lines line ≡ Some s) (inside : line < length lines) (small : total lines < 2 ^ 64) where
  abbrev pub before : List (Node ℕ)
  before = flat_map (entries nat_eq) (take line lines)

  sums_small : total (take line lines) + s.count < 2 ^ 64
  sums_small = omega (arith, ap (λ z. total z) (take_got lines line s there), sum_by-append count_in (take line lines) (s ∷ []), sum_by-cons count_in s [], sum_by-take-le count_in lines (line + 1), small)

  row_fits : (n : ℕ) (k : List ℕ) → NodeFits (row nat_eq (before ++ take n (entries nat_eq s)) k)
  row_fits n k = record {
    count = omega (arith, sum_by-append (part nat_eq (λ e. e.count) k) before (take n (entries nat_eq s)), all_at_most (λ e. e.count) k (λ z. counts_at_most z k) (take line lines), sum_by-take-le (part nat_eq (λ e. e.count) k) (entries nat_eq s) n, counts_at_most s k, sums_small);
    own = omega (arith, sum_by-append (part nat_eq (λ e. e.own) k) before (take n (entries nat_eq s)), all_at_most (λ e. e.own) k (λ z. owns_at_most z k) (take line lines), sum_by-take-le (part nat_eq (λ e. e.own) k) (entries nat_eq s) n, owns_at_most s k, sums_small);
  }

  rows_fit : (n : ℕ) (ks : List (List ℕ)) → AllByRecursion NodeFits (map (row nat_eq (before ++ take n (entries nat_eq s))) ks)
  rows_fit n [] = tt
  rows_fit n (k ∷ ks) = (row_fits n k, rows_fit n ks)

  -- one beginning more
  pub added_there : (k : ℕ) → k < length s.names → node_added nat_eq (gathered nat_eq (before ++ take k (entries nat_eq s))) (entry_at nat_eq s (take (k + 1) s.names)) ≡ gathered nat_eq (before ++ take (k + 1) (entries nat_eq s))
  added_there k lt =
      gathered_push nat_eq Decides-eqb (before ++ take k (entries nat_eq s)) (entry_at nat_eq s (take (k + 1) s.names))
      ∙ ap (λ z. gathered nat_eq z) (append_assoc before (take k (entries nat_eq s)) (entry_at nat_eq s (take (k + 1) s.names) ∷ []) ∙ ap (λ z. before ++ z) (sym (entries_further s k lt)))

  pub added_fit : (k : ℕ) → k < length s.names → (nodes : List (Node ℕ)) (node : Node ℕ) → nodes ≡ gathered nat_eq (before ++ take k (entries nat_eq s)) → node ≡ entry_at nat_eq s (take (k + 1) s.names) → AllByRecursion NodeFits (node_added nat_eq nodes node)
  added_fit k lt nodes node are is = rw (are, is, added_there k lt) (rows_fit (k + 1) (distinct alike (map node_names (before ++ take (k + 1) (entries nat_eq s)))))

  -- before the first, and after the last
  pub none_added : nodes_of nat_eq (take line lines) ≡ gathered nat_eq (before ++ take 0 (entries nat_eq s))
  none_added = nodes_gathered nat_eq Decides-eqb (take line lines) ∙ ap (λ z. gathered nat_eq z) (sym (append-nil before))

  pub all_added : (k : ℕ) → length s.names ≤ k → gathered nat_eq (before ++ take k (entries nat_eq s)) ≡ nodes_of nat_eq (take (line + 1) lines)
  all_added k le =
      ap (λ z. gathered nat_eq (before ++ z)) (take_all k (entries nat_eq s) (omega (arith, le, entries_length s)) ∙ sym (append-nil (entries nat_eq s)))
      ∙ ap (λ z. gathered nat_eq z) (sym (flat_map-append (entries nat_eq) (take line lines) (s ∷ [])) ∙ ap (λ z. flat_map (entries nat_eq) z) (sym (take_got lines line s there)))
      ∙ sym (nodes_gathered nat_eq Decides-eqb (take (line + 1) lines))
