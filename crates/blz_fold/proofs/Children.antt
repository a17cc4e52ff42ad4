-- The count of a node is its own count and those of the nodes one name longer.
use Rattle.std.proofs.Common.{◌≡◌, ◌≢◌, ◌<◌, ℕ, zero, suc, ◌+◌, min, nat_eq, Bool, true, false, not, ◌&&◌, ◌||◌, List, [], ◌∷◌, ◌++◌, map, length, take, refl, sym, ap, ◌∙◌, if◌then◌else◌, arith}
use Rattle.std.specs.Bool.{Decides}
use Rattle.std.specs.Cmp.Lexicographic.{pointwise}
use Rattle.std.specs.List.{flat_map, list_any, starts_with, sum_by, AllByRecursion, IsDistinct}
use Rattle.std.proofs.lemmas.Bool.Decides.{Decides-eqb, Decides-and, Decides-not, Decides-like, same_from_decides}
use Rattle.std.proofs.lemmas.List.{take_all, take-take, length-take}
use Rattle.std.proofs.lemmas.List.Sums.{sum_by-cons}
use Rattle.blz_fold.specs.Counted.{Counted, Node, names_in, count_where, total_where, beginnings, distinct, node_of, nodes_of, is_child, children_total, AddUp}
use Rattle.blz_fold.proofs.Distinct.{any_distinct, distinct_apart, all_among, all_weaker}
use Rattle.blz_fold.proofs.Gathered.{names_match}
use Rattle.blz_fold.proofs.Beginnings.{begins_with_itself}
use Rattle.blz_fold.proofs.SumLemmas.{sum_same, sum_none, sum_map}

sum_plus : {X : Type 0} (f g : X → ℕ) (xs : List X) → sum_by (λ x. f x + g x) xs ≡ sum_by f xs + sum_by g xs
sum_plus f g [] = refl
sum_plus f g (x ∷ xs) = omega (arith, sum_by-cons (λ x. f x + g x) x xs, sum_by-cons f x xs, sum_by-cons g x xs, sum_plus f g xs)

sum_zeros : {X : Type 0} (f : X → ℕ) (xs : List X) → AllByRecursion (λ x. f x ≡ 0) xs → sum_by f xs ≡ 0
sum_zeros f [] all = refl
sum_zeros f (x ∷ xs) all = omega (arith, sum_by-cons f x xs, all.0, sum_zeros f xs all.1)

if_plus : (b : Bool) (m n : ℕ) → ◌≡◌ {A = ℕ} (if b then m + n else 0) ((if b then m else 0) + (if b then n else 0))
if_plus true m n = refl
if_plus false m n = refl

if_zero : (b : Bool) → ◌≡◌ {A = ℕ} (if b then 0 else 0) 0
if_zero true = refl
if_zero false = refl

if_both : (a b : Bool) (c : ℕ) → ◌≡◌ {A = ℕ} (if a then (if b then c else 0) else 0) (if (a && b) then c else 0)
if_both true b c = refl
if_both false b c = refl

-- a sum of sums, the other way round
exchanged : {X Y : Type 0} (test : X → Bool) (g : X → Y → ℕ) (h : Y → ℕ) (xs : List X) (ys : List Y) → AllByRecursion (λ y. sum_by (λ x. if test x then g x y else 0) xs ≡ h y) ys → sum_by (λ x. if test x then sum_by (g x) ys else 0) xs ≡ sum_by h ys
exchanged test g h xs [] all = sum_none (λ x. if test x then 0 else 0) (λ x. if_zero (test x)) xs
exchanged test g h xs (y ∷ ys) all =
    let split = sum_same (λ x. if test x then sum_by (g x) (y ∷ ys) else 0) (λ x. (if test x then g x y else 0) + (if test x then sum_by (g x) ys else 0)) (λ x. ap (λ n. if test x then n else 0) (sum_by-cons (g x) y ys) ∙ if_plus (test x) (g x y) (sum_by (g x) ys)) xs in
    omega (arith, split, sum_plus (λ x. if test x then g x y else 0) (λ x. if test x then sum_by (g x) ys else 0) xs, all.0, exchanged test g h xs ys all.1, sum_by-cons h y ys)

module _ {N : Type 0} (same : N → N → Bool) (decides : (x y : N) → Decides (same x y) (x ≡ y)) where
  abbrev alike : List N → List N → Bool
  alike = pointwise same

  alike_is : (x y : List N) → Decides (alike x y) (x ≡ y)
  alike_is = names_match same decides

  -- names that stand once in a list count once
  once : (c : ℕ) (names : List N) (ks : List (List N)) → IsDistinct alike ks → list_any (alike names) ks ≡ true → sum_by (λ k. if alike names k then c else 0) ks ≡ c
  unfolding IsDistinct
  once c names [] apart there = absurd cc
  once c names (k ∷ ks) apart there = sum_by-cons (λ z. if alike names z then c else 0) k ks ∙ by (alike names k) refl there (once c names ks apart.1)
    where
      others : alike names k ≡ true → (zs : List (List N)) → AllByRecursion (λ z. alike k z ≡ false) zs → AllByRecursion (λ z. ◌≡◌ {A = ℕ} (if alike names z then c else 0) 0) zs
      others is [] all = tt
      others is (z ∷ zs) all = (ap (λ b. if b then c else 0) (ap (λ w. alike w z) ((alike_is names k).0 is) ∙ all.0), others is zs all.1)

      by : (b : Bool) → alike names k ≡ b → (b || list_any (alike names) ks) ≡ true → (list_any (alike names) ks ≡ true → sum_by (λ z. if alike names z then c else 0) ks ≡ c) → (if b then c else 0) + sum_by (λ z. if alike names z then c else 0) ks ≡ c
      by true is e rest = omega (arith, sum_zeros (λ z. if alike names z then c else 0) ks (others is ks apart.0))
      by false is e rest = omega (arith, rest e)

  abbrev longer_by : List N → List N → Bool
  longer_by names p = starts_with same names p && not (alike p names)

  abbrev next_of : List N → List N → List N
  next_of names p = take (length p + 1) names

  abbrev IsChildOf : List N → List N → List N → Type 0
  IsChildOf p names q = ((length q ≡ length p + 1) × (p ≡ take (length p) q)) × (q ≡ take (length q) names)

  abbrev IsNext : List N → List N → List N → Type 0
  IsNext p names q = ((p ≡ take (length p) names) × ¬ (p ≡ names)) × (next_of names p ≡ q)

  next_from : (p names q : List N) → IsChildOf p names q → IsNext p names q
  next_from p names q h =
      let front : p ≡ take (length p) names = h.0.1 ∙ ap (λ z. take (length p) z) h.1 ∙ take-take (length p) (length q) names (omega (arith, h.0.0)) in
      let long : length q ≡ min (length q) (length names) = ap (λ (z : List N). length z) h.1 ∙ length-take (length q) names in
      ((front, λ e. let lengths : length p ≡ length names = ap (λ (z : List N). length z) e in omega (arith, long, h.0.0, lengths)), ap (λ n. take n names) (sym h.0.0) ∙ sym h.1)

  child_from : (p names q : List N) → IsNext p names q → IsChildOf p names q
  child_from p names q h =
      let short : length p ≡ min (length p) (length names) = ap (λ (z : List N). length z) h.0.0 ∙ length-take (length p) names in
      let apart : length p ≢ length names = λ e. h.0.1 (h.0.0 ∙ take_all (length p) names (omega (arith, e))) in
      let long : length q ≡ length p + 1 = ap (λ (z : List N). length z) (sym h.1) ∙ length-take (length p + 1) names ∙ omega (arith, short, apart) in
      ((long, h.0.0 ∙ sym (take-take (length p) (length p + 1) names (omega arith)) ∙ ap (λ z. take (length p) z) h.1), sym h.1 ∙ ap (λ n. take n names) (sym long))

  -- the beginnings one name longer than p that a list has: the next one alone, where there is one
  child_is_next : (p names q : List N) → (is_child same p q && starts_with same names q) ≡ (longer_by names p && alike (next_of names p) q)
  child_is_next p names q = same_from_decides (is_child same p q && starts_with same names q) (longer_by names p && alike (next_of names p) q)
      (Decides-and (is_child same p q) (starts_with same names q) (Decides-and (nat_eq (length q) (length p + 1)) (starts_with same q p) (Decides-eqb (length q) (length p + 1)) (alike_is p (take (length p) q))) (alike_is q (take (length q) names)))
      (Decides-like (longer_by names p && alike (next_of names p) q) (child_from p names q) (next_from p names q)
      (Decides-and (longer_by names p) (alike (next_of names p) q) (Decides-and (starts_with same names p) (not (alike p names)) (alike_is p (take (length p) names)) (Decides-not (alike p names) (alike_is p names))) (alike_is (next_of names p) q)))

  -- what a stack adds to p and not to p alone
  abbrev beyond : List N → Counted N → ℕ
  beyond p s = if longer_by s.names p then s.count else 0

  own_and_beyond : (p : List N) (s : Counted N) → count_where (λ l. starts_with same l p) s ≡ count_where (alike p) s + beyond p s
  own_and_beyond p s = by (alike p s.names) refl (starts_with same s.names p) refl
    where
      by : (b : Bool) → alike p s.names ≡ b → (a : Bool) → starts_with same s.names p ≡ a → ◌≡◌ {A = ℕ} (if a then s.count else 0) ((if b then s.count else 0) + (if (a && not b) then s.count else 0))
      by true is true e = omega arith
      by true is false e = absurd (false_true (sym e ∙ ap (λ z. starts_with same s.names z) ((alike_is p s.names).0 is) ∙ begins_with_itself same decides s.names))
        where
          false_true : false ≡ true → ⊥
          false_true h = cc
      by false is true e = omega arith
      by false is false e = omega arith

  begun_there : (Q : List N → Type 0) (n : ℕ) (names : List N) → AllByRecursion Q (beginnings names) → n < length names → Q (take (suc n) names)
  begun_there Q n [] all short = absurd (omega (arith, short))
  begun_there Q zero (x ∷ xs) all short = all.0
  begun_there Q (suc n) (x ∷ xs) all short = begun_there (λ p. Q (x ∷ p)) n xs (under (beginnings xs) all.1) (omega (arith, short))
    where
      under : (ps : List (List N)) → AllByRecursion Q (map (λ p. x ∷ p) ps) → AllByRecursion (λ p. Q (x ∷ p)) ps
      under [] h = tt
      under (p ∷ ps) h = (h.0, under ps h.1)

  module _ (p : List N) (ks : List (List N)) (apart : IsDistinct alike ks) where
    -- a stack whose beginnings all are among the keys adds what is beyond p to its next beginning
    of_stack : (s : Counted N) → AllByRecursion (λ q. list_any (alike q) ks ≡ true) (beginnings s.names) → sum_by (λ q. if is_child same p q then count_where (λ l. starts_with same l q) s else 0) ks ≡ beyond p s
    of_stack s there =
        sum_same (λ q. if is_child same p q then count_where (λ l. starts_with same l q) s else 0) (λ q. if (longer_by s.names p && alike (next_of s.names p) q) then s.count else 0) (λ q. if_both (is_child same p q) (starts_with same s.names q) s.count ∙ ap (λ b. if b then s.count else 0) (child_is_next p s.names q)) ks
        ∙ by (longer_by s.names p) refl
      where
        by : (b : Bool) → longer_by s.names p ≡ b → sum_by (λ q. if (b && alike (next_of s.names p) q) then s.count else 0) ks ≡ (if b then s.count else 0)
        by false e = sum_none (λ q. if (false && alike (next_of s.names p) q) then s.count else 0) (λ q. refl) ks
        by true e =
            let parts = (Decides-and (starts_with same s.names p) (not (alike p s.names)) (alike_is p (take (length p) s.names)) (Decides-not (alike p s.names) (alike_is p s.names))).0 e in
            let child = child_from p s.names (next_of s.names p) (parts, refl) in
            let long : length (next_of s.names p) ≡ min (length p + 1) (length s.names) = length-take (length p + 1) s.names in
            let next = begun_there (λ q. list_any (alike q) ks ≡ true) (length p) s.names there (omega (arith, long, child.0.0)) in
            let more : length p + 1 ≡ suc (length p) = omega arith in
            once s.count (next_of s.names p) ks apart (ap (λ n. list_any (alike (take n s.names)) ks) more ∙ next)

    children_are : (stacks : List (Counted N)) → AllByRecursion (λ s. AllByRecursion (λ q. list_any (alike q) ks ≡ true) (beginnings s.names)) stacks → total_where (λ l. starts_with same l p) stacks ≡ total_where (alike p) stacks + sum_by (λ q. if is_child same p q then total_where (λ l. starts_with same l q) stacks else 0) ks
    children_are stacks there =
        let each = all_weaker (λ s. AllByRecursion (λ q. list_any (alike q) ks ≡ true) (beginnings s.names)) (λ s. sum_by (λ q. if is_child same p q then count_where (λ l. starts_with same l q) s else 0) ks ≡ beyond p s) of_stack stacks there in
        omega (arith, sum_same (count_where (λ l. starts_with same l p)) (λ s. count_where (alike p) s + beyond p s) (own_and_beyond p) stacks, sum_plus (count_where (alike p)) (beyond p) stacks, exchanged (is_child same p) (λ q. count_where (λ l. starts_with same l q)) (beyond p) ks stacks each)

  all_split : (Q : List N → Type 0) (stacks : List (Counted N)) → AllByRecursion Q (flat_map beginnings (map names_in stacks)) → AllByRecursion (λ s. AllByRecursion Q (beginnings s.names)) stacks
  all_split Q [] all = tt
  all_split Q (s ∷ ss) all = (front (beginnings s.names) all, all_split Q ss (back (beginnings s.names) all))
    where
      front : (xs : List (List N)) → AllByRecursion Q (xs ++ flat_map beginnings (map names_in ss)) → AllByRecursion Q xs
      front [] h = tt
      front (x ∷ xs) h = (h.0, front xs h.1)

      back : (xs : List (List N)) → AllByRecursion Q (xs ++ flat_map beginnings (map names_in ss)) → AllByRecursion Q (flat_map beginnings (map names_in ss))
      back [] h = h
      back (x ∷ xs) h = back xs h.1

  add_up : (stacks : List (Counted N)) (ks all : List (List N)) → ((p : List N) → total_where (λ l. starts_with same l p) stacks ≡ total_where (alike p) stacks + children_total same p (map (node_of same stacks) all)) → AllByRecursion (λ n. n.count ≡ n.own + children_total same n.names (map (node_of same stacks) all)) (map (node_of same stacks) ks)
  add_up stacks [] all each = tt
  add_up stacks (k ∷ ks) all each = (each k, add_up stacks ks all each)

  -- the counts add up
  pub nodes_add_up : (stacks : List (Counted N)) → AddUp same (nodes_of same stacks)
  nodes_add_up stacks =
      let all = flat_map beginnings (map names_in stacks) in
      let ks = distinct alike all in
      let among = all_weaker (λ q. list_any (alike q) all ≡ true) (λ q. list_any (alike q) ks ≡ true) (λ q h. any_distinct alike alike_is q all ∙ h) all (all_among alike alike_is all) in
      let there = all_split (λ q. list_any (alike q) ks ≡ true) stacks among in
      add_up stacks ks ks (λ p. children_are p ks (distinct_apart alike alike_is all) stacks there ∙ ap (λ n. total_where (alike p) stacks + n) (sym (sum_map (λ (n : Node N). if is_child same p n.names then n.count else 0) (node_of same stacks) ks)))
