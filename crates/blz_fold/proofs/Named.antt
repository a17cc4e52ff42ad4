-- Numbered stacks, and the stacks of names for which they stand.
use Rattle.std.proofs.Common.{◌≡◌, ◌<◌, ◌+◌, ◌^◌, ℕ, nat_eq, true, List, [], ◌∷◌, ◌++◌, length, map, refl, sym, ap, subst, ◌∙◌, arith}
use Rattle.std.specs.Cmp.Lexicographic.{pointwise}
use Rattle.std.specs.List.{AllByRecursion, AllZip, IsDistinct, flat_map, list_any}
use Rattle.std.specs.Str.{bytes_eq}
use Rattle.std.proofs.lemmas.Bool.Decides.{Decides-eqb, Decides-like, same_from_decides}
use Rattle.std.proofs.lemmas.Slice.Eq.{bytes_eq-Decides}
use Rattle.blz_error.specs.Texts.{Bytes}
use Rattle.blz_model.specs.Answers as model
use Rattle.blz_model.specs.Part.{Part, Good, ◌>>=◌}
use Rattle.blz_model.proofs.PartLemmas.{bind_good}
use Rattle.blz_elf.specs.AnswerView.{answer_view}
use Rattle.blz_elf.specs.declared.answer.Answer.{Answer}
use Rattle.blz_elf.specs.declared.opts.FindSymOpts.TheVariants.{CodeInfoAndInlined}
use Rattle.blz_resolver.specs.Images.{ImageSet}
use Rattle.blz_resolver.specs.Scan.{scan_of}
use Rattle.blz_fold.specs.AddressStacks.{addresses_in, count_total}
use Rattle.blz_fold.specs.Counted.{AddUp, Counted, count_in, distinct, line_of, lines_of, names_in, nodes_of, total}
use Rattle.blz_fold.specs.Naming.{FoldedNames, answer_at, fold_of, folded_names, named, named_lines, named_stacks, names_from, names_of}
use Rattle.blz_fold.specs.Numbered.{AreSpelled, IsPlaced, Spells, list_at, name_at, numbered, spelled, spelled_node}
use Rattle.blz_fold.specs.declared.stack_list.Stack.{Stack}
use Rattle.blz_fold.proofs.Carried.{lines_carried, nodes_carried}
use Rattle.blz_fold.proofs.Children.{nodes_add_up}
use Rattle.blz_fold.proofs.Distinct.{all_among, all_distinct, all_weaker, any_distinct}
use Rattle.blz_fold.proofs.LineLemmas.{nodes_of_lines, total_stays}
use Rattle.blz_fold.proofs.Scanning.{address_spelled, answers_good, good_stacks, stacks_named}
use Rattle.blz_fold.proofs.Spelling.{spells_append, spells_names, spells_placed}
use Rattle.blz_fold.proofs.SumLemmas.{sum_map}
use Rattle.blz_fold.proofs.TreeSteps.{distinct_index}

pub zip_mapped : {A B C D : Type 0} (R : B → D → Type 0) (f : A → B) (g : C → D) (xs : List A) (ys : List C) → AllZip (λ x y. R (f x) (g y)) xs ys → AllZip R (map f xs) (map g ys)
zip_mapped R f g [] [] all = tt
zip_mapped R f g [] (y ∷ ys) all = absurd all
zip_mapped R f g (x ∷ xs) [] all = absurd all
zip_mapped R f g (x ∷ xs) (y ∷ ys) all = (all.0, zip_mapped R f g xs ys all.1)

spells_all : (table : List Bytes) (numbers : ℕ → List ℕ) (names : ℕ → List Bytes) (addrs : List ℕ) → AllByRecursion (λ a. Spells table (numbers a) (names a)) addrs → Spells table (flat_map numbers addrs) (flat_map names addrs)
spells_all table numbers names [] all = tt
spells_all table numbers names (a ∷ more) all = spells_append table (numbers a) (flat_map numbers more) (names a) (flat_map names more) all.0 (spells_all table numbers names more all.1)

-- ---- a table of distinct names

module _ (table : List Bytes) (apart : IsDistinct bytes_eq table) where
  abbrev IsPlace : ℕ → Type 0
  IsPlace n = n < length table

  -- places are the same exactly where their names are
  places_agree : (x y : ℕ) → IsPlace x → IsPlace y → bytes_eq (name_at table x) (name_at table y) ≡ nat_eq x y
  places_agree x y px py = same_from_decides (bytes_eq (name_at table x) (name_at table y)) (nat_eq x y)
      (Decides-like (bytes_eq (name_at table x) (name_at table y)) (λ e. distinct_index table apart x y px py e) (λ e. ap (λ n. name_at table n) e) (bytes_eq-Decides (name_at table x) (name_at table y)))
      (Decides-eqb x y)

  pub lines_spelled : (stacks : List (Counted ℕ)) → AllByRecursion (IsPlaced table) stacks → lines_of bytes_eq (map (spelled table) stacks) ≡ map (spelled table) (lines_of nat_eq stacks)
  lines_spelled stacks placed = lines_carried nat_eq bytes_eq (name_at table) IsPlace places_agree stacks placed

  pub nodes_spelled : (stacks : List (Counted ℕ)) → AllByRecursion (IsPlaced table) stacks → nodes_of bytes_eq (map (spelled table) stacks) ≡ map (spelled_node table) (nodes_of nat_eq stacks)
  nodes_spelled stacks placed = nodes_carried nat_eq bytes_eq (name_at table) IsPlace places_agree stacks placed

names_placed : (table : List Bytes) (stacks : List (Counted ℕ)) → AllByRecursion (IsPlaced table) stacks → AllByRecursion (λ names. AllByRecursion (λ n. n < length table) names) (map names_in stacks)
names_placed table [] all = tt
names_placed table (s ∷ ss) all = (all.0, names_placed table ss all.1)

lines_placed : (table : List Bytes) (stacks : List (Counted ℕ)) → AllByRecursion (IsPlaced table) stacks → AllByRecursion (IsPlaced table) (lines_of nat_eq stacks)
lines_placed table stacks all = by (distinct (pointwise nat_eq) (map names_in stacks)) (all_distinct (pointwise nat_eq) (λ names. AllByRecursion (λ n. n < length table) names) (map names_in stacks) [] tt (names_placed table stacks all))
  where
    by : (ks : List (List ℕ)) → AllByRecursion (λ names. AllByRecursion (λ n. n < length table) names) ks → AllByRecursion (IsPlaced table) (map (line_of nat_eq stacks) ks)
    by [] h = tt
    by (k ∷ ks) h = (h.0, by ks h.1)

-- ---- the stacks

split_addresses : (Q : ℕ → Type 0) (stacks : List Stack) → AllByRecursion Q (addresses_in stacks) → AllByRecursion (λ (s : Stack). AllByRecursion Q s.addresses) stacks
split_addresses Q [] all = tt
split_addresses Q (s ∷ ss) all = (front s.addresses all, split_addresses Q ss (back s.addresses all))
  where
    front : (xs : List ℕ) → AllByRecursion Q (xs ++ addresses_in ss) → AllByRecursion Q xs
    front [] h = tt
    front (x ∷ xs) h = (h.0, front xs h.1)

    back : (xs : List ℕ) → AllByRecursion Q (xs ++ addresses_in ss) → AllByRecursion Q (addresses_in ss)
    back [] h = h
    back (x ∷ xs) h = back xs h.1

module _ (images : ImageSet) (stacks : List Stack) (table : List Bytes) (answers : List Answer) (lists : List (List ℕ)) (good : scan_of images (distinct nat_eq (addresses_in stacks)) CodeInfoAndInlined ≡ Good (map answer_view answers)) (zipped : AllZip (λ answer numbers. Spells table numbers (names_of answer)) (map answer_view answers) lists) where
  abbrev addresses : List ℕ
  addresses = distinct nat_eq (addresses_in stacks)

  abbrev pub numbered_stacks : List (Counted ℕ)
  numbered_stacks = map (numbered addresses lists) stacks

  abbrev StackSpelled : Stack → Type 0
  StackSpelled s = Spells table (numbered addresses lists s).names (named images s).names

  each_spelled : AllByRecursion StackSpelled stacks
  each_spelled =
      let there = all_weaker (λ a. list_any (nat_eq a) (addresses_in stacks) ≡ true) (λ a. Spells table (list_at addresses lists a) (names_from (answer_at images a)))
      (λ a h. address_spelled table (answer_at images) addresses (map answer_view answers) lists (answers_good images addresses (map answer_view answers) good) zipped a (any_distinct nat_eq Decides-eqb a (addresses_in stacks) ∙ h))
      (addresses_in stacks) (all_among nat_eq Decides-eqb (addresses_in stacks)) in
      all_weaker (λ (s : Stack). AllByRecursion (λ a. Spells table (list_at addresses lists a) (names_from (answer_at images a))) s.addresses) StackSpelled (λ s h. spells_all table (list_at addresses lists) (λ a. names_from (answer_at images a)) s.addresses h) stacks (split_addresses (λ a. Spells table (list_at addresses lists a) (names_from (answer_at images a))) stacks there)

  stacks_spelled : (ss : List Stack) → AllByRecursion StackSpelled ss → map (spelled table) (map (numbered addresses lists) ss) ≡ map (named images) ss
  stacks_spelled [] all = refl
  stacks_spelled (s ∷ ss) all =
      let names = spells_names table (numbered addresses lists s).names (named images s).names all.0 in
      let rest = stacks_spelled ss all.1 in
      (λ i. record { names = names i; count = s.count } ∷ rest i)

  stacks_placed : (ss : List Stack) → AllByRecursion StackSpelled ss → AllByRecursion (IsPlaced table) (map (numbered addresses lists) ss)
  stacks_placed [] all = tt
  stacks_placed (s ∷ ss) all = (spells_placed table (numbered addresses lists s).names (named images s).names all.0, stacks_placed ss all.1)

  module _ (apart : IsDistinct bytes_eq table) where
    -- the lines of names
    pub lines_good : (lines : List (Counted ℕ)) → lines ≡ lines_of nat_eq numbered_stacks → named_lines images stacks ≡ Good (map (spelled table) lines)
    lines_good lines are =
        ap (λ (p : Part (List (Counted Bytes))). p >>= λ names. Good (lines_of bytes_eq names)) (good_stacks images stacks (map answer_view answers) good)
        ∙ ap (λ z. Good (lines_of bytes_eq z)) (sym (stacks_spelled stacks each_spelled))
        ∙ ap Good (lines_spelled table apart numbered_stacks (stacks_placed stacks each_spelled))
        ∙ ap (λ z. Good (map (spelled table) z)) (sym are)

    -- the table and the lines fit
    pub lines_fit : (lines : List (Counted ℕ)) → lines ≡ lines_of nat_eq numbered_stacks → count_total stacks < 2 ^ 64 → AreSpelled table lines
    lines_fit lines are small =
        let same : total lines ≡ count_total stacks = ap (λ z. total z) are ∙ total_stays nat_eq Decides-eqb numbered_stacks ∙ sum_map count_in (numbered addresses lists) stacks in
        record {
          apart = apart;
          placed = subst (λ z. AllByRecursion (IsPlaced table) z) (sym are) (lines_placed table numbered_stacks (stacks_placed stacks each_spelled));
          small = omega (arith, same, small);
        }

-- ---- what is folded from the lines

module _ (images : ImageSet) (stacks : List Stack) (lines : List (Counted Bytes)) (good : named_lines images stacks ≡ Good lines) where
  abbrev From : Type 0
  From = (names : List (Counted Bytes)) × (named_stacks images stacks ≡ Good names) × ((Good (lines_of bytes_eq names)) ≡ Good lines)

  from : From
  from = bind_good (named_stacks images stacks) (λ names. Good (lines_of bytes_eq names)) lines good

  value_is : (x y : List (Counted Bytes)) → ◌≡◌ {A = Part (List (Counted Bytes))} (Good x) (Good y) → x ≡ y
  value_is x y h = cc

  pub folded_good : (folded : FoldedNames) → folded.lines ≡ lines → folded.nodes ≡ nodes_of bytes_eq lines → fold_of images stacks ≡ Good folded
  folded_good folded its_lines its_nodes =
      let h = from in
      let are = value_is (lines_of bytes_eq h.0) lines h.2 in
      let nodes = sym (nodes_of_lines bytes_eq bytes_eq-Decides h.0) ∙ ap (λ z. nodes_of bytes_eq z) are ∙ sym its_nodes in
      let same : folded_names h.0 ≡ folded = λ i. record { lines = (are ∙ sym its_lines) i; nodes = nodes i } in
      ap (λ (p : Part (List (Counted Bytes))). p >>= λ names. Good (folded_names names)) h.1 ∙ ap Good same

  pub folded_total : (folded : FoldedNames) → folded.lines ≡ lines → total folded.lines ≡ count_total stacks
  folded_total folded its_lines =
      let h = from in
      ap (λ z. total z) (its_lines ∙ sym (value_is (lines_of bytes_eq h.0) lines h.2)) ∙ total_stays bytes_eq bytes_eq-Decides h.0 ∙ ap (λ z. total z) (stacks_named images stacks h.0 h.1) ∙ sum_map count_in (named images) stacks

pub folded_adds_up : (lines : List (Counted Bytes)) (folded : FoldedNames) → folded.nodes ≡ nodes_of bytes_eq lines → AddUp bytes_eq folded.nodes
folded_adds_up lines folded its_nodes = subst (λ z. AddUp bytes_eq z) (sym its_nodes) (nodes_add_up bytes_eq bytes_eq-Decides lines)
