-- One step down the tree of beginnings.
use Rattle.std.proofs.Common.{◌≡◌, ◌≢◌, ◌<◌, ◌≤◌, ◌+◌, ◌^◌, ℕ, zero, suc, nat_eq, Bool, true, false, not, ◌||◌, ◌&&◌, List, [], ◌∷◌, ◌++◌, length, get_or, Option, Some, None, refl, sym, ap, subst, ◌∙◌, cond, if◌then◌else◌, arith, Bor}
use Rattle.std.specs.Bool.{Decides, ⊤}
use Rattle.std.specs.Option.{MatchOption, IfSome, option_copied}
use Rattle.std.specs.Cmp.Lexicographic.{pointwise}
use Rattle.std.specs.List.{AllByRecursion, AllZip, IsDistinct, list_any, position_or_len}
use Rattle.std.specs.Map.{lookup}
use Rattle.std.proofs.lemmas.Bool.Decides.{Decides-eqb, Decides-and, Decides-like, same_from_decides}
use Rattle.std.proofs.lemmas.List.{get_or_append_left, get_or_at, length-map, length_push, same_from_push, map_push}
use Rattle.indexmap.specs.IndexMap.{insert_entry}
use Rattle.blz_fold.specs.Adding.{node_added}
use Rattle.blz_fold.specs.Counted.{Counted, Node}
use Rattle.blz_fold.specs.Trees.{AreLinked, FitsWith, IsLinked, IsTree, IsWithin, NodeFits, all_names, counted, keys_in, names_at, node_at, nodes_in}
use Rattle.blz_fold.specs.declared.tree.Beginning.{Beginning}
use Rattle.blz_fold.proofs.Distinct.{distinct_push}
use Rattle.blz_fold.proofs.Gathered.{names_match}

abbrev alike : List ℕ → List ℕ → Bool
alike = pointwise nat_eq

alike_is : (x y : List ℕ) → Decides (alike x y) (x ≡ y)
alike_is = names_match nat_eq Decides-eqb

abbrev pub same_key : ℕ × ℕ → ℕ × ℕ → Bool
same_key x y = nat_eq x.0 y.0 && nat_eq x.1 y.1

-- a name that is unlike each of some stands nowhere among them
elsewhere : (n : List ℕ) (ms : List (List ℕ)) (k : ℕ) → AllByRecursion (λ m. alike n m ≡ false) ms → k < length ms → n ≡ get_or ms k [] → ⊥
elsewhere n [] k all lt e = absurd (omega (arith, lt))
elsewhere n (m ∷ ms) zero all lt e = true_false (sym ((alike_is n m).1 e) ∙ all.0)
  where
    true_false : true ≡ false → ⊥
    true_false h = cc
elsewhere n (m ∷ ms) (suc k) all lt e = elsewhere n ms k all.1 (omega (arith, lt)) e

-- names that differ stand at one index each
pub distinct_index : (names : List (List ℕ)) → IsDistinct alike names → (i j : ℕ) → i < length names → j < length names → get_or names i [] ≡ get_or names j [] → i ≡ j
unfolding IsDistinct
distinct_index [] apart i j li lj same = absurd (omega (arith, li))
distinct_index (n ∷ ns) apart zero zero li lj same = refl
distinct_index (n ∷ ns) apart zero (suc j) li lj same = absurd (elsewhere n ns j apart.0 (omega (arith, lj)) same)
distinct_index (n ∷ ns) apart (suc i) zero li lj same = absurd (elsewhere n ns i apart.0 (omega (arith, li)) (sym same))
distinct_index (n ∷ ns) apart (suc i) (suc j) li lj same = ap suc (distinct_index ns apart.1 i j (omega (arith, li)) (omega (arith, lj)) same)

longer_is_some : (xs : List ℕ) (x : ℕ) → xs ++ x ∷ [] ≡ [] → ⊥
longer_is_some [] x e = cc
longer_is_some (y ∷ ys) x e = cc

module _ (keys : List (ℕ × ℕ)) (names : List (List ℕ)) (links : AreLinked keys names) (lengths : length names ≡ length keys) where
  -- two places with the same names are one
  one_place : (a b : ℕ) → a ≤ length keys → b ≤ length keys → names_at names a ≡ names_at names b → a ≡ b
  one_place zero zero la lb same = refl
  one_place zero (suc j) la lb same = let l = links.linked j (omega (arith, lb)) in absurd (longer_is_some (names_at names (get_or keys j (0, 0)).0) (get_or keys j (0, 0)).1 (sym l.longer ∙ sym same))
  one_place (suc i) zero la lb same = let l = links.linked i (omega (arith, la)) in absurd (longer_is_some (names_at names (get_or keys i (0, 0)).0) (get_or keys i (0, 0)).1 (sym l.longer ∙ same))
  one_place (suc i) (suc j) la lb same = ap suc (distinct_index names links.apart i j (omega (arith, la, lengths)) (omega (arith, lb, lengths)) same)

  module _ (parent number : ℕ) (inside : parent ≤ length keys) where
    abbrev new_names : List ℕ
    new_names = names_at names parent ++ number ∷ []

    -- a key is the one asked for exactly where its names are those asked for
    keys_agree : (i : ℕ) → i < length keys → same_key (parent, number) (get_or keys i (0, 0)) ≡ alike new_names (get_or names i [])
    keys_agree i lt =
        let key = get_or keys i (0, 0) in
        let l = links.linked i lt in
        let to : new_names ≡ get_or names i [] → (parent ≡ key.0) × (number ≡ key.1) = λ e.
        let parts = same_from_push (names_at names parent) (names_at names key.0) number key.1 (e ∙ l.longer) in
        (one_place parent key.0 inside (omega (arith, l.parent, lt)) parts.0, parts.1) in
        let back : (parent ≡ key.0) × (number ≡ key.1) → new_names ≡ get_or names i [] = λ h. (λ j. names_at names (h.0 j) ++ h.1 j ∷ []) ∙ sym l.longer in
        same_from_decides (same_key (parent, number) key) (alike new_names (get_or names i []))
        (Decides-and (nat_eq parent key.0) (nat_eq number key.1) (Decides-eqb parent key.0) (Decides-eqb number key.1))
        (Decides-like (alike new_names (get_or names i [])) to back (alike_is new_names (get_or names i [])))

    all_agree : AllZip (λ key name. same_key (parent, number) key ≡ alike new_names name) keys names
    all_agree = by keys names lengths keys_agree
      where
        by : (ks : List (ℕ × ℕ)) (ns : List (List ℕ)) → length ns ≡ length ks → ((i : ℕ) → i < length ks → same_key (parent, number) (get_or ks i (0, 0)) ≡ alike new_names (get_or ns i [])) → AllZip (λ key name. same_key (parent, number) key ≡ alike new_names name) ks ns
        by [] [] e each = tt
        by [] (n ∷ ns) e each = absurd (omega (arith, e))
        by (k ∷ ks) [] e each = absurd (omega (arith, e))
        by (k ∷ ks) (n ∷ ns) e each = (each 0 (omega arith), by ks ns (omega (arith, e)) (λ i lt. each (suc i) (omega (arith, lt))))

  -- a further node at the end
  linked_push : (parent number : ℕ) → parent ≤ length keys → list_any (alike (names_at names parent ++ number ∷ [])) names ≡ false → AreLinked (keys ++ (parent, number) ∷ []) (names ++ (names_at names parent ++ number ∷ []) ∷ [])
  linked_push parent number inside none = record {
    linked = linked_there;
    apart = distinct_push alike alike_is names (names_at names parent ++ number ∷ []) links.apart none;
  }
    where
      stays : (a : ℕ) → a ≤ length keys → names_at (names ++ (names_at names parent ++ number ∷ []) ∷ []) a ≡ names_at names a
      stays zero la = refl
      stays (suc i) la = get_or_append_left names ((names_at names parent ++ number ∷ []) ∷ []) [] i (omega (arith, la, lengths))

      linked_there : (i : ℕ) → i < length (keys ++ (parent, number) ∷ []) → IsLinked (names ++ (names_at names parent ++ number ∷ []) ∷ []) i (get_or (keys ++ (parent, number) ∷ []) i (0, 0))
      linked_there i lt = by (nat_eq i (length keys)) refl
        where
          by : (b : Bool) → nat_eq i (length keys) ≡ b → IsLinked (names ++ (names_at names parent ++ number ∷ []) ∷ []) i (get_or (keys ++ (parent, number) ∷ []) i (0, 0))
          by true e =
              let is : i ≡ length keys = (Decides-eqb i (length keys)).0 e in
              let key : get_or (keys ++ (parent, number) ∷ []) i (0, 0) ≡ (parent, number) = get_or_at keys (parent, number) [] (0, 0) i (sym is) in
              subst (λ k. IsLinked (names ++ (names_at names parent ++ number ∷ []) ∷ []) i k) (sym key)
              (record { parent = omega (arith, inside, is); longer = get_or_at names (names_at names parent ++ number ∷ []) [] [] i (lengths ∙ sym is) ∙ ap (λ z. z ++ number ∷ []) (sym (stays parent inside)) })
          by false e =
              let apart : i ≢ length keys = λ is. true_false (sym ((Decides-eqb i (length keys)).1 is) ∙ e) in
              let before : i < length keys = omega (arith, lt, length_push keys (parent, number), apart) in
              let key : get_or (keys ++ (parent, number) ∷ []) i (0, 0) ≡ get_or keys i (0, 0) = get_or_append_left keys ((parent, number) ∷ []) (0, 0) i before in
              let l = links.linked i before in
              subst (λ k. IsLinked (names ++ (names_at names parent ++ number ∷ []) ∷ []) i k) (sym key)
              (record { parent = l.parent; longer = stays (suc i) (omega (arith, before)) ∙ l.longer ∙ ap (λ z. z ++ (get_or keys i (0, 0)).1 ∷ []) (sym (stays (get_or keys i (0, 0)).0 (omega (arith, l.parent, before)))) })
            where
              true_false : true ≡ false → ⊥
              true_false h = cc

-- ---- the entries of the map

abbrev pub Entry : Type 0
Entry = (ℕ × ℕ) × Beginning

module _ (lines : List (Counted ℕ)) (key : ℕ × ℕ) (b : Beginning) where
  abbrev node : Node ℕ
  node = node_at lines b

  abbrev Agree : List Entry → Type 0
  Agree es = AllByRecursion (λ e. same_key key e.0 ≡ alike node.names (node_at lines e.1).names) es

  pub nodes_inserted : (es : List Entry) → Agree es → nodes_in lines (insert_entry same_key es key (counted (lookup (same_key key) es) b)) ≡ node_added nat_eq (nodes_in lines es) node
  nodes_inserted [] agree = refl
  nodes_inserted (e ∷ es) agree = by (same_key key e.0) (nodes_inserted es agree.1) ∙ ap (λ t. if t then (record { names = (node_at lines e.1).names; count = e.1.count + b.count; own = e.1.own + b.own }) ∷ nodes_in lines es else node_at lines e.1 ∷ node_added nat_eq (nodes_in lines es) node) agree.0
    where
      by : (t : Bool) → nodes_in lines (insert_entry same_key es key (counted (lookup (same_key key) es) b)) ≡ node_added nat_eq (nodes_in lines es) node →
          nodes_in lines (cond t ((e.0, counted (cond t (Some e.1) (lookup (same_key key) es)) b) ∷ es) (e ∷ insert_entry same_key es key (counted (cond t (Some e.1) (lookup (same_key key) es)) b)))
          ≡ (if t then (record { names = (node_at lines e.1).names; count = e.1.count + b.count; own = e.1.own + b.own }) ∷ nodes_in lines es else node_at lines e.1 ∷ node_added nat_eq (nodes_in lines es) node)
      by true h = refl
      by false h = ap (λ z. node_at lines e.1 ∷ z) h

  -- what is counted fits where all nodes fit
  pub counted_fits : (es : List Entry) → Agree es → (before : Beginning) → lookup (same_key key) es ≡ Some before → AllByRecursion NodeFits (node_added nat_eq (nodes_in lines es) node) → NodeFits (record { names = node.names; count = before.count + b.count; own = before.own + b.own })
  counted_fits [] agree before held all = absurd cc
  counted_fits (e ∷ es) agree before held all = by (same_key key e.0) refl held (counted_fits es agree.1 before)
    where
      opened : (t : Bool) → alike node.names (node_at lines e.1).names ≡ t → AllByRecursion NodeFits (if t then (record { names = (node_at lines e.1).names; count = e.1.count + b.count; own = e.1.own + b.own }) ∷ nodes_in lines es else node_at lines e.1 ∷ node_added nat_eq (nodes_in lines es) node)
      opened t is = subst (λ u. AllByRecursion NodeFits (if u then (record { names = (node_at lines e.1).names; count = e.1.count + b.count; own = e.1.own + b.own }) ∷ nodes_in lines es else node_at lines e.1 ∷ node_added nat_eq (nodes_in lines es) node)) is all

      by : (t : Bool) → same_key key e.0 ≡ t → cond t (Some e.1) (lookup (same_key key) es) ≡ Some before → (lookup (same_key key) es ≡ Some before → AllByRecursion NodeFits (node_added nat_eq (nodes_in lines es) node) → NodeFits (record { names = node.names; count = before.count + b.count; own = before.own + b.own })) → NodeFits (record { names = node.names; count = before.count + b.count; own = before.own + b.own })
      by true is h rest =
          let fits = (opened true (sym agree.0 ∙ is)).0 in
          let same : e.1 ≡ before = value_is e.1 before h in
          record { count = subst (λ (z : Beginning). z.count + b.count < 2 ^ 64) same fits.count; own = subst (λ (z : Beginning). z.own + b.own < 2 ^ 64) same fits.own }
        where
          value_is : (x y : Beginning) → ◌≡◌ {A = Option Beginning} (Some x) (Some y) → x ≡ y
          value_is x y e = cc
      by false is h rest = rest h (opened false (sym agree.0 ∙ is)).1

  -- where the key is absent, so are the names
  absent_names : (es : List Entry) → Agree es → lookup (same_key key) es ≡ None → list_any (alike node.names) (all_names (nodes_in lines es)) ≡ false
  absent_names [] agree none = refl
  absent_names (e ∷ es) agree none = by (same_key key e.0) refl none (absent_names es agree.1)
    where
      by : (t : Bool) → same_key key e.0 ≡ t → cond t (Some e.1) (lookup (same_key key) es) ≡ None → (lookup (same_key key) es ≡ None → list_any (alike node.names) (all_names (nodes_in lines es)) ≡ false) → (alike node.names (node_at lines e.1).names || list_any (alike node.names) (all_names (nodes_in lines es))) ≡ false
      by true is h rest = absurd cc
      by false is h rest = ap (λ t. t || list_any (alike node.names) (all_names (nodes_in lines es))) (sym agree.0 ∙ is) ∙ rest h

  inserted_absent : (es : List Entry) (v : Beginning) → lookup (same_key key) es ≡ None → insert_entry same_key es key v ≡ es ++ (key, v) ∷ []
  inserted_absent [] v none = refl
  inserted_absent (e ∷ es) v none = by (same_key key e.0) none (inserted_absent es v)
    where
      by : (t : Bool) → cond t (Some e.1) (lookup (same_key key) es) ≡ None → (lookup (same_key key) es ≡ None → insert_entry same_key es key v ≡ es ++ (key, v) ∷ []) → cond t ((e.0, v) ∷ es) (e ∷ insert_entry same_key es key v) ≡ e ∷ (es ++ (key, v) ∷ [])
      by true h rest = absurd cc
      by false h rest = ap (λ z. e ∷ z) (rest h)

  abbrev SameKeys : List Entry → List Entry → Type 0
  SameKeys new old = (keys_in new ≡ keys_in old) × (all_names (nodes_in lines new) ≡ all_names (nodes_in lines old))

  -- where it is there, keys and names stay
  inserted_present : (es : List Entry) (before : Beginning) → lookup (same_key key) es ≡ Some before → SameKeys (insert_entry same_key es key (counted (Some before) b)) es
  inserted_present [] before held = absurd cc
  inserted_present (e ∷ es) before held = by (same_key key e.0) held (inserted_present es before)
    where
      value_is : (x y : Beginning) → ◌≡◌ {A = Option Beginning} (Some x) (Some y) → x ≡ y
      value_is x y h = cc

      by : (t : Bool) → cond t (Some e.1) (lookup (same_key key) es) ≡ Some before → (lookup (same_key key) es ≡ Some before → SameKeys (insert_entry same_key es key (counted (Some before) b)) es) → SameKeys (cond t ((e.0, counted (Some before) b) ∷ es) (e ∷ insert_entry same_key es key (counted (Some before) b))) (e ∷ es)
      by true h rest = (refl, ap (λ (z : Beginning). (node_at lines z).names ∷ all_names (nodes_in lines es)) (sym (value_is e.1 before h)))
      by false h rest = (ap (λ z. e.0 ∷ z) (rest h).0, ap (λ z. (node_at lines e.1).names ∷ z) (rest h).1)

  within_inserted : (es : List Entry) (v : Beginning) → AllByRecursion (λ e. IsWithin lines e.1) es → IsWithin lines v → AllByRecursion (λ e. IsWithin lines e.1) (insert_entry same_key es key v)
  within_inserted [] v all one = (one, tt)
  within_inserted (e ∷ es) v all one = by (same_key key e.0) (within_inserted es v all.1 one)
    where
      by : (t : Bool) → AllByRecursion (λ e. IsWithin lines e.1) (insert_entry same_key es key v) → AllByRecursion (λ e. IsWithin lines e.1) (cond t ((e.0, v) ∷ es) (e ∷ insert_entry same_key es key v))
      by true rest = (one, all.1)
      by false rest = (all.0, rest)

  held_within : (es : List Entry) (before : Beginning) → AllByRecursion (λ e. IsWithin lines e.1) es → lookup (same_key key) es ≡ Some before → IsWithin lines before
  held_within [] before all held = absurd cc
  held_within (e ∷ es) before all held = by (same_key key e.0) held (held_within es before all.1)
    where
      value_is : (x y : Beginning) → ◌≡◌ {A = Option Beginning} (Some x) (Some y) → x ≡ y
      value_is x y h = cc

      by : (t : Bool) → cond t (Some e.1) (lookup (same_key key) es) ≡ Some before → (lookup (same_key key) es ≡ Some before → IsWithin lines before) → IsWithin lines before
      by true h rest = subst (λ z. IsWithin lines z) (value_is e.1 before h) all.0
      by false h rest = rest h

  -- the names at the place where the key is then
  place_names : (es : List Entry) → Agree es → get_or (all_names (node_added nat_eq (nodes_in lines es) node)) (position_or_len (same_key key) (keys_in es)) [] ≡ node.names
  place_names [] agree = refl
  place_names (e ∷ es) agree = by (same_key key e.0) (alike node.names (node_at lines e.1).names) refl agree.0 (place_names es agree.1)
    where
      by : (t u : Bool) → alike node.names (node_at lines e.1).names ≡ u → t ≡ u → get_or (all_names (node_added nat_eq (nodes_in lines es) node)) (position_or_len (same_key key) (keys_in es)) [] ≡ node.names →
          get_or (all_names (if u then (record { names = (node_at lines e.1).names; count = e.1.count + b.count; own = e.1.own + b.own }) ∷ nodes_in lines es else node_at lines e.1 ∷ node_added nat_eq (nodes_in lines es) node)) (cond (not t) (1 + position_or_len (same_key key) (keys_in es)) 0) [] ≡ node.names
      by true true is same h = sym ((alike_is node.names (node_at lines e.1).names).0 is)
      by true false is same h = absurd cc
      by false true is same h = absurd cc
      by false false is same h =
          let more : 1 + position_or_len (same_key key) (keys_in es) ≡ suc (position_or_len (same_key key) (keys_in es)) = omega arith in
          ap (λ n. get_or (all_names (node_at lines e.1 ∷ node_added nat_eq (nodes_in lines es) node)) n []) more ∙ h

-- ---- a step

module _ (lines : List (Counted ℕ)) (es : List Entry) (tree : IsTree lines es) (parent number : ℕ) (b : Beginning) (inside : parent ≤ length (nodes_in lines es)) (named : (node_at lines b).names ≡ names_at (all_names (nodes_in lines es)) parent ++ number ∷ []) where
  abbrev key_there : ℕ × ℕ
  key_there = (parent, number)

  lengths_agree : length (all_names (nodes_in lines es)) ≡ length (keys_in es)
  lengths_agree = length-map (nodes_in lines es) (λ (n : Node ℕ). n.names) ∙ length-map es (λ (e : Entry). node_at lines e.1) ∙ sym (length-map es (λ (e : Entry). e.0))

  inside_keys : parent ≤ length (keys_in es)
  inside_keys = omega (arith, inside, length-map es (λ (e : Entry). node_at lines e.1), length-map es (λ (e : Entry). e.0))

  pub step_agrees : Agree lines key_there b es
  step_agrees = by es (all_agree (keys_in es) (all_names (nodes_in lines es)) tree.links lengths_agree parent number inside_keys)
    where
      by : (fs : List Entry) → AllZip (λ key name. same_key (parent, number) key ≡ alike (names_at (all_names (nodes_in lines es)) parent ++ number ∷ []) name) (keys_in fs) (all_names (nodes_in lines fs)) → Agree lines key_there b fs
      by [] all = tt
      by (f ∷ fs) all = (all.0 ∙ ap (λ z. alike z (node_at lines f.1).names) (sym named), by fs all.1)

  pub step_counts : (o : Option Beginning) → lookup (same_key key_there) es ≡ o → nodes_in lines (insert_entry same_key es key_there (counted o b)) ≡ node_added nat_eq (nodes_in lines es) (node_at lines b)
  step_counts o held = ap (λ z. nodes_in lines (insert_entry same_key es key_there (counted z b))) (sym held) ∙ nodes_inserted lines key_there b es step_agrees

  pub step_tree : (o : Option Beginning) → lookup (same_key key_there) es ≡ o → IsWithin lines b → IsTree lines (insert_entry same_key es key_there (counted o b))
  step_tree None held within =
      let none = absent_names lines key_there b es step_agrees held in
      let links = linked_push (keys_in es) (all_names (nodes_in lines es)) tree.links lengths_agree parent number inside_keys (ap (λ z. list_any (alike z) (all_names (nodes_in lines es))) (sym named) ∙ none) in
      let is = inserted_absent lines key_there b es b held in
      let keys : keys_in (insert_entry same_key es key_there b) ≡ keys_in es ++ (parent, number) ∷ [] = ap (λ z. keys_in z) is ∙ map_push (λ (e : Entry). e.0) es (key_there, b) in
      let names : all_names (nodes_in lines (insert_entry same_key es key_there b)) ≡ all_names (nodes_in lines es) ++ (names_at (all_names (nodes_in lines es)) parent ++ number ∷ []) ∷ []
      = ap (λ z. all_names (nodes_in lines z)) is ∙ ap (λ z. all_names z) (map_push (λ (e : Entry). node_at lines e.1) es (key_there, b)) ∙ map_push (λ (n : Node ℕ). n.names) (nodes_in lines es) (node_at lines b) ∙ ap (λ z. all_names (nodes_in lines es) ++ z ∷ []) named in
      record {
        links = subst (λ k. AreLinked k (all_names (nodes_in lines (insert_entry same_key es key_there b)))) (sym keys) (subst (λ n. AreLinked (keys_in es ++ (parent, number) ∷ []) n) (sym names) links);
        within = within_inserted lines key_there b es b tree.within within;
      }
  step_tree (Some before) held within =
      let same = inserted_present lines key_there b es before held in
      let new = insert_entry same_key es key_there (counted (Some before) b) in
      let there = held_within lines key_there b es before tree.within held in
      record {
        links = subst (λ k. AreLinked k (all_names (nodes_in lines new))) (sym same.0) (subst (λ n. AreLinked (keys_in es) n) (sym same.1) tree.links);
        within = within_inserted lines key_there b es (counted (Some before) b) tree.within (record { line = there.line; len = there.len });
      }

  -- the place of the key leads to its names
  pub step_place : (nodes : List (Node ℕ)) (place : ℕ) → nodes ≡ node_added nat_eq (nodes_in lines es) (node_at lines b) → place ≡ position_or_len (same_key key_there) (keys_in es) + 1 → names_at (all_names nodes) place ≡ (node_at lines b).names
  step_place nodes place counts at =
      let is : place ≡ suc (position_or_len (same_key key_there) (keys_in es)) = at ∙ omega arith in
      (λ i. names_at (all_names (counts i)) (is i)) ∙ place_names lines key_there b es step_agrees

  pub step_fits : (o : Option Beginning) → lookup (same_key key_there) es ≡ o → AllByRecursion NodeFits (node_added nat_eq (nodes_in lines es) (node_at lines b)) → MatchOption o ⊤ (λ before. FitsWith before b)
  step_fits None held all = tt
  step_fits (Some before) held all = let fits = counted_fits lines key_there b es step_agrees before held all in record { count = fits.count; own = fits.own }

pub lent_fits : (r : Option (Bor Beginning)) (b : Beginning) → MatchOption (option_copied r) ⊤ (λ before. FitsWith before b) → IfSome r (λ before. FitsWith before.now b)
lent_fits (Some before) b h = h
lent_fits None b h = tt
