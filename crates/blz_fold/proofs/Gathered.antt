-- Entries with names and two counts, gathered by their names.
use Rattle.std.proofs.Common.{◌≡◌, ℕ, ◌+◌, Bool, true, false, ◌||◌, List, [], ◌∷◌, ◌++◌, map, refl, sym, ap, ◌∙◌, if◌then◌else◌, arith}
use Rattle.std.specs.Bool.{Decides}
use Rattle.std.specs.Cmp.Lexicographic.{pointwise}
use Rattle.std.specs.List.{fold, list_any, sum_by, AllByRecursion, IsDistinct}
use Rattle.std.proofs.lemmas.List.{map_push, append_assoc, append-nil}
use Rattle.std.proofs.lemmas.List.Sums.{fold_push, sum_by_push, sum_by-cons}
use Rattle.std.proofs.lemmas.Slice.Eq.{slice_eq-Decides}
use Rattle.blz_fold.specs.Counted.{Node, with_new, distinct}
use Rattle.blz_fold.specs.Adding.{node_added}
use Rattle.blz_fold.proofs.Distinct.{neither, same_itself, same_swapped, any_distinct, distinct_apart}

pub names_match : {N : Type 0} (same : N → N → Bool) → ((x y : N) → Decides (same x y) (x ≡ y)) → (x y : List N) → Decides (pointwise same x y) (x ≡ y)
names_match same decides x y = slice_eq-Decides decides x y (pointwise same x y) refl

abbrev pub node_names : {N : Type 0} → Node N → List N
node_names n = n.names

module _ {N : Type 0} (same : N → N → Bool) where
  abbrev alike : List N → List N → Bool
  alike = pointwise same

  -- the number of an entry where it has these names, else 0
  abbrev pub part : (Node N → ℕ) → List N → Node N → ℕ
  part weight names e = if alike names e.names then weight e else 0

  abbrev count_of : Node N → ℕ
  count_of e = e.count

  abbrev own_of : Node N → ℕ
  own_of e = e.own

  -- the sums of the entries with these names
  abbrev pub row : List (Node N) → List N → Node N
  row es names = record { names = names; count = sum_by (part count_of names) es; own = sum_by (part own_of names) es }

  abbrev pub gathered : List (Node N) → List (Node N)
  gathered es = map (row es) (distinct alike (map node_names es))

  module _ (decides : (x y : N) → Decides (same x y) (x ≡ y)) where
    none_there : (weight : Node N → ℕ) (names : List N) (es : List (Node N)) → list_any (alike names) (map node_names es) ≡ false → sum_by (part weight names) es ≡ 0
    none_there weight names [] none = refl
    none_there weight names (e ∷ es) none =
        let parts = neither (alike names e.names) (list_any (alike names) (map node_names es)) none in
        let first : part weight names e ≡ 0 = ap (λ b. if b then weight e else 0) parts.0 in
        omega (arith, sum_by-cons (part weight names) e es, first, none_there weight names es parts.1)

    module _ (es : List (Node N)) (e : Node N) where
      -- the row of other names stays
      row_stays : (names : List N) → alike names e.names ≡ false → row (es ++ e ∷ []) names ≡ row es names
      row_stays names other =
          let zero_count : part count_of names e ≡ 0 = ap (λ b. if b then e.count else 0) other in
          let zero_own : part own_of names e ≡ 0 = ap (λ b. if b then e.own else 0) other in
          let counts : sum_by (part count_of names) (es ++ e ∷ []) ≡ sum_by (part count_of names) es = omega (arith, sum_by_push (part count_of names) es e, zero_count) in
          let owns : sum_by (part own_of names) (es ++ e ∷ []) ≡ sum_by (part own_of names) es = omega (arith, sum_by_push (part own_of names) es e, zero_own) in
          (λ i. record { names = names; count = counts i; own = owns i })

      -- the row of its names grows by its counts
      row_grows : (names : List N) → alike names e.names ≡ true → row (es ++ e ∷ []) names ≡ record { names = names; count = sum_by (part count_of names) es + e.count; own = sum_by (part own_of names) es + e.own }
      row_grows names is =
          let one_count : part count_of names e ≡ e.count = ap (λ b. if b then e.count else 0) is in
          let one_own : part own_of names e ≡ e.own = ap (λ b. if b then e.own else 0) is in
          let counts : sum_by (part count_of names) (es ++ e ∷ []) ≡ sum_by (part count_of names) es + e.count = omega (arith, sum_by_push (part count_of names) es e, one_count) in
          let owns : sum_by (part own_of names) (es ++ e ∷ []) ≡ sum_by (part own_of names) es + e.own = omega (arith, sum_by_push (part own_of names) es e, one_own) in
          (λ i. record { names = names; count = counts i; own = owns i })

      rows_stay : (ks : List (List N)) → AllByRecursion (λ k. alike k e.names ≡ false) ks → map (row (es ++ e ∷ [])) ks ≡ map (row es) ks
      rows_stay [] other = refl
      rows_stay (k ∷ ks) other = λ i. row_stays k other.0 i ∷ rows_stay ks other.1 i

      new_first : (k : List N) (ks : List (List N)) → alike e.names k ≡ false → with_new alike (k ∷ ks) e.names ≡ k ∷ with_new alike ks e.names
      new_first k ks other = ap (λ b. if (b || list_any (alike e.names) ks) then k ∷ ks else (k ∷ ks) ++ e.names ∷ []) other ∙ by (list_any (alike e.names) ks)
        where
          by : (b : Bool) → (if b then k ∷ ks else k ∷ (ks ++ e.names ∷ [])) ≡ k ∷ (if b then ks else ks ++ e.names ∷ [])
          by true = refl
          by false = refl

      added_rows : (ks : List (List N)) → IsDistinct alike ks → (list_any (alike e.names) ks ≡ false → (sum_by (part count_of e.names) es ≡ 0) × (sum_by (part own_of e.names) es ≡ 0)) → node_added same (map (row es) ks) e ≡ map (row (es ++ e ∷ [])) (with_new alike ks e.names)
      unfolding IsDistinct
      added_rows [] apart none =
          let zero = none refl in
          let grown = row_grows e.names (same_itself alike (names_match same decides) e.names) in
          let counts : e.count ≡ sum_by (part count_of e.names) es + e.count = omega (arith, zero.0) in
          let owns : e.own ≡ sum_by (part own_of e.names) es + e.own = omega (arith, zero.1) in
          (λ i. record { names = e.names; count = counts i; own = owns i } ∷ []) ∙ ap (λ n. n ∷ []) (sym grown)
      added_rows (k ∷ ks) apart none = by (alike e.names k) refl (added_rows ks apart.1)
        where
          by : (b : Bool) → alike e.names k ≡ b → ((list_any (alike e.names) ks ≡ false → (sum_by (part count_of e.names) es ≡ 0) × (sum_by (part own_of e.names) es ≡ 0)) → node_added same (map (row es) ks) e ≡ map (row (es ++ e ∷ [])) (with_new alike ks e.names)) →
              (if b then record { names = k; count = sum_by (part count_of k) es + e.count; own = sum_by (part own_of k) es + e.own } ∷ map (row es) ks else row es k ∷ node_added same (map (row es) ks) e)
              ≡ map (row (es ++ e ∷ [])) (with_new alike (k ∷ ks) e.names)
          by true is rest =
              let here : alike k e.names ≡ true = same_swapped alike (names_match same decides) k e.names ∙ is in
              let others : AllByRecursion (λ z. alike z e.names ≡ false) ks = apart_from ks apart.0 in
              let first = sym (row_grows k here) in
              let stay = sym (rows_stay ks others) in
              (λ i. first i ∷ stay i) ∙ ap (λ b. map (row (es ++ e ∷ [])) (if (b || list_any (alike e.names) ks) then k ∷ ks else (k ∷ ks) ++ e.names ∷ [])) (sym is)
            where
              apart_from : (zs : List (List N)) → AllByRecursion (λ z. alike k z ≡ false) zs → AllByRecursion (λ z. alike z e.names ≡ false) zs
              apart_from [] all = tt
              apart_from (z ∷ zs) all = (same_swapped alike (names_match same decides) z e.names ∙ ap (λ w. alike w z) ((names_match same decides e.names k).0 is) ∙ all.0, apart_from zs all.1)
          by false other rest =
              let elsewhere : alike k e.names ≡ false = same_swapped alike (names_match same decides) k e.names ∙ other in
              let more = rest (λ none_behind. none (ap (λ b. b || list_any (alike e.names) ks) other ∙ none_behind)) in
              let first = sym (row_stays k elsewhere) in
              (λ i. first i ∷ more i) ∙ ap (λ z. map (row (es ++ e ∷ [])) z) (sym (new_first k ks other))

      -- one entry more
      pub gathered_push : node_added same (gathered es) e ≡ gathered (es ++ e ∷ [])
      gathered_push =
          let absent : list_any (alike e.names) (distinct alike (map node_names es)) ≡ false → (sum_by (part count_of e.names) es ≡ 0) × (sum_by (part own_of e.names) es ≡ 0)
          = λ none. (none_there count_of e.names es (sym (any_distinct alike (names_match same decides) e.names (map node_names es)) ∙ none), none_there own_of e.names es (sym (any_distinct alike (names_match same decides) e.names (map node_names es)) ∙ none)) in
          added_rows (distinct alike (map node_names es)) (distinct_apart alike (names_match same decides) (map node_names es)) absent
          ∙ ap (λ z. map (row (es ++ e ∷ [])) z) (sym (ap (λ z. distinct alike z) (map_push node_names es e) ∙ fold_push (with_new alike) [] (map node_names es) e.names))

    -- all entries, one after another
    pub gathered_fold : (es more : List (Node N)) → fold (node_added same) (gathered es) more ≡ gathered (es ++ more)
    gathered_fold es [] = ap (λ z. gathered z) (sym (append-nil es))
    gathered_fold es (e ∷ more) = ap (λ z. fold (node_added same) z more) (gathered_push es e) ∙ gathered_fold (es ++ e ∷ []) more ∙ ap (λ z. gathered z) (append_assoc es (e ∷ []) more)
