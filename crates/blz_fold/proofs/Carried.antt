-- Names that stand for others, one for one: lines and nodes of the one are those of the other.
use Rattle.std.proofs.Common.{◌≡◌, ℕ, zero, suc, Bool, true, false, ◌||◌, ◌&&◌, List, [], ◌∷◌, ◌++◌, map, length, take, refl, sym, ap, ◌∙◌, if◌then◌else◌, arith}
use Rattle.std.specs.Cmp.Lexicographic.{pointwise}
use Rattle.std.specs.List.{fold, flat_map, list_any, starts_with, AllByRecursion}
use Rattle.std.proofs.lemmas.List.{map_push, map-append, length-map, take-map}
use Rattle.std.proofs.lemmas.List.Sums.{sum_by-cons}
use Rattle.blz_fold.specs.Counted.{Counted, Node, names_in, count_where, total_where, beginnings, with_new, distinct, line_of, lines_of, node_of, nodes_of}
use Rattle.blz_fold.proofs.Distinct.{all_push, all_append, all_distinct}

module _ {K L : Type 0} (one : K → K → Bool) (other : L → L → Bool) (h : K → L) (Fits : K → Type 0) (agree : (x y : K) → Fits x → Fits y → other (h x) (h y) ≡ one x y) where
  any_carried : (x : K) → Fits x → (seen : List K) → AllByRecursion Fits seen → list_any (other (h x)) (map h seen) ≡ list_any (one x) seen
  any_carried x fits [] all = refl
  any_carried x fits (y ∷ ys) all = λ i. agree x y fits all.0 i || any_carried x fits ys all.1 i

  with_new_carried : (seen : List K) (x : K) → AllByRecursion Fits seen → Fits x → with_new other (map h seen) (h x) ≡ map h (with_new one seen x)
  with_new_carried seen x all fits = ap (λ b. if b then map h seen else map h seen ++ h x ∷ []) (any_carried x fits seen all) ∙ by (list_any (one x) seen)
    where
      by : (b : Bool) → (if b then map h seen else map h seen ++ h x ∷ []) ≡ map h (if b then seen else seen ++ x ∷ [])
      by true = refl
      by false = sym (map_push h seen x)

  grown_carried : (xs seen : List K) → AllByRecursion Fits seen → AllByRecursion Fits xs → fold (with_new other) (map h seen) (map h xs) ≡ map h (fold (with_new one) seen xs)
  grown_carried [] seen all more = refl
  grown_carried (x ∷ xs) seen all more = ap (λ z. fold (with_new other) z (map h xs)) (with_new_carried seen x all more.0) ∙ grown_carried xs (with_new one seen x) (kept (list_any (one x) seen)) more.1
    where
      kept : (b : Bool) → AllByRecursion Fits (if b then seen else seen ++ x ∷ [])
      kept true = all
      kept false = all_push Fits seen x all more.0

  pub distinct_carried : (xs : List K) → AllByRecursion Fits xs → distinct other (map h xs) ≡ map h (distinct one xs)
  distinct_carried xs all = grown_carried xs [] tt all

module _ {A B : Type 0} (one : A → A → Bool) (other : B → B → Bool) (f : A → B) (Fits : A → Type 0) (agree : (x y : A) → Fits x → Fits y → other (f x) (f y) ≡ one x y) where
  abbrev FitAll : List A → Type 0
  FitAll = AllByRecursion Fits

  abbrev pub carried : Counted A → Counted B
  carried s = record { names = map f s.names; count = s.count }

  abbrev pub node_carried : Node A → Node B
  node_carried n = record { names = map f n.names; count = n.count; own = n.own }

  abbrev pub StackFits : Counted A → Type 0
  StackFits s = FitAll s.names

  alike_carried : (xs ys : List A) → FitAll xs → FitAll ys → pointwise other (map f xs) (map f ys) ≡ pointwise one xs ys
  alike_carried [] [] fx fy = refl
  alike_carried [] (y ∷ ys) fx fy = refl
  alike_carried (x ∷ xs) [] fx fy = refl
  alike_carried (x ∷ xs) (y ∷ ys) fx fy = λ i. agree x y fx.0 fy.0 i && alike_carried xs ys fx.1 fy.1 i

  take_fits : (n : ℕ) (xs : List A) → FitAll xs → FitAll (take n xs)
  take_fits zero xs fx = tt
  take_fits (suc n) [] fx = tt
  take_fits (suc n) (x ∷ xs) fx = (fx.0, take_fits n xs fx.1)

  begins_carried : (longer names : List A) → FitAll longer → FitAll names → starts_with other (map f longer) (map f names) ≡ starts_with one longer names
  begins_carried longer names fl fn =
      ap (λ n. pointwise other (map f names) (take n (map f longer))) (length-map names f)
      ∙ ap (λ z. pointwise other (map f names) z) (take-map f (length names) longer)
      ∙ alike_carried names (take (length names) longer) fn (take_fits (length names) longer fl)

  totals_carried : (test : List A → Bool) (tested : List B → Bool) (ss : List (Counted A)) → AllByRecursion (λ s. tested (map f s.names) ≡ test s.names) ss → total_where tested (map carried ss) ≡ total_where test ss
  totals_carried test tested [] all = refl
  totals_carried test tested (s ∷ ss) all =
      let first : count_where tested (carried s) ≡ count_where test s = ap (λ b. if b then s.count else 0) all.0 in
      omega (arith, sum_by-cons (count_where tested) (carried s) (map carried ss), sum_by-cons (count_where test) s ss, first, totals_carried test tested ss all.1)

  all_of : (Q : Counted A → Type 0) → ((s : Counted A) → StackFits s → Q s) → (ss : List (Counted A)) → AllByRecursion StackFits ss → AllByRecursion Q ss
  all_of Q each [] all = tt
  all_of Q each (s ∷ ss) all = (each s all.0, all_of Q each ss all.1)

  names_fit : (ss : List (Counted A)) → AllByRecursion StackFits ss → AllByRecursion FitAll (map names_in ss)
  names_fit [] all = tt
  names_fit (s ∷ ss) all = (all.0, names_fit ss all.1)

  carried_names : (ss : List (Counted A)) → map names_in (map carried ss) ≡ map (map f) (map names_in ss)
  carried_names [] = refl
  carried_names (s ∷ ss) = ap (λ z. map f s.names ∷ z) (carried_names ss)

  map_fitting : {C D : Type 0} (g : List B → C) (k : List A → D) (h : D → C) → ((xs : List A) → FitAll xs → g (map f xs) ≡ h (k xs)) → (ks : List (List A)) → AllByRecursion FitAll ks → map g (map (map f) ks) ≡ map h (map k ks)
  map_fitting g k h each [] all = refl
  map_fitting g k h each (x ∷ xs) all = λ i. each x all.0 i ∷ map_fitting g k h each xs all.1 i

  -- the lines
  pub lines_carried : (ss : List (Counted A)) → AllByRecursion StackFits ss → lines_of other (map carried ss) ≡ map carried (lines_of one ss)
  lines_carried ss all =
      let names = map names_in ss in
      let fit = names_fit ss all in
      let each : (k : List A) → FitAll k → line_of other (map carried ss) (map f k) ≡ carried (line_of one ss k) = λ k fk. (λ i. record { names = map f k; count = totals_carried (pointwise one k) (pointwise other (map f k)) ss (all_of (λ s. pointwise other (map f k) (map f s.names) ≡ pointwise one k s.names) (λ s fs. alike_carried k s.names fk fs) ss all) i }) in
      ap (λ z. map (line_of other (map carried ss)) (distinct (pointwise other) z)) (carried_names ss)
      ∙ ap (λ z. map (line_of other (map carried ss)) z) (distinct_carried (pointwise one) (pointwise other) (map f) FitAll alike_carried names fit)
      ∙ map_fitting (line_of other (map carried ss)) (line_of one ss) carried each (distinct (pointwise one) names) (all_distinct (pointwise one) FitAll names [] tt fit)

  cons_carried : (x : A) (ps : List (List A)) → map (λ p. f x ∷ p) (map (map f) ps) ≡ map (map f) (map (λ p. x ∷ p) ps)
  cons_carried x [] = refl
  cons_carried x (p ∷ ps) = ap (λ z. (f x ∷ map f p) ∷ z) (cons_carried x ps)

  beginnings_carried : (xs : List A) → beginnings (map f xs) ≡ map (map f) (beginnings xs)
  beginnings_carried [] = refl
  beginnings_carried (x ∷ xs) = ap (λ z. (f x ∷ []) ∷ z) (ap (λ z. map (λ p. f x ∷ p) z) (beginnings_carried xs) ∙ cons_carried x (beginnings xs))

  all_beginnings_carried : (xs : List (List A)) → flat_map beginnings (map (map f) xs) ≡ map (map f) (flat_map beginnings xs)
  all_beginnings_carried [] = refl
  all_beginnings_carried (x ∷ xs) = (λ i. beginnings_carried x i ++ all_beginnings_carried xs i) ∙ sym (map-append (map f) (beginnings x) (flat_map beginnings xs))

  cons_fits : (x : A) (ps : List (List A)) → Fits x → AllByRecursion FitAll ps → AllByRecursion FitAll (map (λ p. x ∷ p) ps)
  cons_fits x [] fx all = tt
  cons_fits x (p ∷ ps) fx all = ((fx, all.0), cons_fits x ps fx all.1)

  beginnings_fit : (xs : List A) → FitAll xs → AllByRecursion FitAll (beginnings xs)
  beginnings_fit [] fx = tt
  beginnings_fit (x ∷ xs) fx = ((fx.0, tt), cons_fits x (beginnings xs) fx.0 (beginnings_fit xs fx.1))

  all_beginnings_fit : (xs : List (List A)) → AllByRecursion FitAll xs → AllByRecursion FitAll (flat_map beginnings xs)
  all_beginnings_fit [] all = tt
  all_beginnings_fit (x ∷ xs) all = all_append FitAll (beginnings x) (flat_map beginnings xs) (beginnings_fit x all.0) (all_beginnings_fit xs all.1)

  -- the nodes
  pub nodes_carried : (ss : List (Counted A)) → AllByRecursion StackFits ss → nodes_of other (map carried ss) ≡ map node_carried (nodes_of one ss)
  nodes_carried ss all =
      let keys = flat_map beginnings (map names_in ss) in
      let fit = all_beginnings_fit (map names_in ss) (names_fit ss all) in
      let counts : (k : List A) → FitAll k → total_where (λ l. starts_with other l (map f k)) (map carried ss) ≡ total_where (λ l. starts_with one l k) ss = λ k fk. totals_carried (λ l. starts_with one l k) (λ l. starts_with other l (map f k)) ss (all_of (λ s. starts_with other (map f s.names) (map f k) ≡ starts_with one s.names k) (λ s fs. begins_carried s.names k fs fk) ss all) in
      let owns : (k : List A) → FitAll k → total_where (pointwise other (map f k)) (map carried ss) ≡ total_where (pointwise one k) ss = λ k fk. totals_carried (pointwise one k) (pointwise other (map f k)) ss (all_of (λ s. pointwise other (map f k) (map f s.names) ≡ pointwise one k s.names) (λ s fs. alike_carried k s.names fk fs) ss all) in
      let each : (k : List A) → FitAll k → node_of other (map carried ss) (map f k) ≡ node_carried (node_of one ss k) = λ k fk. (λ i. record { names = map f k; count = counts k fk i; own = owns k fk i }) in
      ap (λ z. map (node_of other (map carried ss)) (distinct (pointwise other) z)) (ap (λ z. flat_map beginnings z) (carried_names ss) ∙ all_beginnings_carried (map names_in ss))
      ∙ ap (λ z. map (node_of other (map carried ss)) z) (distinct_carried (pointwise one) (pointwise other) (map f) FitAll alike_carried keys fit)
      ∙ map_fitting (node_of other (map carried ss)) (node_of one ss) node_carried each (distinct (pointwise one) keys) (all_distinct (pointwise one) FitAll keys [] tt fit)
