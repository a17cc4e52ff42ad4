-- A search over an accepted order of names lists the symbols of a name, in table order.
use Rattle.std.proofs.Common.{◌≡◌, ◌≢◌, ◌⊎◌, inl, inr, ℕ, zero, suc, ◌+◌, ◌<◌, ◌≤◌, Bool, true, false, cond, not, List, [], ◌∷◌, ◌++◌, length, get_or, take, map, filter, refl, sym, ap, ◌∙◌, arith, eqb, leb}
use Rattle.std.specs.Str.{bytes_eq}
use Rattle.std.specs.Ordering.{is_gt, is_eq}
use Rattle.std.specs.declared.cmp.Ordering.TheVariants.{Equal}
use Rattle.std.proofs.lemmas.Bool.Decides.{eqb_tells, leb_tells}
use Rattle.std.proofs.lemmas.Bool.{and_parts}
use Rattle.std.proofs.lemmas.Cmp.{upto, tied_itself, nat_list_cmp_total}
use Rattle.std.proofs.lemmas.List.{take_all}
use Rattle.std.proofs.lemmas.List.Elements.{filter_more}
use Rattle.std.proofs.lemmas.List.{append-nil}
use Rattle.std.proofs.lemmas.Map.Text.{is_eq-slice_cmp}
use Rattle.std.proofs.lemmas.Option.{slice_get_within, slice_get-get_or, get_or_from_slice_get}
use Rattle.std.proofs.lemmas.Slice.Eq.{bytes_eq-Decides}
use Rattle.blz_bytes.specs.declared.orders.NameSpan.{NameSpan}
use Rattle.blz_bytes.specs.NameOrder.{name_cmp, name_in, IsNameOrder}
use Rattle.blz_bytes.proofs.NameOrdering.{both_ways}
use Rattle.blz_symbols.specs.declared.names.SymbolName.{SymbolName}
use Rattle.blz_symbols.specs.NameRule.{Named, is_called}
use Rattle.blz_symbols.specs.NameSteps.{with_named}
use Rattle.blz_symbols.specs.NameOrders.{name_view, span_of, named_in, no_name, named_at, listed_name, AreSorted, SplitsNames}
use Rattle.blz_image.proofs.Folds.{filter_up_to}
use Rattle.blz_symbols.proofs.Halving.{SplitBy}

-- ---- from the spans to the names

name_there : (strings : List ℕ) (listed : List SymbolName) (p : ℕ) → p < length listed → name_in strings (map span_of listed) p ≡ (get_or (named_in strings listed) p no_name).name
name_there strings [] p lt = absurd (omega arith)
name_there strings (n ∷ listed) zero lt = refl
name_there strings (n ∷ listed) (suc p) lt = name_there strings listed p (omega arith)

pub count_of : {X Y : Type 0} (f : X → Y) (xs : List X) → length (map f xs) ≡ length xs
count_of f [] = refl
count_of f (x ∷ xs) = ap suc (count_of f xs)

pub names_sorted : (strings : List ℕ) (spans : List NameSpan) (listed : List SymbolName) (places : List ℕ) → spans ≡ map span_of listed → IsNameOrder strings spans places → AreSorted (named_in strings listed) places
names_sorted strings spans listed places e order = by (rw e at order)
  where
    by : IsNameOrder strings (map span_of listed) places → AreSorted (named_in strings listed) places
    by o = record {
      inside = λ k lt. let w = within k lt in omega (arith, w, count_of (name_view strings) listed);
      every = λ i lt. o.each.every i (omega (arith, lt, count_of (name_view strings) listed, count_of span_of listed));
      rising = λ j k lt in-list.
          let a = within j (omega arith) in
          let b = within k in-list in
          rw (← name_there strings listed (get_or places j 0) a, ← name_there strings listed (get_or places k 0) b) (o.rises j k _ _ lt (slice_get-get_or places j 0 (omega arith)) (slice_get-get_or places k 0 in-list));
    }
      where
        within : (k : ℕ) → k < length places → get_or places k 0 < length listed
        within k lt = omega (arith, o.each.within k (get_or places k 0) (slice_get-get_or places k 0 lt), count_of span_of listed)

-- ---- the places below a name

-- a name before one that is below another is below that too
pub below_falls : (names : List Named) (places name : List ℕ) (j k : ℕ) → AreSorted names places → j < k → k < length places → is_gt (name_cmp name (listed_name names (get_or places k 0))) ≡ true → is_gt (name_cmp name (listed_name names (get_or places j 0))) ≡ true
below_falls names places name j k s lt in-list h = by (is_gt (name_cmp name (named_at names places j).name)) refl
  where
    by : (t : Bool) → is_gt (name_cmp name (named_at names places j).name) ≡ t → t ≡ true
    by true e = refl
    by false e =
        let up = upto nat_list_cmp_total name (named_at names places j).name (named_at names places k).name e (s.rising j k lt in-list).not_above in
        absurd cc

pub splits_names : (names : List Named) (places name : List ℕ) (n : ℕ) → n ≤ length places → SplitBy (λ i. is_gt (name_cmp name (listed_name names i))) places n → SplitsNames names places n name
splits_names names places name n within s = record { within = within; low = s.low; high = s.high }

-- ---- one name more

-- a list of the names that pass, one name on
pub with_named_more : (pass : Named → Bool) (names : List Named) (i : ℕ) (n : Named) → i < length names → get_or names i no_name ≡ n → with_named pass (filter pass (take i names)) n ≡ filter pass (take (i + 1) names)
with_named_more pass names i n lt here =
    by (pass n) ∙ ap (λ (m : Named). filter pass (take i names) ++ cond (pass m) (m ∷ []) []) (sym here) ∙ sym (filter_more pass names i no_name lt)
  where
    by : (t : Bool) → cond t (filter pass (take i names) ++ n ∷ []) (filter pass (take i names)) ≡ filter pass (take i names) ++ cond t (n ∷ []) []
    by true = refl
    by false = sym (append-nil (filter pass (take i names)))

-- ---- the names that are equal

pub equal_name : (a b : List ℕ) → false ≡ not (bytes_eq a b) → a ≡ b
equal_name a b e = by (bytes_eq a b) refl e
  where
    by : (t : Bool) → bytes_eq a b ≡ t → false ≡ not t → a ≡ b
    by true f e = (bytes_eq-Decides a b).0 f
    by false f e = absurd cc

pub other_name : (a b : List ℕ) → true ≡ not (bytes_eq a b) → bytes_eq a b ≡ false
other_name a b e = by (bytes_eq a b) e
  where
    by : (t : Bool) → true ≡ not t → t ≡ false
    by true e = absurd cc
    by false e = refl

-- the place stands at k or behind it
record Ahead (places : List ℕ) (k i : ℕ) : Type 0 where
  at : ℕ
  low : k ≤ at
  inside : at < length places
  is : get_or places at 0 ≡ i

-- What was found before the k-th place: the symbols of the name in the table's front, and the others stand ahead.
pub record SoFar (name : List ℕ) (names : List Named) (places : List ℕ) (k : ℕ) (found : List Named) : Type 0 where
  front : ℕ
  within : front ≤ length names
  is : found ≡ filter (is_called name) (take front names)
  next : k < length places → (named_at names places k).name ≡ name → front ≤ get_or places k 0
  ahead : (i : ℕ) → front ≤ i → i < length names → (get_or names i no_name).name ≡ name → Ahead places k i

same_name : (name : List ℕ) (n : Named) → is_called name n ≡ true → n.name ≡ name
same_name name n e = (bytes_eq-Decides n.name name).0 (and_parts _ _ e).1

level : (a b : List ℕ) → a ≡ b → name_cmp a b ≡ Equal
level a b e = rw (e) (tied_itself nat_list_cmp_total b)

-- the symbol of a place has the place's name
at_place : (names : List Named) (places : List ℕ) (k i : ℕ) → get_or places k 0 ≡ i → (named_at names places k).name ≡ (get_or names i no_name).name
at_place names places k i e = ap (λ (n : ℕ). (get_or names n no_name).name) e

pub search_start : (name : List ℕ) (names : List Named) (places : List ℕ) (begin : ℕ) → AreSorted names places → SplitsNames names places begin name → SoFar name names places begin []
search_start name names places begin s split = record {
  front = 0;
  within = omega arith;
  is = refl;
  next = λ lt e. omega arith;
  ahead = λ i low lt e.
      let stands = s.every i lt in
      let is : get_or places stands.at 0 ≡ i = get_or_from_slice_get places stands.at i 0 stands.is in
      record { at = stands.at; low = by stands.at (at_place names places stands.at i is ∙ e) (leb_tells begin stands.at); inside = slice_get_within places stands.at i stands.is; is = is };
}
  where
    by : (at : ℕ) → (named_at names places at).name ≡ name → ((leb begin at ≡ true) × (begin ≤ at)) ⊎ ((leb begin at ≡ false) × (at < begin)) → begin ≤ at
    by at e (inl low) = low.1
    by at e (inr high) =
        let above : is_gt (name_cmp name (named_at names places at).name) ≡ true = split.low at high.1 in
        let even : name_cmp name (named_at names places at).name ≡ Equal = level name (named_at names places at).name (sym e) in
        absurd (let f : is_gt Equal ≡ true = rw even at above in cc)

pub search_on : (name : List ℕ) (names : List Named) (places : List ℕ) (k : ℕ) (found next : List Named) → AreSorted names places → k < length places → (named_at names places k).name ≡ name → next ≡ with_named (is_called name) found (named_at names places k) → SoFar name names places k found → SoFar name names places (k + 1) next
search_on name names places k found next s lt here step h = record {
  front = get_or places k 0 + 1;
  within = let i = s.inside k lt in omega arith;
  is = step ∙ ap (λ (xs : List Named). with_named (is_called name) xs (named_at names places k)) (h.is ∙ sym skipped) ∙ with_named_more (is_called name) names (get_or places k 0) (named_at names places k) (s.inside k lt) refl;
  next = λ lt2 e. let r = (s.rising k (k + 1) (omega arith) lt2).tie (level _ _ (here ∙ sym e)) in omega arith;
  ahead = λ i low inside e.
      let a = h.ahead i (let n = h.next lt here in omega arith) inside e in
      record { at = a.at; low = beyond i low a (eqb_tells k a.at); inside = a.inside; is = a.is };
}
  where
    none : (i : ℕ) → h.front ≤ i → i < get_or places k 0 → (t : Bool) → is_called name (get_or names i no_name) ≡ t → t ≡ false
    none i low high false e = refl
    none i low high true e =
        let same = same_name name (get_or names i no_name) e in
        let a = h.ahead i low (let w = s.inside k lt in omega arith) same in
        absurd (by a (eqb_tells k a.at) same)
      where
        by : (a : Ahead places k i) → ((eqb k a.at ≡ true) × (k ≡ a.at)) ⊎ ((eqb k a.at ≡ false) × (k ≢ a.at)) → (get_or names i no_name).name ≡ name → ⊥
        by a (inl f) same = let is : get_or places k 0 ≡ i = rw (f.1) a.is in omega arith
        by a (inr n) same =
            let d = n.1 in
            let low = a.low in
            let there = at_place names places a.at i a.is in
            let tie = (s.rising k a.at (omega arith) a.inside).tie (level _ _ (here ∙ sym (there ∙ same))) in
            let is = a.is in
            omega arith

    skipped : filter (is_called name) (take (get_or places k 0) names) ≡ filter (is_called name) (take h.front names)
    skipped = filter_up_to (is_called name) names no_name h.front (get_or places k 0) (h.next lt here) (let w = s.inside k lt in omega arith) (λ i low high. none i low high _ refl)

    beyond : (i : ℕ) → get_or places k 0 + 1 ≤ i → (a : Ahead places k i) → ((eqb k a.at ≡ true) × (k ≡ a.at)) ⊎ ((eqb k a.at ≡ false) × (k ≢ a.at)) → k + 1 ≤ a.at
    beyond i low a (inl f) = absurd (let is : get_or places k 0 ≡ i = rw (f.1) a.is in omega arith)
    beyond i low a (inr n) = let d = n.1 in let l = a.low in omega arith

-- nothing of the name stands ahead, so all of it was found
found_all : (name : List ℕ) (names : List Named) (places : List ℕ) (k : ℕ) (found : List Named) → SoFar name names places k found → ((i : ℕ) → (get_or names i no_name).name ≡ name → Ahead places k i → ⊥) → found ≡ filter (is_called name) names
found_all name names places k found h nothing =
    h.is ∙ sym (filter_up_to (is_called name) names no_name h.front (length names) h.within (omega arith) (λ i low high. none i low high _ refl)) ∙ ap (filter (is_called name)) (take_all (length names) names (omega arith))
  where
    none : (i : ℕ) → h.front ≤ i → i < length names → (t : Bool) → is_called name (get_or names i no_name) ≡ t → t ≡ false
    none i low high false e = refl
    none i low high true e = let same = same_name name (get_or names i no_name) e in absurd (nothing i same (h.ahead i low high same))

pub search_end : (name : List ℕ) (names : List Named) (places : List ℕ) (k : ℕ) (found : List Named) → length places ≤ k → SoFar name names places k found → found ≡ filter (is_called name) names
search_end name names places k found past h = found_all name names places k found h (λ i e a. let l = a.low in let n = a.inside in omega arith)

-- the k-th name is another, and none behind it is the name
pub search_stop : (name : List ℕ) (names : List Named) (places : List ℕ) (begin k : ℕ) (found : List Named) → AreSorted names places → SplitsNames names places begin name → begin ≤ k → k < length places → bytes_eq (named_at names places k).name name ≡ false → SoFar name names places k found → found ≡ filter (is_called name) names
search_stop name names places begin k found s split low lt other h = found_all name names places k found h nothing
  where
    nothing : (i : ℕ) → (get_or names i no_name).name ≡ name → Ahead places k i → ⊥
    nothing i e a = by (eqb_tells k a.at)
      where
        there : (named_at names places a.at).name ≡ name
        there = at_place names places a.at i a.is ∙ e

        equal : name_cmp (named_at names places k).name name ≡ Equal → ⊥
        equal f = absurd (let g = sym (is_eq-slice_cmp (named_at names places k).name name) in let t : is_eq (name_cmp (named_at names places k).name name) ≡ true = rw f refl in cc)

        by : ((eqb k a.at ≡ true) × (k ≡ a.at)) ⊎ ((eqb k a.at ≡ false) × (k ≢ a.at)) → ⊥
        by (inl f) = equal (level (named_at names places k).name name (rw (f.1) there))
        by (inr n) =
            let d = n.1 in
            let l = a.low in
            let up : is_gt (name_cmp (named_at names places k).name (named_at names places a.at).name) ≡ false = (s.rising k a.at (omega arith) a.inside).not_above in
            equal (both_ways (named_at names places k).name name (rw there at up) (split.high k low lt))
