-- A search over an accepted order answers by the symbol rule.
use Rattle.std.proofs.Common.{◌≡◌, ◌≢◌, ◌⊎◌, inl, inr, ℕ, ◌+◌, ◌-◌, ◌<◌, ◌≤◌, Bool, true, false, ◌&&◌, List, length, get_or, filter, Some, None, refl, sym, ap, ◌∙◌, arith, eqb, leb}
use Rattle.std.specs.Prelude.{nat_le}
use Rattle.std.proofs.lemmas.Bool.{eqb-true, leb-true, leb-false, le-leb, eq-eqb}
use Rattle.std.proofs.lemmas.Bool.Decides.{nat_tests, eqb_tells, leb_tells}
use Rattle.std.proofs.lemmas.Option.{slice_get-get_or, slice_get_within, get_or_from_slice_get}
use Rattle.blz_bytes.specs.declared.orders.Key.{Key}
use Rattle.blz_bytes.specs.PairOrder as pairs
use Rattle.blz_bytes.specs.PairOrder.{key_at, IsOrder}
use Rattle.blz_symbols.specs.declared.question.Question.{Question}
use Rattle.blz_image.specs.declared.symbols.Symbol.{Symbol}
use Rattle.blz_image.specs.SymbolTables.{is_typed}
use Rattle.blz_symbols.specs.SymbolRule.{is_candidate, may_answer, answers, covering, greatest, largest}
use Rattle.blz_symbols.specs.Accepted.{Before, no_symbol, at_place, value_at, IsAccepted, IsKey, AreKeys, SplitsAt, SplitsBelow}
use Rattle.blz_symbols.specs.Needed.{IsSearchable}
use Rattle.blz_symbols.proofs.Halving.{SplitBy}
use Rattle.blz_symbols.proofs.Greatest.{Passes, greatest_is, largest_is, none_pass, filter_within, each_passes}

-- ---- from the keys to the symbols

before_of : (a : Key) (s : Symbol) (i : ℕ) (b : Key) (t : Symbol) (j : ℕ) → IsKey a s → IsKey b t → pairs.Before a i b j → Before s i t j
before_of a s i b t j p q r = record { by_value = omega (arith, r.first, p.value, q.value); by_size = λ e. omega (arith, r.second, p.value, q.value, p.size, q.size); by_place = λ e f. omega (arith, r.tie, p.value, q.value, p.size, q.size) }

pub accepted : (keys : List Key) (xs : List Symbol) (places : List ℕ) → AreKeys keys xs → IsOrder keys places → IsAccepted xs places
accepted keys xs places are order = record {
  count = order.each.same ∙ are.count;
  inside = λ k lt. omega (arith, within k lt, are.count);
  every = λ i lt. order.each.every i (omega (arith, are.count));
  rising = λ j k lt in-list. before_of (key_at keys (get_or places j 0)) (at_place xs places j) _ (key_at keys (get_or places k 0)) (at_place xs places k) _ (are.each _ (within j (omega arith))) (are.each _ (within k in-list)) (order.rises j k _ _ lt (slice_get-get_or places j 0 (omega arith)) (slice_get-get_or places k 0 in-list));
}
  where
    within : (k : ℕ) → k < length places → get_or places k 0 < length keys
    within k lt = order.each.within k (get_or places k 0) (slice_get-get_or places k 0 lt)

-- the place of a symbol
pub record PlacedAt (places : List ℕ) (i : ℕ) : Type 0 where
  pub at : ℕ
  pub inside : at < length places
  pub is : get_or places at 0 ≡ i

pub placed_at : (xs : List Symbol) (places : List ℕ) → IsAccepted xs places → (i : ℕ) → i < length xs → PlacedAt places i
placed_at xs places a i lt =
    let s = a.every i lt in
    record { at = s.at; inside = slice_get_within places s.at i s.is; is = get_or_from_slice_get places s.at i 0 s.is }

-- ---- tests

pub both : (a b : Bool) → (a && b) ≡ true → (a ≡ true) × (b ≡ true)
both true true e = (refl, refl)
both true false e = absurd cc
both false b e = absurd cc

pub together : (a b : Bool) → a ≡ true → b ≡ true → (a && b) ≡ true
together true b p q = q
together false b p q = absurd cc

answers_true : (q : Question) (g : ℕ) (s : Symbol) → is_candidate q.addr s ≡ true → s.value ≡ g → may_answer q s ≡ true → answers q g s ≡ true
answers_true q g s c v m = together (is_candidate q.addr s && eqb s.value g) (may_answer q s) (together (is_candidate q.addr s) (eqb s.value g) c (eq-eqb s.value g v)) m

pub record Answering (q : Question) (g : ℕ) (s : Symbol) : Type 0 where
  pub candidate : is_candidate q.addr s ≡ true
  pub value : s.value ≡ g
  pub may : may_answer q s ≡ true

pub answers_of : (q : Question) (g : ℕ) (s : Symbol) → answers q g s ≡ true → Answering q g s
answers_of q g s e =
    let h = both (is_candidate q.addr s && eqb s.value g) (may_answer q s) e in
    let c = both (is_candidate q.addr s) (eqb s.value g) h.0 in
    record { candidate = c.0; value = eqb-true s.value g c.1; may = h.1 }

candidate_true : (addr : ℕ) (s : Symbol) → is_typed s ≡ true → s.value ≤ addr → is_candidate addr s ≡ true
candidate_true addr s t le = grind (arith, nat_tests)

candidate_of : (addr : ℕ) (s : Symbol) → is_candidate addr s ≡ true → s.value ≤ addr
candidate_of addr s e = let h = both (is_typed s) (nat_le s.value addr) e in leb-true s.value addr h.1

-- ---- the search

abbrev pub AllTyped : List Symbol → Type 0
AllTyped xs = (i : ℕ) → i < length xs → is_typed (get_or xs i no_symbol) ≡ true

-- nothing lies at or below the address
pub nothing_below : (xs : List Symbol) (places : List ℕ) (q : Question) (n : ℕ) → IsSearchable xs places → SplitsAt xs places n q.addr → n ≡ 0 → None ≡ covering q xs
unfolding covering
nothing_below xs places q n a s z = sym (ap largest (none_pass (answers q (greatest (filter (is_candidate q.addr) xs))) xs none))
  where
    none : (i : ℕ) → Passes (answers q (greatest (filter (is_candidate q.addr) xs))) xs i → ⊥
    none i h =
        let w = a.every i h.0 in
        let c = candidate_of q.addr (get_or xs i no_symbol) (answers_of q (greatest (filter (is_candidate q.addr) xs)) (get_or xs i no_symbol) h.1).candidate in
        let c2 : (at_place xs places w.at).value ≤ q.addr = rw (w.value) c in
        omega (arith, s.high w.at (omega arith) w.inside)

-- What is known when the places from `from` up to `to` are tried.
pub record Searching (xs : List Symbol) (places : List ℕ) (q : Question) (to from : ℕ) : Type 0 where
  pub accepted : IsSearchable xs places
  pub typed : AllTyped xs
  pub up_to : SplitsAt xs places to q.addr
  pub some : 0 < to
  pub below : SplitsBelow xs places from (at_place xs places (to - 1)).value

abbrev top_value : List Symbol → List ℕ → ℕ → ℕ
top_value xs places to = (at_place xs places (to - 1)).value

-- the values up to `to` are at most the last of them
at_most_top : (xs : List Symbol) (places : List ℕ) (q : Question) (to from : ℕ) → Searching xs places q to from → (k : ℕ) → k < to → (at_place xs places k).value ≤ top_value xs places to
at_most_top xs places q to from s k lt = by (eqb_tells k (to - 1))
  where
    by : ((eqb k (to - 1) ≡ true) × (k ≡ to - 1)) ⊎ ((eqb k (to - 1) ≡ false) × (k ≢ to - 1)) → (at_place xs places k).value ≤ top_value xs places to
    by (inl e) = rw (e.1) (omega arith)
    by (inr n) = let d = n.1 in let h = s.some in (s.accepted.rising k (to - 1) (omega arith) (omega (arith, s.up_to.inside))).by_value

-- a candidate's place lies below `to`
candidate_place : (xs : List Symbol) (places : List ℕ) (q : Question) (to from : ℕ) → Searching xs places q to from → (k : ℕ) → k < length places → (at_place xs places k).value ≤ q.addr → k < to
candidate_place xs places q to from s k in-list le = by (leb_tells to k)
  where
    by : ((leb to k ≡ true) × (to ≤ k)) ⊎ ((leb to k ≡ false) × (k < to)) → k < to
    by (inl e) = absurd (omega (arith, s.up_to.high k e.1 in-list))
    by (inr n) = n.1

greatest_here : (xs : List Symbol) (places : List ℕ) (q : Question) (to from : ℕ) → Searching xs places q to from → greatest (filter (is_candidate q.addr) xs) ≡ top_value xs places to
greatest_here xs places q to from s = greatest_is (is_candidate q.addr) xs (get_or places (to - 1) 0) here each
  where
    here : Passes (is_candidate q.addr) xs (get_or places (to - 1) 0)
    here =
        let h = s.some in
        let i = s.accepted.inside (to - 1) (omega (arith, s.up_to.inside)) in
        (i, candidate_true q.addr (at_place xs places (to - 1)) (s.typed (get_or places (to - 1) 0) i) (s.up_to.low (to - 1) (omega arith)))

    each : (j : ℕ) → Passes (is_candidate q.addr) xs j → (get_or xs j no_symbol).value ≤ top_value xs places to
    each j h =
        let w = s.accepted.every j h.0 in
        let le : (at_place xs places w.at).value ≤ q.addr = rw (w.value) (candidate_of q.addr (get_or xs j no_symbol) h.1) in
        let top = at_most_top xs places q to from s w.at (candidate_place xs places q to from s w.at w.inside le) in
        rw w.value at top

-- for a symbol that answers, a place between `from` and `to` answers too
record Between (xs : List Symbol) (places : List ℕ) (q : Question) (to from i : ℕ) : Type 0 where
  at : ℕ
  low : from ≤ at
  high : at < to
  value : (at_place xs places at).value ≡ top_value xs places to
  own : (at_place xs places at).value ≡ (get_or xs i no_symbol).value
  may : may_answer q (at_place xs places at) ≡ true
  order : (get_or places at 0 ≡ i) ⊎ Before (at_place xs places at) (get_or places at 0) (get_or xs i no_symbol) i

between : (xs : List Symbol) (places : List ℕ) (q : Question) (to from : ℕ) → Searching xs places q to from → (i : ℕ) → Passes (answers q (top_value xs places to)) xs i → Between xs places q to from i
between xs places q to from s i h =
    let w = s.accepted.every i h.0 in
    let a = answers_of q (top_value xs places to) (get_or xs i no_symbol) h.1 in
    let value : (at_place xs places w.at).value ≡ top_value xs places to = w.value ∙ a.value in
    let le : (at_place xs places w.at).value ≤ q.addr = rw (w.value) (candidate_of q.addr (get_or xs i no_symbol) a.candidate) in
    record { at = w.at; low = low w.at value (leb_tells from w.at); high = candidate_place xs places q to from s w.at w.inside le; value = value; own = w.value; may = w.may q a.may; order = w.order }
  where
    low : (at : ℕ) → (at_place xs places at).value ≡ top_value xs places to → ((leb from at ≡ true) × (from ≤ at)) ⊎ ((leb from at ≡ false) × (at < from)) → from ≤ at
    low at value (inl e) = e.1
    low at value (inr n) = absurd (omega (arith, s.below.low at n.1))

before_trans : (s : Symbol) (i : ℕ) (t : Symbol) (j : ℕ) (u : Symbol) (k : ℕ) → s.value ≡ t.value → t.value ≡ u.value → Before s i t j → Before t j u k → Before s i u k
before_trans s i t j u k e f p q = record { by_value = omega arith; by_size = λ g. omega (arith, p.by_size e, q.by_size f); by_place = λ g h. omega (arith, p.by_size e, q.by_size f, p.by_place e, q.by_place f) }

pub search_none : (xs : List Symbol) (places : List ℕ) (q : Question) (to from : ℕ) → Searching xs places q to from → ((k : ℕ) → from ≤ k → k < to → may_answer q (at_place xs places k) ≡ false) → None ≡ covering q xs
unfolding covering
search_none xs places q to from s none = rw (greatest_here xs places q to from s) (sym (ap largest (none_pass (answers q (top_value xs places to)) xs no)))
  where
    no : (i : ℕ) → Passes (answers q (top_value xs places to)) xs i → ⊥
    no i h = let b = between xs places q to from s i h in let f = none b.at b.low b.high in let m = b.may in cc

strictly : (a b i j : ℕ) → b ≤ a → (a ≡ b → i < j) → j < i → b < a
strictly a b i j le later lt = by (eqb_tells a b)
  where
    by : ((eqb a b ≡ true) × (a ≡ b)) ⊎ ((eqb a b ≡ false) × (a ≢ b)) → b < a
    by (inl e) = absurd (let h = later e.1 in omega arith)
    by (inr n) = let d = n.1 in omega arith

pub search_found : (xs : List Symbol) (places : List ℕ) (q : Question) (to from m : ℕ) → Searching xs places q to from → from ≤ m → m < to → may_answer q (at_place xs places m) ≡ true → ((k : ℕ) → from ≤ k → k < m → may_answer q (at_place xs places k) ≡ false) → Some (at_place xs places m) ≡ covering q xs
unfolding covering
search_found xs places q to from m s low high may before = rw (greatest_here xs places q to from s) (sym (largest_is (answers q (top_value xs places to)) xs (get_or places m 0) here earlier later))
  where
    inside : m < length places
    inside = omega (arith, s.up_to.inside)

    value : (at_place xs places m).value ≡ top_value xs places to
    value = let top = at_most_top xs places q to from s m high in let least = s.below.high m low inside in omega arith

    here : Passes (answers q (top_value xs places to)) xs (get_or places m 0)
    here = let i = s.accepted.inside m inside in (i, answers_true q (top_value xs places to) (at_place xs places m) (candidate_true q.addr (at_place xs places m) (s.typed (get_or places m 0) i) (s.up_to.low m high)) value may)

    order : (i : ℕ) (b : Between xs places q to from i) → i ≢ get_or places m 0 → Before (at_place xs places m) (get_or places m 0) (get_or xs i no_symbol) i
    order i b ne = by (leb_tells b.at m)
      where
        here_or : b.at ≡ m → (get_or places b.at 0 ≡ i) ⊎ Before (at_place xs places b.at) (get_or places b.at 0) (get_or xs i no_symbol) i → Before (at_place xs places m) (get_or places m 0) (get_or xs i no_symbol) i
        here_or e (inl is) = absurd (ne (sym is ∙ ap (λ (n : ℕ). get_or places n 0) e))
        here_or e (inr r) = rw e at r

        later_or : m < b.at → (get_or places b.at 0 ≡ i) ⊎ Before (at_place xs places b.at) (get_or places b.at 0) (get_or xs i no_symbol) i → Before (at_place xs places m) (get_or places m 0) (get_or xs i no_symbol) i
        later_or lt (inl is) = rw (← is) (s.accepted.rising m b.at lt (let h = b.high in omega (arith, s.up_to.inside)))
        later_or lt (inr r) = before_trans _ _ _ _ _ _ (value ∙ sym b.value) b.own (s.accepted.rising m b.at lt (let h = b.high in omega (arith, s.up_to.inside))) r

        by : ((leb b.at m ≡ true) × (b.at ≤ m)) ⊎ ((leb b.at m ≡ false) × (m < b.at)) → Before (at_place xs places m) (get_or places m 0) (get_or xs i no_symbol) i
        by (inl e) = here_or (same (eqb_tells b.at m)) b.order
          where
            same : ((eqb b.at m ≡ true) × (b.at ≡ m)) ⊎ ((eqb b.at m ≡ false) × (b.at ≢ m)) → b.at ≡ m
            same (inl f) = f.1
            same (inr n) = absurd (let f = before b.at b.low (let d = n.1 in let h = e.1 in omega arith) in let t = b.may in cc)
        by (inr n) = later_or n.1 b.order

    earlier : (i : ℕ) → i < get_or places m 0 → Passes (answers q (top_value xs places to)) xs i → (get_or xs i no_symbol).size < (at_place xs places m).size
    earlier i lt h =
        let b = between xs places q to from s i h in
        let o = order i b (λ e. omega arith) in
        let v : (at_place xs places m).value ≡ (get_or xs i no_symbol).value = value ∙ sym b.value ∙ b.own in
        strictly (at_place xs places m).size (get_or xs i no_symbol).size (get_or places m 0) i (o.by_size v) (o.by_place v) lt

    later : (i : ℕ) → get_or places m 0 < i → Passes (answers q (top_value xs places to)) xs i → (get_or xs i no_symbol).size ≤ (at_place xs places m).size
    later i lt h =
        let b = between xs places q to from s i h in
        let o = order i b (λ e. omega arith) in
        let v : (at_place xs places m).value ≡ (get_or xs i no_symbol).value = value ∙ sym b.value ∙ b.own in
        o.by_size v

-- ---- the places up to an address

pub value_falls : (xs : List Symbol) (places : List ℕ) (addr j k : ℕ) → IsSearchable xs places → j < k → k < length places → nat_le (value_at xs (get_or places k 0)) addr ≡ true → nat_le (value_at xs (get_or places j 0)) addr ≡ true
value_falls xs places addr j k s lt in-list e =
    let up = (s.rising j k lt in-list).by_value in
    let top = leb-true (at_place xs places k).value addr e in
    le-leb (at_place xs places j).value addr (omega arith)

pub splits_at : (xs : List Symbol) (places : List ℕ) (addr n : ℕ) → n ≤ length places → SplitBy (λ i. nat_le (value_at xs i) addr) places n → SplitsAt xs places n addr
splits_at xs places addr n inside s = record { inside = inside; low = λ k lt. leb-true (at_place xs places k).value addr (s.low k lt); high = λ k ge lt. leb-false (at_place xs places k).value addr (s.high k ge lt) }

-- ---- the symbols of the answered types

pub typed_filter : (xs symbols : List Symbol) → xs ≡ filter is_typed symbols → AllTyped xs
typed_filter xs symbols e = rw (e) (each_passes is_typed symbols)

candidate_typed : (addr : ℕ) (s : Symbol) → is_candidate addr s ≡ true → is_typed s ≡ true
candidate_typed addr s e = (both (is_typed s) (nat_le s.value addr) e).0

answers_typed : (q : Question) (g : ℕ) (s : Symbol) → answers q g s ≡ true → is_typed s ≡ true
answers_typed q g s e = candidate_typed q.addr s (answers_of q g s e).candidate

pub covering_typed : (xs symbols : List Symbol) (q : Question) → xs ≡ filter is_typed symbols → covering q xs ≡ covering q symbols
unfolding covering
covering_typed xs symbols q e =
    rw (e, filter_within (is_candidate q.addr) is_typed (candidate_typed q.addr) symbols)
    (ap largest (filter_within (answers q (greatest (filter (is_candidate q.addr) symbols))) is_typed (answers_typed q (greatest (filter (is_candidate q.addr) symbols))) symbols))

-- none up to k, and not k
pub none_more : (f : ℕ → Bool) (from k : ℕ) → ((j : ℕ) → from ≤ j → j < k → f j ≡ false) → f k ≡ false → (j : ℕ) → from ≤ j → j < k + 1 → f j ≡ false
none_more f from k none here j low high = by (eqb_tells j k)
  where
    by : ((eqb j k ≡ true) × (j ≡ k)) ⊎ ((eqb j k ≡ false) × (j ≢ k)) → f j ≡ false
    by (inl e) = rw (e.1) here
    by (inr n) = let d = n.1 in none j low (omega arith)
