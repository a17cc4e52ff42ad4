-- The next line is the least.
use Rattle.std.proofs.Common.{◌≡◌, ◌⊎◌, ℕ, zero, suc, ◌<◌, ◌≤◌, Bool, true, false, cond, ◌&&◌, leb, List, [], ◌∷◌, min, Option, Some, None, refl, ap, subst, arith, inl, inr}
use Rattle.std.specs.Prelude.{filter}
use Rattle.std.specs.List.{slice_get}
use Rattle.std.proofs.lemmas.Bool.{cases_lt}
use Rattle.blz_rows.specs.Entries.{Entry}
use Rattle.blz_rows.specs.LineAnswers.{is_from, least, lesser, next_in}
use Rattle.blz_rows.specs.Matching.{matches}
use Rattle.blz_rows.specs.RowLaws.{IsIn, IsLeastFrom, IsNext}

abbrev nothing : List Entry
nothing = []

first_in : (x : Entry) (xs : List Entry) → IsIn x (x ∷ xs)
first_in x xs = record { index = 0; there = refl }

later_in : (x y : Entry) (xs : List Entry) → IsIn x xs → IsIn x (y ∷ xs)
later_in x y xs h = record { index = suc h.index; there = h.there }

-- an element is the first, or one of the others
parts_of : {P : Type 0} (x y : Entry) (xs : List Entry) → IsIn x (y ∷ xs) → (y ≡ x → P) → (IsIn x xs → P) → P
parts_of {P = P} x y xs h first later = at h.index h.there
  where
    at : (i : ℕ) → slice_get (y ∷ xs) i ≡ Some x → P
    at zero e = first cc
    at (suc i) e = later (record { index = i; there = e })

reached : (m n : ℕ) → leb m n ≡ true → m ≤ n
reached m n e = grind arith

-- a test of both
both_true : (a b : Bool) → a ≡ true → b ≡ true → (a && b) ≡ true
both_true true b s t = t
both_true false b s t = absurd cc

first_true : (a b : Bool) → (a && b) ≡ true → a ≡ true
first_true true b e = refl
first_true false b e = absurd cc

second_true : (a b : Bool) → (a && b) ≡ true → b ≡ true
second_true true b e = e
second_true false b e = absurd cc

at_least : (m n : ℕ) → m ≤ n → leb m n ≡ true
at_least m n le = grind arith

-- an entry that is not asked is not of the file, or its line is below
not_asked : {P : Type 0} (file : List ℕ) (line : ℕ) (entry other : Entry) → is_from file line entry ≡ false → entry ≡ other → matches other.path file ≡ true → line ≤ other.line → P
not_asked file line entry other other_line same meant le =
    let Q : Entry → Type 0 = λ e. is_from file line e ≡ false in
    let not : is_from file line other ≡ false = subst Q same other_line in
    let holds : is_from file line other ≡ true = both_true (matches other.path file) (leb line other.line) meant (at_least line other.line le) in
    absurd cc

-- so it changes nothing
skipped : (file : List ℕ) (line : ℕ) (entry : Entry) (rest : List Entry) (next : Option ℕ) → is_from file line entry ≡ false → IsNext file line rest next → IsNext file line (entry ∷ rest) next
skipped file line entry rest None other_line h =
    λ other among meant. parts_of other entry rest among (λ same. from other same meant (cases_lt other.line line)) (λ later. h other later meant)
  where
    from : (other : Entry) → entry ≡ other → matches other.path file ≡ true → (other.line < line) ⊎ (line ≤ other.line) → other.line < line
    from other same meant (inl lt) = lt
    from other same meant (inr le) = not_asked file line entry other other_line same meant le
skipped file line entry rest (Some next) other_line h = record {
  from = h.from;
  entry = h.entry;
  among = later_in h.entry entry rest h.among;
  meant = h.meant;
  has = h.has;
  least = λ other among meant le. parts_of other entry rest among (λ same. not_asked file line entry other other_line same meant le) (λ later. h.least other later meant le);
}

-- an entry that is asked is the least so far, where no other is less
taken : (file : List ℕ) (line : ℕ) (entry : Entry) (rest : List Entry) → is_from file line entry ≡ true
    → ((other : Entry) → IsIn other rest → matches other.path file ≡ true → line ≤ other.line → entry.line ≤ other.line)
    → IsLeastFrom file line (entry ∷ rest) entry.line
taken file line entry rest is others = record {
  from = reached line entry.line (second_true (matches entry.path file) (leb line entry.line) is);
  entry = entry;
  among = first_in entry rest;
  meant = first_true (matches entry.path file) (leb line entry.line) is;
  has = refl;
  least = λ other among meant le. parts_of other entry rest among (λ same. let e : entry.line ≡ other.line = ap (λ (e : Entry). e.line) same in omega (arith, e)) (λ later. others other later meant le);
}

asked : (file : List ℕ) (line : ℕ) (entry : Entry) (rest : List Entry) (next : Option ℕ) → is_from file line entry ≡ true → IsNext file line rest next → IsLeastFrom file line (entry ∷ rest) (lesser entry.line next)
asked file line entry rest None is h = taken file line entry rest is (λ other among meant le. let below = h other among meant in absurd (omega (arith, below, le)))
asked file line entry rest (Some next) is h = by_order (cases_lt next entry.line)
  where
    by_order : (next < entry.line) ⊎ (entry.line ≤ next) → IsLeastFrom file line (entry ∷ rest) (min entry.line next)
    by_order (inl lt) =
        let lesser_is : min entry.line next ≡ next = omega arith in
        rw lesser_is (record {
          from = h.from;
          entry = h.entry;
          among = later_in h.entry entry rest h.among;
          meant = h.meant;
          has = h.has;
          least = λ other among meant le. parts_of other entry rest among (λ same. let e : entry.line ≡ other.line = ap (λ (e : Entry). e.line) same in omega (arith, e)) (λ later. h.least other later meant le);
        })
    by_order (inr le) =
        let lesser_is : min entry.line next ≡ entry.line = omega arith in
        rw lesser_is (taken file line entry rest is (λ other among meant from. let least = h.least other among meant from in omega (arith, least)))

by_test : (file : List ℕ) (line : ℕ) (entry : Entry) (rest : List Entry) (b : Bool) → is_from file line entry ≡ b
    → IsNext file line rest (least (filter (is_from file line) rest))
    → IsNext file line (entry ∷ rest) (least (cond b (entry ∷ filter (is_from file line) rest) (filter (is_from file line) rest)))
by_test file line entry rest true is h = asked file line entry rest _ is h
by_test file line entry rest false other_line h = skipped file line entry rest _ other_line h

none_in : (other : Entry) → IsIn other [] → ⊥
none_in other among = past among.index among.there
  where
    past : (i : ℕ) → slice_get nothing i ≡ Some other → ⊥
    past i e = cc

pub next_is_least : (file : List ℕ) (line : ℕ) (entries : List Entry) → IsNext file line entries (next_in file line entries)
next_is_least file line [] = λ other among meant. absurd (none_in other among)
next_is_least file line (entry ∷ rest) = by_test file line entry rest (is_from file line entry) refl (next_is_least file line rest)
