-- Sums over changes: what a test of addresses splits into, and what one more change does.
use Rattle.std.proofs.Common.{◌≡◌, ℕ, ◌+◌, ◌-◌, ◌≤◌, ◌==◌, ◌&&◌, Bool, true, false, List, [], ◌∷◌, ◌++◌, refl, ◌∙◌, sum_by, arith, if◌then◌else◌}
use Rattle.std.proofs.lemmas.List.Sums.{sum_by-cons, sum_by_push}
use Rattle.std.proofs.lemmas.Bool.{eqb-true}
use Rattle.std.specs.Prelude.{not}
use Rattle.blz_cover.specs.Changes.{is_added, is_taken, added_by, taken_by, left_at, count_of, total_of, added, taken}
use Rattle.blz_cover.specs.Kept.{NoneMissing}
use Rattle.blz_cover.specs.declared.change.Change.{Change}

-- a sum whose items split
sum_by-split : {X : Type 0} (f g h : X → ℕ) → ((x : X) → f x ≡ g x + h x) → (xs : List X) → sum_by f xs ≡ sum_by g xs + sum_by h xs
sum_by-split f g h each [] = refl
sum_by-split f g h each (x ∷ xs) = rw (sum_by-cons f, sum_by-cons g, sum_by-cons h) (omega (arith, each x, sum_by-split f g h each xs))

-- the addresses that pass one test and not another
abbrev pub without : (ℕ → Bool) → (ℕ → Bool) → ℕ → Bool
without p q a = p a && not (q a)

amount_split : (b p q : Bool) (n : ℕ) → (q ≡ true → p ≡ true) → (if b && p then n else 0) ≡ (if b && q then n else 0) + (if b && (p && not q) then n else 0)
amount_split false p q n within = refl
amount_split true true true n within = omega arith
amount_split true true false n within = omega arith
amount_split true false true n within = absurd (let e : false ≡ true = within refl in cc)
amount_split true false false n within = refl

pub left_at-split : (p q : ℕ → Bool) → ((a : ℕ) → q a ≡ true → p a ≡ true) → (changes : List Change) → NoneMissing changes → left_at p changes ≡ left_at q changes + left_at (without p q) changes
unfolding left_at
left_at-split p q within changes none =
    let a = sum_by-split (added_by p) (added_by q) (added_by (without p q)) (λ c. amount_split (is_added c.way) (p c.addr) (q c.addr) c.count (within c.addr)) changes in
    let t = sum_by-split (taken_by p) (taken_by q) (taken_by (without p q)) (λ c. amount_split (is_taken c.way) (p c.addr) (q c.addr) c.count (within c.addr)) changes in
    omega (arith, none.fits p, none.fits q, none.fits (without p q))

-- ---- one more change

abbrev pub amount : Bool → ℕ → ℕ
amount b n = if b then n else 0

added_nothing : (b : Bool) (n : ℕ) → (if false && b then n else 0) ≡ 0
added_nothing b n = refl

-- an added count is left where the test passes
pub left_at-added : (p : ℕ → Bool) (changes : List Change) (a n : ℕ) → NoneMissing changes → left_at p (changes ++ added a n ∷ []) ≡ left_at p changes + amount (p a) n
unfolding left_at
left_at-added p changes a n none =
    rw (sum_by_push (added_by p) changes (added a n), sum_by_push (taken_by p) changes (added a n)) (omega (arith, none.fits p))

-- a taken count is gone where the test passes
pub left_at-taken : (p : ℕ → Bool) (changes : List Change) (a n : ℕ) → left_at p (changes ++ taken a n ∷ []) ≡ left_at p changes - amount (p a) n
unfolding left_at
left_at-taken p changes a n =
    rw (sum_by_push (added_by p) changes (taken a n), sum_by_push (taken_by p) changes (taken a n)) (omega arith)

-- what one address has is no more than what a test that it passes has
pub count_of-le-left_at : (p : ℕ → Bool) (changes : List Change) (a : ℕ) → NoneMissing changes → p a ≡ true → count_of a changes ≤ left_at p changes
count_of-le-left_at p changes a none here =
    omega (arith, left_at-split p (λ x. x == a) (λ x e. rw (eqb-true x a e) here) changes none)

pub left_at-le-total : (p : ℕ → Bool) (changes : List Change) → NoneMissing changes → left_at p changes ≤ total_of changes
left_at-le-total p changes none = omega (arith, left_at-split (λ _. true) p (λ _ _. refl) changes none)

-- ---- nothing is missing

pub none_missing_at_first : NoneMissing []
none_missing_at_first = record { fits = λ p. omega arith }

pub none_missing_added : (changes : List Change) (a n : ℕ) → NoneMissing changes → NoneMissing (changes ++ added a n ∷ [])
none_missing_added changes a n none = record {
  fits = λ p. rw (sum_by_push (added_by p) changes (added a n), sum_by_push (taken_by p) changes (added a n)) (omega (arith, none.fits p));
}

taken_fits : (p : ℕ → Bool) (b : Bool) (changes : List Change) (a n : ℕ) → NoneMissing changes → n ≤ count_of a changes → p a ≡ b → sum_by (taken_by p) changes + amount b n ≤ sum_by (added_by p) changes
unfolding left_at
taken_fits p false changes a n none fits e = omega (arith, none.fits p)
taken_fits p true changes a n none fits e = omega (arith, none.fits p, count_of-le-left_at p changes a none e)

pub none_missing_taken : (changes : List Change) (a n : ℕ) → NoneMissing changes → n ≤ count_of a changes → NoneMissing (changes ++ taken a n ∷ [])
none_missing_taken changes a n none fits = record {
  fits = λ p. rw (sum_by_push (added_by p) changes (taken a n), sum_by_push (taken_by p) changes (taken a n)) (omega (arith, taken_fits p (p a) changes a n none fits refl));
}

-- ---- a change elsewhere

pub no_amount : (b p : Bool) (n : ℕ) → p ≡ false → (if b && p then n else 0) ≡ 0
no_amount false p n h = refl
no_amount true p n h = rw h refl

-- a change where the test does not pass leaves all
pub left_at-other : (p : ℕ → Bool) (changes : List Change) (c : Change) → p c.addr ≡ false → left_at p (changes ++ c ∷ []) ≡ left_at p changes
unfolding left_at
left_at-other p changes c off =
    rw (sum_by_push (added_by p) changes c, sum_by_push (taken_by p) changes c, no_amount (is_added c.way) (p c.addr) c.count off, no_amount (is_taken c.way) (p c.addr) c.count off) (omega arith)

-- the same where it passes
pub left_at-added_here : (p : ℕ → Bool) (changes : List Change) (a n : ℕ) → NoneMissing changes → p a ≡ true → left_at p (changes ++ added a n ∷ []) ≡ left_at p changes + n
left_at-added_here p changes a n none here = left_at-added p changes a n none ∙ rw here refl

pub left_at-taken_here : (p : ℕ → Bool) (changes : List Change) (a n : ℕ) → p a ≡ true → left_at p (changes ++ taken a n ∷ []) ≡ left_at p changes - n
left_at-taken_here p changes a n here = left_at-taken p changes a n ∙ rw here refl

-- where nothing was added, nothing is left
pub left_at-nothing : (p : ℕ → Bool) (changes : List Change) → sum_by (added_by p) changes ≡ 0 → left_at p changes ≡ 0
unfolding left_at
left_at-nothing p changes none = omega (arith, none)
