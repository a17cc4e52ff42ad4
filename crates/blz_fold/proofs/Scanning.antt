-- The scan over the distinct addresses meets the mark that the scan over all addresses meets first.
use Rattle.std.proofs.Common.{◌≡◌, ◌+◌, ℕ, suc, nat_eq, Bool, true, false, ◌||◌, List, [], ◌∷◌, ◌++◌, map, Option, Some, None, refl, sym, ap, subst, ◌∙◌, cond, if◌then◌else◌, arith, append_assoc}
use Rattle.std.specs.Bool.{Decides}
use Rattle.std.specs.Option.{option_map}
use Rattle.std.specs.List.{AllZip, fold, list_any, position, position_from}
use Rattle.std.proofs.lemmas.Bool.Decides.{Decides-eqb}
use Rattle.std.proofs.lemmas.Iterator.Adapters.{position_from-zero}
use Rattle.std.proofs.lemmas.List.{append-nil}
use Rattle.blz_error.specs.Texts.{Bytes}
use Rattle.blz_error.specs.declared.kind.ErrorKind.{ErrorKind}
use Rattle.blz_model.specs.Answers.{Answer}
use Rattle.blz_model.specs.Part.{Part, Good, Broken, ◌>>=◌, all_good}
use Rattle.blz_model.proofs.PartLemmas.{bind_good}
use Rattle.blz_elf.specs.declared.opts.FindSymOpts.TheVariants.{CodeInfoAndInlined}
use Rattle.blz_resolver.specs.Books.{Book, frame_of}
use Rattle.blz_resolver.specs.Images.{ImageSet}
use Rattle.blz_resolver.specs.Scan.{scan_of}
use Rattle.blz_fold.specs.AddressStacks.{addresses_in}
use Rattle.blz_fold.specs.Counted.{Counted, distinct, with_new}
use Rattle.blz_fold.specs.Naming.{answer_at, named, named_lines, named_stacks, names_from, names_of}
use Rattle.blz_fold.specs.Numbered.{Spells, list_at, list_in}
use Rattle.blz_fold.specs.declared.stack_list.Stack.{Stack}

abbrev marks : {A : Type 0} → Part A → Part (Unit {0})
marks p = p >>= λ x. Good tt

mark_back : {A : Type 0} (p : Part A) (k : ErrorKind) → marks p ≡ Broken k → p ≡ Broken k
mark_back (Good x) k e = absurd cc
mark_back (Broken j) k e = ap Broken (same j k e)
  where
    same : (i j : ErrorKind) → ◌≡◌ {A = Part (Unit {0})} (Broken i) (Broken j) → i ≡ j
    same i j h = cc

-- what a part breaks on, it breaks on whatever is made of its value
pub mark_of_bind : {A B C : Type 0} (p : Part A) (f : A → B) (g : A → C) (k : ErrorKind) → (p >>= λ x. Good (f x)) ≡ Broken k → (p >>= λ x. Good (g x)) ≡ Broken k
mark_of_bind {A} {B} {C} (Good x) f g k e = absurd cc
mark_of_bind {A} {B} {C} (Broken j) f g k e = ap Broken (same j k e)
  where
    same : (i j : ErrorKind) → ◌≡◌ {A = Part B} (Broken i) (Broken j) → i ≡ j
    same i j h = cc

good_back : {A : Type 0} (p : Part A) → marks p ≡ Good tt → (x : A) × (p ≡ Good x)
good_back (Good x) e = (x, refl)
good_back (Broken k) e = absurd cc

module _ {X A : Type 0} (f : X → Part A) where
  abbrev first_mark : List X → Part (Unit {0})
  first_mark [] = Good tt
  first_mark (x ∷ xs) = f x >>= λ y. first_mark xs

  marks_all : (xs : List X) → marks (all_good (map f xs)) ≡ first_mark xs
  marks_all [] = refl
  marks_all (x ∷ xs) = by (f x) (all_good (map f xs)) (marks_all xs)
    where
      by : (p : Part A) (q : Part (List A)) → marks q ≡ first_mark xs → marks (p >>= λ y. q >>= λ ys. Good (y ∷ ys)) ≡ (p >>= λ y. first_mark xs)
      by (Broken k) q h = refl
      by (Good y) (Broken k) h = h
      by (Good y) (Good ys) h = h

  good_adds_nothing : (x : X) (v : A) → f x ≡ Good v → (ys zs : List X) → first_mark (ys ++ x ∷ zs) ≡ first_mark (ys ++ zs)
  good_adds_nothing x v e [] zs = ap (λ p. p >>= λ y. first_mark zs) e
  good_adds_nothing x v e (y ∷ ys) zs = ap (λ q. f y >>= λ z. q) (good_adds_nothing x v e ys zs)

  module _ (same : X → X → Bool) (decides : (x y : X) → Decides (same x y) (x ≡ y)) where
    seen_adds_nothing : (x : X) (seen zs : List X) → list_any (same x) seen ≡ true → first_mark (seen ++ x ∷ zs) ≡ first_mark (seen ++ zs)
    seen_adds_nothing x [] zs there = absurd cc
    seen_adds_nothing x (y ∷ seen) zs there = by (same x y) refl there (seen_adds_nothing x seen zs)
      where
        read : (p : Part A) → f y ≡ p → x ≡ y → first_mark (y ∷ (seen ++ x ∷ zs)) ≡ first_mark (y ∷ (seen ++ zs))
        read (Good v) e is = ap (λ q. f y >>= λ z. q) (good_adds_nothing x v (ap f is ∙ e) seen zs)
        read (Broken k) e is = ap (λ p. p >>= λ z. first_mark (seen ++ x ∷ zs)) e ∙ sym (ap (λ p. p >>= λ z. first_mark (seen ++ zs)) e)

        by : (b : Bool) → same x y ≡ b → (b || list_any (same x) seen) ≡ true → (list_any (same x) seen ≡ true → first_mark (seen ++ x ∷ zs) ≡ first_mark (seen ++ zs)) → first_mark (y ∷ (seen ++ x ∷ zs)) ≡ first_mark (y ∷ (seen ++ zs))
        by true is h rest = read (f y) refl ((decides x y).0 is)
        by false is h rest = ap (λ q. f y >>= λ z. q) (rest h)

    grown_marks : (xs seen : List X) → first_mark (fold (with_new same) seen xs) ≡ first_mark (seen ++ xs)
    grown_marks [] seen = ap (λ z. first_mark z) (sym (append-nil seen))
    grown_marks (x ∷ xs) seen = grown_marks xs (with_new same seen x) ∙ by (list_any (same x) seen) refl
      where
        by : (b : Bool) → list_any (same x) seen ≡ b → first_mark ((if b then seen else seen ++ x ∷ []) ++ xs) ≡ first_mark (seen ++ x ∷ xs)
        by true there = sym (seen_adds_nothing x seen xs there)
        by false none = ap (λ z. first_mark z) (append_assoc seen (x ∷ []) xs)

    distinct_marks : (xs : List X) → first_mark (distinct same xs) ≡ first_mark xs
    distinct_marks xs = grown_marks xs []

scan_marks : (images : ImageSet) (addrs : List ℕ) → marks (scan_of images addrs CodeInfoAndInlined) ≡ (frame_of images >>= λ book. first_mark (answer_at images) addrs)
unfolding scan_of
scan_marks images addrs = by (frame_of images)
  where
    by : (p : Part Book) → marks (p >>= λ book. all_good (map (answer_at images) addrs)) ≡ (p >>= λ book. first_mark (answer_at images) addrs)
    by (Good book) = marks_all (answer_at images) addrs
    by (Broken k) = refl

same_marks : (images : ImageSet) (addrs : List ℕ) → marks (scan_of images (distinct nat_eq addrs) CodeInfoAndInlined) ≡ marks (scan_of images addrs CodeInfoAndInlined)
same_marks images addrs = scan_marks images (distinct nat_eq addrs) ∙ ap (λ q. frame_of images >>= λ book. q) (distinct_marks (answer_at images) nat_eq Decides-eqb addrs) ∙ sym (scan_marks images addrs)

-- the mark
pub broken_lines : (images : ImageSet) (stacks : List Stack) (k : ErrorKind) → scan_of images (distinct nat_eq (addresses_in stacks)) CodeInfoAndInlined ≡ Broken k → named_lines images stacks ≡ Broken k
unfolding named_stacks
broken_lines images stacks k e =
    let all = mark_back (scan_of images (addresses_in stacks) CodeInfoAndInlined) k (sym (same_marks images (addresses_in stacks)) ∙ ap (λ p. marks p) e) in
    rw (all) refl

-- the stacks of names
pub good_stacks : (images : ImageSet) (stacks : List Stack) (answers : List Answer) → scan_of images (distinct nat_eq (addresses_in stacks)) CodeInfoAndInlined ≡ Good answers → named_stacks images stacks ≡ Good (map (named images) stacks)
unfolding named_stacks
good_stacks images stacks answers e =
    let all = good_back (scan_of images (addresses_in stacks) CodeInfoAndInlined) (sym (same_marks images (addresses_in stacks)) ∙ ap (λ p. marks p) e) in
    rw (all.1) refl

-- the stacks of names are those of the stacks
pub stacks_named : (images : ImageSet) (stacks : List Stack) (names : List (Counted Bytes)) → named_stacks images stacks ≡ Good names → names ≡ map (named images) stacks
unfolding named_stacks
stacks_named images stacks names e = by (scan_of images (addresses_in stacks) CodeInfoAndInlined) e
  where
    value_is : (x y : List (Counted Bytes)) → Good x ≡ Good y → x ≡ y
    value_is x y h = cc

    by : (p : Part (List Answer)) → (p >>= λ answers. Good (map (named images) stacks)) ≡ Good names → names ≡ map (named images) stacks
    by (Good answers) h = sym (value_is (map (named images) stacks) names h)
    by (Broken k) h = absurd cc

pub answers_good : (images : ImageSet) (addrs : List ℕ) (answers : List Answer) → scan_of images addrs CodeInfoAndInlined ≡ Good answers → all_good (map (answer_at images) addrs) ≡ Good answers
unfolding scan_of
answers_good images addrs answers e = (bind_good (frame_of images) (λ book. all_good (map (answer_at images) addrs)) answers e).2

-- ---- the list at the place of an address

position_shifts : (test : ℕ → Bool) (i : ℕ) (xs : List ℕ) → position_from test (suc i) xs ≡ option_map suc (position_from test i xs)
position_shifts test i [] = refl
position_shifts test i (x ∷ xs) = by (test x) (ap (λ n. position_from test n xs) (omega arith) ∙ position_shifts test (i + 1) xs)
  where
    by : (b : Bool) → position_from test (suc i + 1) xs ≡ option_map suc (position_from test (i + 1) xs) → cond b (Some (suc i)) (position_from test (suc i + 1) xs) ≡ option_map suc (cond b (Some i) (position_from test (i + 1) xs))
    by true h = refl
    by false h = h

list_further : (l : List ℕ) (ls : List (List ℕ)) (o : Option ℕ) → list_in (l ∷ ls) (option_map suc o) ≡ list_in ls o
list_further l ls None = refl
list_further l ls (Some i) = refl

place_of : (addr : ℕ) (xs : List ℕ) → position (nat_eq addr) xs ≡ position_from (nat_eq addr) 0 xs
place_of addr xs = position_from-zero (nat_eq addr) xs

list_behind : (addr x : ℕ) (xs : List ℕ) (l : List ℕ) (ls : List (List ℕ)) → nat_eq addr x ≡ false → list_at (x ∷ xs) (l ∷ ls) addr ≡ list_at xs ls addr
list_behind addr x xs l ls other =
    let next : 0 + 1 ≡ suc 0 = omega arith in
    ap (λ o. list_in (l ∷ ls) o) (place_of addr (x ∷ xs))
    ∙ ap (λ b. list_in (l ∷ ls) (cond b (Some 0) (position_from (nat_eq addr) (0 + 1) xs))) other
    ∙ ap (λ n. list_in (l ∷ ls) (position_from (nat_eq addr) n xs)) next
    ∙ ap (λ o. list_in (l ∷ ls) o) (position_shifts (nat_eq addr) 0 xs) ∙ list_further l ls (position_from (nat_eq addr) 0 xs)
    ∙ ap (λ o. list_in ls o) (sym (place_of addr xs))

list_here : (addr x : ℕ) (xs : List ℕ) (l : List ℕ) (ls : List (List ℕ)) → nat_eq addr x ≡ true → list_at (x ∷ xs) (l ∷ ls) addr ≡ l
list_here addr x xs l ls is = ap (λ o. list_in (l ∷ ls) o) (place_of addr (x ∷ xs)) ∙ ap (λ b. list_in (l ∷ ls) (cond b (Some 0) (position_from (nat_eq addr) (0 + 1) xs))) is

module _ (table : List Bytes) (f : ℕ → Part Answer) where
  abbrev AreSpelledBy : List Answer → List (List ℕ) → Type 0
  AreSpelledBy answers lists = AllZip (λ answer numbers. Spells table numbers (names_of answer)) answers lists

  one_spelled : (addr x : ℕ) (xs : List ℕ) (a : Answer) (rest_of : List Answer) (ls : List (List ℕ)) → AreSpelledBy (a ∷ rest_of) ls → (b : Bool) → nat_eq addr x ≡ b → (b || list_any (nat_eq addr) xs) ≡ true → f x ≡ Good a →
      ((ms : List (List ℕ)) → AreSpelledBy rest_of ms → list_any (nat_eq addr) xs ≡ true → Spells table (list_at xs ms addr) (names_from (f addr))) → Spells table (list_at (x ∷ xs) ls addr) (names_from (f addr))
  one_spelled addr x xs a rest_of [] zipped b is there e rest = absurd zipped
  one_spelled addr x xs a rest_of (l ∷ ls) zipped true is there e rest =
      let good : f addr ≡ Good a = ap f ((Decides-eqb addr x).0 is) ∙ e in
      subst (λ z. Spells table z (names_from (f addr))) (sym (list_here addr x xs l ls is)) (subst (λ p. Spells table l (names_from p)) (sym good) zipped.0)
  one_spelled addr x xs a rest_of (l ∷ ls) zipped false is there e rest = subst (λ z. Spells table z (names_from (f addr))) (sym (list_behind addr x xs l ls is)) (rest ls zipped.1 there)

  value_is : (x y : List Answer) → ◌≡◌ {A = Part (List Answer)} (Good x) (Good y) → x ≡ y
  value_is x y h = cc

  -- the list of an address that is among them spells the names of its answer
  pub address_spelled : (addrs : List ℕ) (answers : List Answer) (lists : List (List ℕ)) → all_good (map f addrs) ≡ Good answers → AreSpelledBy answers lists → (addr : ℕ) → list_any (nat_eq addr) addrs ≡ true → Spells table (list_at addrs lists addr) (names_from (f addr))
  address_spelled [] answers lists good zipped addr there = absurd cc
  address_spelled (x ∷ xs) answers lists good zipped addr there =
      let first = bind_good (f x) (λ y. all_good (map f xs) >>= λ ys. Good (y ∷ ys)) answers good in
      let others = bind_good (all_good (map f xs)) (λ ys. Good (first.0 ∷ ys)) answers first.2 in
      let are = value_is (first.0 ∷ others.0) answers others.2 in
      one_spelled addr x xs first.0 others.0 lists (subst (λ z. AreSpelledBy z lists) (sym are) zipped) (nat_eq addr x) refl there first.1 (λ ms zip h. address_spelled xs others.0 ms others.1 zip addr h)
