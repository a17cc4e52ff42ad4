-- Numbers that stand for names, in a table that grows.
use Rattle.std.proofs.Common.{◌≡◌, ◌<◌, ℕ, zero, suc, ◌+◌, Bool, true, false, ◌||◌, List, [], ◌∷◌, ◌++◌, length, map, take, get_or, slice_get, Some, refl, sym, ap, subst, ◌∙◌, nat_eq, if◌then◌else◌, arith, append_assoc, Bor}
use Rattle.std.specs.Cmp.Lexicographic.{pointwise}
use Rattle.std.specs.Option.{option_map, unwrap_or}
use Rattle.std.specs.List.{AllZip, AllByRecursion, list_any}
use Rattle.std.specs.Str.{bytes_eq}
use Rattle.std.proofs.lemmas.List.{append-nil, take_more, map_push}
use Rattle.std.proofs.lemmas.Slice.Eq.{bytes_eq-Decides}
use Rattle.indexmap.specs.IndexSet.{insert_key}
use Rattle.blz_error.specs.Texts.{Bytes}
use Rattle.blz_fold.specs.Counted.{with_new}
use Rattle.blz_fold.specs.Numbered.{Spells, Grows, name_at}
use Rattle.blz_fold.proofs.Distinct.{distinct_push}

abbrev pub same_text : Bor (List ℕ) → Bor (List ℕ) → Bool
same_text x y = pointwise nat_eq x.now y.now

abbrev pub now_of : Bor (List ℕ) → List ℕ
now_of k = k.now

any_text : (name : List ℕ) (ks : List (Bor (List ℕ))) → list_any (bytes_eq name) (map now_of ks) ≡ list_any (λ k. pointwise nat_eq name k.now) ks
any_text name [] = refl
any_text name (k ∷ ks) = ap (λ b. bytes_eq name k.now || b) (any_text name ks)

texts_inserted : (ks : List (Bor (List ℕ))) (k : Bor (List ℕ)) → map now_of (insert_key same_text ks k) ≡ with_new bytes_eq (map now_of ks) k.now
texts_inserted ks k = by (list_any (same_text k) ks) ∙ ap (λ b. if b then map now_of ks else map now_of ks ++ k.now ∷ []) (sym (any_text k.now ks))
  where
    by : (b : Bool) → map now_of (if b then ks else ks ++ k ∷ []) ≡ (if b then map now_of ks else map now_of ks ++ k.now ∷ [])
    by true = refl
    by false = map_push now_of ks k

-- a table with a name more has grown
grown_by : (old : List Bytes) (name : Bytes) → Grows old (with_new bytes_eq old name)
grown_by old name = by (list_any (bytes_eq name) old) refl
  where
    by : (b : Bool) → list_any (bytes_eq name) old ≡ b → Grows old (if b then old else old ++ name ∷ [])
    by true there = record { more = []; behind = sym (append-nil old); apart = λ h. h }
    by false none = record { more = name ∷ []; behind = refl; apart = λ h. distinct_push bytes_eq bytes_eq-Decides old name h none }

pub table_grows : (ks new : List (Bor (List ℕ))) (k : Bor (List ℕ)) (old : List Bytes) (name : Bytes) → map now_of ks ≡ old → k.now ≡ name → new ≡ insert_key same_text ks k → Grows old (map now_of new)
table_grows ks new k old name are is inserted = rw (inserted, texts_inserted ks k, are, is) (grown_by old name)

pub grows_not : (table : List Bytes) → Grows table table
grows_not table = record { more = []; behind = sym (append-nil table); apart = λ h. h }

pub grows_on : (a b c : List Bytes) → Grows a b → Grows b c → Grows a c
grows_on a b c g h = record { more = g.more ++ h.more; behind = h.behind ∙ ap (λ z. z ++ h.more) g.behind ∙ append_assoc a g.more h.more; apart = λ d. h.apart (g.apart d) }

get_further : (old more : List Bytes) (n : ℕ) (name : Bytes) → slice_get old n ≡ Some name → slice_get (old ++ more) n ≡ Some name
get_further [] more n name e = absurd cc
get_further (x ∷ old) more zero name e = e
get_further (x ∷ old) more (suc n) name e = get_further old more n name e

spells_further : (old more : List Bytes) (numbers : List ℕ) (names : List Bytes) → Spells old numbers names → Spells (old ++ more) numbers names
spells_further old more [] [] s = tt
spells_further old more [] (m ∷ ms) s = absurd s
spells_further old more (n ∷ ns) [] s = absurd s
spells_further old more (n ∷ ns) (m ∷ ms) s = (get_further old more n m s.0, spells_further old more ns ms s.1)

-- what was spelled stays spelled
pub spells_grown : (old new : List Bytes) (numbers : List ℕ) (names : List Bytes) → Grows old new → Spells old numbers names → Spells new numbers names
spells_grown old new numbers names g s = rw (g.behind) (spells_further old g.more numbers names s)

pub zip_push : {A B : Type 0} (R : A → B → Type 0) (xs : List A) (ys : List B) (x : A) (y : B) → AllZip R xs ys → R x y → AllZip R (xs ++ x ∷ []) (ys ++ y ∷ [])
zip_push R [] [] x y all one = (one, tt)
zip_push R [] (b ∷ ys) x y all one = absurd all
zip_push R (a ∷ xs) [] x y all one = absurd all
zip_push R (a ∷ xs) (b ∷ ys) x y all one = (all.0, zip_push R xs ys x y all.1 one)

pub zip_weaker : {A B : Type 0} (R S : A → B → Type 0) → ((x : A) (y : B) → R x y → S x y) → (xs : List A) (ys : List B) → AllZip R xs ys → AllZip S xs ys
zip_weaker R S weaker [] [] all = tt
zip_weaker R S weaker [] (b ∷ ys) all = absurd all
zip_weaker R S weaker (a ∷ xs) [] all = absurd all
zip_weaker R S weaker (a ∷ xs) (b ∷ ys) all = (weaker a b all.0, zip_weaker R S weaker xs ys all.1)

pub spells_append : (table : List Bytes) (ns ms : List ℕ) (xs ys : List Bytes) → Spells table ns xs → Spells table ms ys → Spells table (ns ++ ms) (xs ++ ys)
spells_append table [] ms [] ys s t = t
spells_append table [] ms (x ∷ xs) ys s t = absurd s
spells_append table (n ∷ ns) ms [] ys s t = absurd s
spells_append table (n ∷ ns) ms (x ∷ xs) ys s t = (s.0, spells_append table ns ms xs ys s.1 t)

get_mapped : {A B : Type 0} (f : A → B) (xs : List A) (i : ℕ) (x : A) → slice_get xs i ≡ Some x → slice_get (map f xs) i ≡ Some (f x)
get_mapped f [] i x e = absurd cc
get_mapped f (y ∷ ys) zero x e = ap (λ o. option_map f o) e
get_mapped f (y ∷ ys) (suc i) x e = get_mapped f ys i x e

-- the number of a name that was put into the table stands for it
pub number_stands : (keys : List (Bor (List ℕ))) (number : ℕ) (k stored : Bor (List ℕ)) (name : Bytes) → k.now ≡ name → slice_get keys number ≡ Some stored → same_text k stored ≡ true → slice_get (map now_of keys) number ≡ Some name
number_stands keys number k stored name is at same = get_mapped now_of keys number stored at ∙ ap Some (sym ((bytes_eq-Decides k.now stored.now).0 same) ∙ is)

-- what numbers stand for, name by name
pub spells_names : (table : List Bytes) (numbers : List ℕ) (names : List Bytes) → Spells table numbers names → map (name_at table) numbers ≡ names
spells_names table [] [] s = refl
spells_names table [] (m ∷ ms) s = absurd s
spells_names table (n ∷ ns) [] s = absurd s
spells_names table (n ∷ ns) (m ∷ ms) s = λ i. read table n s.0 i ∷ spells_names table ns ms s.1 i
  where
    read : (t : List Bytes) (k : ℕ) → slice_get t k ≡ Some m → get_or t k [] ≡ m
    read [] k e = absurd cc
    read (x ∷ xs) zero e = ap (λ o. unwrap_or o []) e
    read (x ∷ xs) (suc k) e = read xs k e

pub spells_placed : (table : List Bytes) (numbers : List ℕ) (names : List Bytes) → Spells table numbers names → AllByRecursion (λ n. n < length table) numbers
spells_placed table [] names s = tt
spells_placed table (n ∷ ns) [] s = absurd s
spells_placed table (n ∷ ns) (m ∷ ms) s = (placed table n s.0, spells_placed table ns ms s.1)
  where
    placed : (t : List Bytes) (k : ℕ) → slice_get t k ≡ Some m → k < length t
    placed [] k e = absurd cc
    placed (x ∷ xs) zero e = omega arith
    placed (x ∷ xs) (suc k) e = omega (arith, placed xs k e)

pub zip_more : {A B : Type 0} (R : A → B → Type 0) (xs : List A) (i : ℕ) (x : A) (ys : List B) (y : B) → i < length xs → x ≡ get_or xs i x → AllZip R (take i xs) ys → R x y → AllZip R (take (i + 1) xs) (ys ++ y ∷ [])
zip_more R xs i x ys y lt is all one = subst (λ z. AllZip R z (ys ++ y ∷ [])) (sym (take_more xs i x lt ∙ ap (λ z. take i xs ++ z ∷ []) (sym is))) (zip_push R (take i xs) ys x y all one)
