-- A path and a name that are compared from their ends.
use Rattle.std.proofs.Common.{◌≡◌, ◌≢◌, ◌⊎◌, ℕ, zero, suc, ◌+◌, ◌-◌, ◌<◌, Bool, true, false, ◌&&◌, ◌||◌, not, eqb, List, [], ◌∷◌, ◌++◌, length, drop, reverse, get_or, Option, Some, None, refl, sym, ap, subst, ◌∙◌, inl, inr, arith, add-one, slice_get}
use Rattle.std.specs.List.{ends_with}
use Rattle.std.specs.Option.{option_eq}
use Rattle.std.specs.Str.{bytes_eq}
use Rattle.std.proofs.Math.Seq.{drop-nil}
use Rattle.std.proofs.lemmas.Bool.Decides.{Decides-eqb}
use Rattle.std.proofs.lemmas.List.{append_assoc, reverse-append, reverse-reverse, length-reverse, get_or-reverse}
use Rattle.std.proofs.lemmas.Slice.Eq.{bytes_eq-Decides, ends_is}
use Rattle.blz_bytes.specs.Joined.{slash}
use Rattle.blz_rows.specs.Matching.{matches}

-- the path goes on with the name, both from their ends, and the name reaches the path's begin or a `/`
abbrev pub reaches : List ℕ → List ℕ → Bool
reaches [] [] = true
reaches [] (x ∷ xs) = false
reaches (b ∷ path) [] = eqb b slash
reaches (b ∷ path) (x ∷ xs) = eqb b x && reaches path xs

-- ---- byte by byte

abbrev nothing : List ℕ
nothing = []

same_true : (n : ℕ) → eqb n n ≡ true
same_true n = (Decides-eqb n n).1 refl

other_false : (m n : ℕ) → m ≢ n → eqb m n ≡ false
other_false m n other = grind arith

reaches_step : (path name : List ℕ) (i : ℕ) → i < length name → slice_get path i ≡ Some (get_or name i 0) → reaches (drop (suc i) path) (drop (suc i) name) ≡ reaches (drop i path) (drop i name)
reaches_step path [] i lt e = absurd (omega arith)
reaches_step [] (x ∷ xs) i lt e = absurd cc
reaches_step (b ∷ path) (x ∷ xs) zero lt e =
    let same : b ≡ x = cc in rw (same, same_true x) refl
reaches_step (b ∷ path) (x ∷ xs) (suc i) lt e = reaches_step path xs i (omega arith) e

reaches_other : (path name : List ℕ) (i : ℕ) → i < length name → slice_get path i ≢ Some (get_or name i 0) → reaches (drop i path) (drop i name) ≡ false
reaches_other path [] i lt other = absurd (omega arith)
reaches_other [] (x ∷ xs) zero lt other = refl
reaches_other [] (x ∷ xs) (suc i) lt other =
    let none : drop i [] ≡ nothing = drop-nil i in
    rw (← none) (reaches_other [] xs i (omega arith) (λ e. absurd cc))
reaches_other (b ∷ path) (x ∷ xs) zero lt other =
    let differ : b ≢ x = λ same. other (ap (λ (n : ℕ). Some n) same) in
    rw (other_false b x differ) refl
reaches_other (b ∷ path) (x ∷ xs) (suc i) lt other = reaches_other path xs i (omega arith) other

abbrev pub is_end : Option ℕ → Bool
is_end None = true
is_end (Some b) = eqb b slash

reaches_end : (path name : List ℕ) → reaches (drop (length name) path) (drop (length name) name) ≡ is_end (slice_get path (length name))
reaches_end [] [] = refl
reaches_end (b ∷ path) [] = refl
reaches_end [] (x ∷ xs) =
    let none : drop (length xs) [] ≡ nothing = drop-nil (length xs) in
    rw (← none) (reaches_end [] xs)
reaches_end (b ∷ path) (x ∷ xs) = reaches_end path xs

-- ---- what it means

-- the path is the name, or ends in `/` and the name, both from their ends
reaches_either : (path name : List ℕ) → reaches path name ≡ true → (path ≡ name) ⊎ ((front : List ℕ) × (path ≡ name ++ slash ∷ front))
reaches_either [] [] e = inl refl
reaches_either [] (x ∷ xs) e = absurd cc
reaches_either (b ∷ path) [] e =
    let same : b ≡ slash = (Decides-eqb b slash).0 e in inr (path, ap (λ (n : ℕ). n ∷ path) same)
reaches_either (b ∷ path) (x ∷ xs) e = with_head b x path xs ((Decides-eqb b x).0 (and_left (eqb b x) (reaches path xs) e)) (reaches_either path xs (and_right (eqb b x) (reaches path xs) e))
  where
    and_left : (a b : Bool) → (a && b) ≡ true → a ≡ true
    and_left true b e = refl
    and_left false b e = absurd cc

    and_right : (a b : Bool) → (a && b) ≡ true → b ≡ true
    and_right true b e = e
    and_right false b e = absurd cc

    with_head : (b x : ℕ) (path xs : List ℕ) → b ≡ x → (path ≡ xs) ⊎ ((front : List ℕ) × (path ≡ xs ++ slash ∷ front))
        → (b ∷ path ≡ x ∷ xs) ⊎ ((front : List ℕ) × (b ∷ path ≡ x ∷ xs ++ slash ∷ front))
    with_head b x path xs same (inl e) = inl cc
    with_head b x path xs same (inr more) = inr (more.0, let e : path ≡ xs ++ slash ∷ more.0 = more.1 in cc)

reaches_whole : (name : List ℕ) → reaches name name ≡ true
reaches_whole [] = refl
reaches_whole (x ∷ xs) = rw (same_true x) (reaches_whole xs)

reaches_slash : (name front : List ℕ) → reaches (name ++ slash ∷ front) name ≡ true
reaches_slash [] front = refl
reaches_slash (x ∷ xs) front = rw (same_true x) (reaches_slash xs front)

-- the same of a path and a name from their begins
means : (path name : List ℕ) → matches path name ≡ true → (path ≡ name) ⊎ ((front : List ℕ) × (path ≡ front ++ slash ∷ name))
means path name e = either (bytes_eq path name) (ends_with eqb path (slash ∷ name)) e
    (λ same. inl ((bytes_eq-Decides path name).0 same))
    (λ ends. inr (_, (ends_is Decides-eqb path (slash ∷ name) _ refl).0 ends))
  where
    either : {P : Type 0} (a b : Bool) → (a || b) ≡ true → (a ≡ true → P) → (b ≡ true → P) → P
    either true b e f g = f refl
    either false b e f g = g e

meant_whole : (path name : List ℕ) → path ≡ name → matches path name ≡ true
meant_whole path name same = rw ((bytes_eq-Decides path name).1 same) refl

meant_end : (path name front : List ℕ) → path ≡ front ++ slash ∷ name → matches path name ≡ true
meant_end path name front e = last (bytes_eq path name) _ ((ends_is Decides-eqb path (slash ∷ name) _ refl).1 front e)
  where
    last : (a b : Bool) → b ≡ true → (a || b) ≡ true
    last true b e = refl
    last false b e = e

same_bool : (a b : Bool) → (a ≡ true → b ≡ true) → (b ≡ true → a ≡ true) → a ≡ b
same_bool true b f g = sym (f refl)
same_bool false true f g = g refl
same_bool false false f g = refl

turned : (path name front : List ℕ) → reverse path ≡ reverse name ++ slash ∷ front → path ≡ reverse front ++ slash ∷ name
turned path name front e =
    sym (reverse-reverse path) ∙ ap reverse e ∙ reverse-append (reverse name) (slash ∷ front)
    ∙ rw (reverse-reverse name, reverse-append (slash ∷ []) front) (append_assoc (reverse front) (slash ∷ []) name)

turned_back : (path name front : List ℕ) → path ≡ front ++ slash ∷ name → reverse path ≡ reverse name ++ slash ∷ reverse front
turned_back path name front e =
    ap reverse e ∙ reverse-append front (slash ∷ name) ∙ rw (reverse-append (slash ∷ []) name) (append_assoc (reverse name) (slash ∷ []) (reverse front))

from_ends : (path name : List ℕ) → (reverse path ≡ reverse name) ⊎ ((front : List ℕ) × (reverse path ≡ reverse name ++ slash ∷ front)) → matches path name ≡ true
from_ends path name (inl e) = meant_whole path name (sym (reverse-reverse path) ∙ ap reverse e ∙ reverse-reverse name)
from_ends path name (inr more) = meant_end path name (reverse more.0) (turned path name more.0 more.1)

to_ends : (path name : List ℕ) → (path ≡ name) ⊎ ((front : List ℕ) × (path ≡ front ++ slash ∷ name)) → reaches (reverse path) (reverse name) ≡ true
to_ends path name (inl e) = rw e (reaches_whole (reverse name))
to_ends path name (inr more) = rw (turned_back path name more.0 more.1) (reaches_slash (reverse name) (reverse more.0))

pub matches-reaches : (path name : List ℕ) → matches path name ≡ reaches (reverse path) (reverse name)
matches-reaches path name =
    same_bool (matches path name) (reaches (reverse path) (reverse name)) (λ e. to_ends path name (means path name e))
    (λ e. from_ends path name (reaches_either (reverse path) (reverse name) e))

-- ---- the loop over the bytes of the name

abbrev pub SoFar : List ℕ → List ℕ → ℕ → Type 0
SoFar path name i = reaches (drop i (reverse path)) (drop i (reverse name)) ≡ reaches (reverse path) (reverse name)

-- the byte of the name that has so many bytes behind it
byte_at : (name : List ℕ) (i : ℕ) → i < length name → get_or (reverse name) i 0 ≡ get_or name (length name - 1 - i) 0
byte_at name i lt = get_or-reverse name i 0 lt

within : (name : List ℕ) (i : ℕ) → i < length name → i < length (reverse name)
within name i lt = omega (arith, length-reverse name)

pub goes_on : (path name : List ℕ) (i : ℕ) → i < length name → slice_get (reverse path) i ≡ Some (get_or name (length name - 1 - i) 0)
    → SoFar path name i → SoFar path name (i + 1)
goes_on path name i lt e so_far =
    let same : slice_get (reverse path) i ≡ Some (get_or (reverse name) i 0) = e ∙ ap (λ (n : ℕ). Some n) (sym (byte_at name i lt)) in
    rw (add-one i) (reaches_step (reverse path) (reverse name) i (within name i lt) same ∙ so_far)

pub differs : (path name : List ℕ) (i : ℕ) → i < length name → slice_get (reverse path) i ≢ Some (get_or name (length name - 1 - i) 0)
    → SoFar path name i → false ≡ matches path name
differs path name i lt other so_far =
    let differ : slice_get (reverse path) i ≢ Some (get_or (reverse name) i 0) = λ e. other (e ∙ ap (λ (n : ℕ). Some n) (byte_at name i lt)) in
    sym (reaches_other (reverse path) (reverse name) i (within name i lt) differ) ∙ so_far ∙ sym (matches-reaches path name)

pub ends : (path name : List ℕ) {i : ℕ} → i ≡ length name → SoFar path name i → is_end (slice_get (reverse path) (length name)) ≡ matches path name
ends path name {i} e so_far =
    let P : ℕ → Type 0 = λ n. SoFar path name n in
    let Q : ℕ → Type 0 = λ n. reaches (drop n (reverse path)) (drop n (reverse name)) ≡ is_end (slice_get (reverse path) n) in
    sym (subst Q (length-reverse name) (reaches_end (reverse path) (reverse name))) ∙ subst P e so_far ∙ sym (matches-reaches path name)

-- what a test of two optional bytes told
pub other_option : (o p : Option ℕ) (n : ℕ) → o ≡ p → not (option_eq eqb o (Some n)) ≡ true → p ≢ Some n
other_option o p n e told same = from (o) (e ∙ same) told
  where
    refuted : (b : Bool) → b ≡ true → not b ≡ true → ⊥
    refuted true is told = cc
    refuted false is told = cc

    from : (o : Option ℕ) → o ≡ Some n → not (option_eq eqb o (Some n)) ≡ true → ⊥
    from o is told = let P : Option ℕ → Type 0 = λ o. not (option_eq eqb o (Some n)) ≡ true in refuted (eqb n n) (same_true n) (subst P is told)

pub same_option : (o p : Option ℕ) (n : ℕ) → o ≡ p → not (option_eq eqb o (Some n)) ≡ false → p ≡ Some n
same_option o p n e told = sym e ∙ from o told
  where
    kept : (b : Bool) → not b ≡ false → b ≡ true
    kept true told = refl
    kept false told = absurd cc

    from : (o : Option ℕ) → not (option_eq eqb o (Some n)) ≡ false → o ≡ Some n
    from None told = absurd cc
    from (Some m) told = ap (λ (k : ℕ). Some k) ((Decides-eqb m n).0 (kept (eqb m n) told))
