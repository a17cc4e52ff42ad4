-- Where the parent of a path ends: at a slash, or behind the root. So it is a text too, and shorter than the path.
use Rattle.std.proofs.Common.{◌≡◌, ◌<◌, ◌≤◌, ℕ, zero, suc, ◌+◌, ◌-◌, ◌⊎◌, inl, inr, Bool, true, false, cond, not, nat_eq, ◌&&◌, List, [], ◌∷◌, length, filter, take, get_or, Option, Some, None, refl, sym, ap, subst, ◌∙◌, arith}
use Rattle.std.specs.List.{last_or, onto_first, slice_split}
use Rattle.std.specs.Option.{option_map}
use Rattle.std.specs.Str.{IsCharBoundary, IsUtf8}
use Rattle.std.proofs.Math.Dec.{eqb-suc-zero}
use Rattle.std.proofs.lemmas.Bool.{cases_lt, eqb-true}
use Rattle.std.proofs.lemmas.List.{length-take-le}
use Rattle.std.proofs.lemmas.Str.{IsCharBoundary-after_ascii, IsCharBoundary-before_ascii, IsCharBoundary-start}
use Rattle.blz_bytes.specs.Joined.{slash}
use Rattle.blz_links.specs.Paths.{Piece, is_component, last_piece, length_before, parent_of, pieces_from, placed_from, without_slashes}

abbrev Each : (Piece → Type 0) → List Piece → Type 0
Each P [] = Unit {0}
Each P (p ∷ ps) = P p × Each P ps

each_mapped : (P Q : Piece → Type 0) → ((p : Piece) → P p → Q p) → (ps : List Piece) → Each P ps → Each Q ps
each_mapped P Q f [] e = tt
each_mapped P Q f (p ∷ ps) e = (f p e.0, each_mapped P Q f ps e.1)

-- ---- the parts that slashes divide

-- a part that is not the first: it lies behind a slash, and inside
record Behind (at : ℕ) (xs : List ℕ) (p : Piece) : Type 0 where
  later : at < p.offset
  slashed : get_or xs (p.offset - at - 1) 0 ≡ slash
  inside : p.offset + length p.text ≤ at + length xs

behind_one : (at x : ℕ) (xs : List ℕ) (p : Piece) → Behind (at + 1) xs p → Behind at (x ∷ xs) p
behind_one at x xs p b =
    let later = b.later in
    let inside = b.inside in
    let index : p.offset - at - 1 ≡ suc (p.offset - (at + 1) - 1) = omega arith in
    record { later = omega arith; slashed = ap (λ i. get_or (x ∷ xs) i 0) index ∙ b.slashed; inside = omega arith }

abbrev Parts : ℕ → List ℕ → List (List ℕ) → Type 0
Parts at xs [] = ⊥
Parts at xs (t ∷ ts) = (length t ≤ length xs) × Each (Behind at xs) (placed_from (at + length t + 1) ts)

parts_lie : (at : ℕ) (xs : List ℕ) → Parts at xs (slice_split (λ b. nat_eq b slash) xs)
unfolding placed_from
parts_lie at [] = (omega arith, tt)
parts_lie at (x ∷ xs) = by (nat_eq x slash) refl (slice_split (λ b. nat_eq b slash) xs) (parts_lie (at + 1) xs)
  where
    by : (t : Bool) → nat_eq x slash ≡ t → (ps : List (List ℕ)) → Parts (at + 1) xs ps → Parts at (x ∷ xs) (cond t ([] ∷ ps) (onto_first x ps))
    by t e [] h = absurd h
    by true e (t ∷ ts) h =
        let long = h.0 in
        let here : at + 1 ≡ at + 0 + 1 = omega arith in
        let first : get_or (x ∷ xs) (at + 0 + 1 - at - 1) 0 ≡ slash = ap (λ i. get_or (x ∷ xs) i 0) (let i : at + 0 + 1 - at - 1 ≡ 0 = omega arith in i) ∙ eqb-true x slash e in (
          omega arith,
          (
            record { later = omega arith; slashed = first; inside = omega arith },
            subst (λ k. Each (Behind at (x ∷ xs)) (placed_from (k + length t + 1) ts)) here (each_mapped (Behind (at + 1) xs) (Behind at (x ∷ xs)) (behind_one at x xs) (placed_from (at + 1 + length t + 1) ts) h.1),
          ),
        )
    by false e (t ∷ ts) h =
        let long = h.0 in
        let here : at + 1 + length t + 1 ≡ at + suc (length t) + 1 = omega arith in (
          omega arith,
          subst (λ k. Each (Behind at (x ∷ xs)) (placed_from k ts)) here (each_mapped (Behind (at + 1) xs) (Behind at (x ∷ xs)) (behind_one at x xs) (placed_from (at + 1 + length t + 1) ts) h.1),
        )

-- ---- the components of a path

pub record Placed (path : List ℕ) (p : Piece) : Type 0 where
  pub inside : p.offset + length p.text ≤ length path
  pub begins : (p.offset ≡ 0) ⊎ (get_or path (p.offset - 1) 0 ≡ slash)

behind_placed : (path : List ℕ) (p : Piece) → Behind 0 path p → Placed path p
behind_placed path p b =
    let inside = b.inside in
    record { inside = omega arith; begins = inr (ap (λ i. get_or path i 0) (let i : p.offset - 1 ≡ p.offset - 0 - 1 = omega arith in i) ∙ b.slashed) }

all_placed : (path : List ℕ) (ps : List (List ℕ)) → Parts 0 path ps → Each (Placed path) (placed_from 0 ps)
unfolding placed_from
all_placed path [] h = absurd h
all_placed path (t ∷ ts) h =
    let long = h.0 in
    (record { inside = omega arith; begins = inl refl }, each_mapped (Behind 0 path) (Placed path) (behind_placed path) (placed_from (0 + length t + 1) ts) h.1)

pub record IsIn (path : List ℕ) (p : Piece) : Type 0 where
  pub placed : Placed path p
  pub component : is_component p ≡ true

each_kept : (path : List ℕ) (ps : List Piece) → Each (Placed path) ps → Each (IsIn path) (filter is_component ps)
each_kept path [] e = tt
each_kept path (p ∷ ps) e = by (is_component p) refl (each_kept path ps e.1)
  where
    by : (t : Bool) → is_component p ≡ t → Each (IsIn path) (filter is_component ps) → Each (IsIn path) (cond t (p ∷ filter is_component ps) (filter is_component ps))
    by true c rest = (record { placed = e.0; component = c }, rest)
    by false c rest = rest

each_last : (P : Piece → Type 0) (ps : List Piece) (o : Option Piece) (p : Piece) → Each P ps → (o ≡ Some p → P p) → last_or o ps ≡ Some p → P p
each_last P [] o p e before last = before last
each_last P (q ∷ ps) o p e before last = each_last P ps (Some q) p e.1 (λ same. subst P (let it : q ≡ p = cc in it) e.0) last

pub last_piece_in : (path : List ℕ) (p : Piece) → last_piece path ≡ Some p → IsIn path p
last_piece_in path p last =
    each_last (IsIn path) (pieces_from 0 path) None p (each_kept path (placed_from 0 (slice_split (λ b. nat_eq b slash) path)) (all_placed path (slice_split (λ b. nat_eq b slash) path) (parts_lie 0 path))) (λ none. cc) last

component_text : (p : Piece) → is_component p ≡ true → 0 < length p.text
component_text p c = grind (arith, c)

-- ---- without the slashes at its end

without_slashes-le : (path : List ℕ) (n : ℕ) → without_slashes path n ≤ n
without_slashes-le path zero = omega arith
without_slashes-le path (suc n) = by (nat_eq (get_or path n 0) slash) (without_slashes-le path n)
  where
    by : (t : Bool) → without_slashes path n ≤ n → cond t (without_slashes path n) (suc n) ≤ suc n
    by true below = omega arith
    by false below = omega arith

-- what is cut off begins with a slash
without_slashes-cut : (path : List ℕ) (n : ℕ) → without_slashes path n < n → get_or path (without_slashes path n) 0 ≡ slash
without_slashes-cut path zero lt = absurd (let f : ⊥ = omega arith in f)
without_slashes-cut path (suc n) lt = by (nat_eq (get_or path n 0) slash) refl (cases_lt (without_slashes path n) n) (without_slashes-le path n) (without_slashes-cut path n) lt
  where
    by : (t : Bool) → nat_eq (get_or path n 0) slash ≡ t → (without_slashes path n < n) ⊎ (n ≤ without_slashes path n) → without_slashes path n ≤ n
        → (without_slashes path n < n → get_or path (without_slashes path n) 0 ≡ slash) → cond t (without_slashes path n) (suc n) < suc n → get_or path (cond t (without_slashes path n) (suc n)) 0 ≡ slash
    by true e (inl below) le earlier lt = earlier below
    by true e (inr whole) le earlier lt = ap (λ i. get_or path i 0) (let i : without_slashes path n ≡ n = omega arith in i) ∙ eqb-true (get_or path n 0) slash e
    by false e cut le earlier lt = absurd (let f : ⊥ = omega arith in f)

-- ---- where the parent ends

pub length_before-fits : (path : List ℕ) (p : Piece) → IsIn path p → length_before path p.offset < length path
length_before-fits path p i = by (nat_eq (without_slashes path p.offset) 0) (nat_eq p.offset 0) refl
  where
    filled : 0 < length p.text
    filled = component_text p i.component

    by : (s t : Bool) → nat_eq p.offset 0 ≡ t → cond (s && not t) 1 (without_slashes path p.offset) < length path
    by true true e = let le = without_slashes-le path p.offset in let inside = i.placed.inside in let f = filled in omega arith
    by true false e = let inside = i.placed.inside in let f = filled in let ne : 0 < p.offset = grind (arith, e) in omega arith
    by false t e = let le = without_slashes-le path p.offset in let inside = i.placed.inside in let f = filled in omega arith

-- It ends where a text may be cut.
pub length_before-boundary : (path : List ℕ) (p : Piece) → IsUtf8 path → IsIn path p → IsCharBoundary path (length_before path p.offset)
length_before-boundary path p utf8 i = at p.offset i.placed.begins (length_before-fits path p i)
  where
    small : (b : ℕ) → b ≡ slash → b < 128
    small b e = omega arith

    after : (n : ℕ) → without_slashes path (suc n) < suc n → (t : Bool) → nat_eq (without_slashes path (suc n)) 0 ≡ t → cond (t && true) 1 (without_slashes path (suc n)) < length path → IsCharBoundary path (cond (t && true) 1 (without_slashes path (suc n)))
    after n cut true e fits =
        let none : without_slashes path (suc n) ≡ 0 = eqb-true (without_slashes path (suc n)) 0 e in
        let root : get_or path 0 0 ≡ slash = ap (λ k. get_or path k 0) (sym none) ∙ without_slashes-cut path (suc n) cut in
        IsCharBoundary-after_ascii path 0 utf8 (omega arith) (small (get_or path 0 0) root)
    after n cut false e fits = IsCharBoundary-before_ascii path (without_slashes path (suc n)) fits (small (get_or path (without_slashes path (suc n)) 0) (without_slashes-cut path (suc n) cut))

    at : (offset : ℕ) → (offset ≡ 0) ⊎ (get_or path (offset - 1) 0 ≡ slash) → length_before path offset < length path → IsCharBoundary path (length_before path offset)
    at zero begins fits = IsCharBoundary-start path utf8
    at (suc n) (inl e) fits = absurd (let f : ⊥ = omega arith in f)
    at (suc n) (inr slashed) fits =
        let here : get_or path n 0 ≡ slash = ap (λ k. get_or path k 0) (let k : n ≡ suc n - 1 = omega arith in k) ∙ slashed in
        let less : without_slashes path (suc n) ≡ without_slashes path n = rw here refl in
        let le = without_slashes-le path n in
        let same : length_before path (suc n) ≡ cond (nat_eq (without_slashes path (suc n)) 0 && true) 1 (without_slashes path (suc n)) =
        ap (λ t. cond (nat_eq (without_slashes path (suc n)) 0 && not t) 1 (without_slashes path (suc n))) (eqb-suc-zero n) in
        subst (λ k. IsCharBoundary path k) (sym same) (after n (omega arith) (nat_eq (without_slashes path (suc n)) 0) refl (subst (λ k. k < length path) same fits))

-- A parent is shorter than its path.
pub parent_of-shorter : (path parent : List ℕ) → parent_of path ≡ Some parent → length parent < length path
unfolding parent_of
parent_of-shorter path parent e = by (last_piece path) refl e
  where
    by : (o : Option Piece) → last_piece path ≡ o → option_map (λ piece. take (length_before path piece.offset) path) o ≡ Some parent → length parent < length path
    by None last e = absurd (let f : ⊥ = cc in f)
    by (Some p) last e =
        let fits = length_before-fits path p (last_piece_in path p last) in
        let same : take (length_before path p.offset) path ≡ parent = cc in
        let long : length parent ≡ length_before path p.offset = ap length (sym same) ∙ length-take-le (length_before path p.offset) path (omega arith) in
        omega arith
