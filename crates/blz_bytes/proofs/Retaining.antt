-- Pairs that are gone over one after another, each kept or taken out.
use Rattle.std.proofs.Common.{◌≡◌, ℕ, zero, suc, ◌+◌, ◌<◌, ◌≤◌, Bool, true, false, List, [], ◌∷◌, ◌++◌, length, get_or, take, drop, refl, sym, ap, subst, ◌∙◌, append_assoc, arith, inl, inr}
use Rattle.std.specs.List.{IsDistinct, AllByRecursion, remove}
use Rattle.std.specs.Map.{keys_of}
use Rattle.std.proofs.lemmas.List.{append-nil, length-take-le, take_all}
use Rattle.std.proofs.Math.ListN.{drop_of_length-le}
use Rattle.std.proofs.Math.Seq.{take-suc, drop-cons}
use Rattle.blz_bytes.specs.Inserted.{Retains}

-- what was gone over is settled, whatever comes of the rest
abbrev pub SettledTo : {K V : Type 0} → (K → V → Bool → Type 0) → List (K × V) → List (K × V) → ℕ → Type 0
SettledTo {K = K} {V = V} says old now i = (rest : List (K × V)) → Retains says (drop i now) rest → Retains says old (take i now ++ rest)

cell : {X : Type 0} (xs : List X) (i : ℕ) (d : X) → i < length xs → drop i xs ≡ get_or xs i d ∷ drop (i + 1) xs
cell xs i d lt = let e : i + 1 ≡ suc i = omega arith in rw e (drop-cons xs i d lt)

pub kept : {K V : Type 0} (says : K → V → Bool → Type 0) (old now : List (K × V)) (i : ℕ) (d : K × V) → i < length now → says (get_or now i d).0 (get_or now i d).1 true → SettledTo says old now i → SettledTo says old now (i + 1)
kept {K = K} {V = V} says old now i d lt holds so_far rest h =
    let e = get_or now i d in
    let more : Retains says (drop i now) (e ∷ rest) = rw (cell now i d lt) (inl (rest, holds, h, refl)) in
    let step : i + 1 ≡ suc i = omega arith in
    let joined : take i now ++ e ∷ rest ≡ take (i + 1) now ++ rest = sym (rw (step, take-suc now i d lt) (append_assoc (take i now) (e ∷ []) rest)) in
    subst (λ (xs : List (K × V)). Retains says old xs) joined (so_far (e ∷ rest) more)

drop_front : {X : Type 0} (xs ys : List X) (i : ℕ) → length xs ≡ i → drop i (xs ++ ys) ≡ ys
drop_front [] ys i e = rw (← e) refl
drop_front (x ∷ xs) ys zero e = absurd (omega arith)
drop_front (x ∷ xs) ys (suc i) e = drop_front xs ys i (omega arith)

take_front : {X : Type 0} (xs ys : List X) (i : ℕ) → length xs ≡ i → take i (xs ++ ys) ≡ xs
take_front [] ys i e = rw (← e) refl
take_front (x ∷ xs) ys zero e = absurd (omega arith)
take_front {X = X} (x ∷ xs) ys (suc i) e = ap (λ (zs : List X). x ∷ zs) (take_front xs ys i (omega arith))

pub taken_out : {K V : Type 0} (says : K → V → Bool → Type 0) (old now : List (K × V)) (i : ℕ) (d : K × V) → i < length now → says (get_or now i d).0 (get_or now i d).1 false → SettledTo says old now i → SettledTo says old (remove now i) i
taken_out {K = K} {V = V} says old now i d lt fails so_far rest h =
    let len = length-take-le i now (omega arith) in
    let step : suc i ≡ i + 1 = omega arith in
    let behind : drop i (remove now i) ≡ drop (i + 1) now = drop_front (take i now) (drop (suc i) now) i len ∙ ap (λ (k : ℕ). drop k now) step in
    let before : take i (remove now i) ≡ take i now = take_front (take i now) (drop (suc i) now) i len in
    let rest_is = subst (λ (xs : List (K × V)). Retains says xs rest) behind h in
    let more : Retains says (drop i now) rest = rw (cell now i d lt) (inr (fails, rest_is)) in
    rw before (so_far rest more)

pub settled : {K V : Type 0} (says : K → V → Bool → Type 0) (old now : List (K × V)) (i : ℕ) → length now ≤ i → SettledTo says old now i → Retains says old now
settled {K = K} {V = V} says old now i le so_far =
    let none : Retains says (drop i now) [] = rw (drop_of_length-le now le) refl in
    let all : take i now ++ [] ≡ now = append-nil (take i now) ∙ take_all i now le in
    subst (λ (xs : List (K × V)). Retains says old xs) all (so_far [] none)

all_removed : {K V : Type 0} (P : K → Type 0) (pairs : List (K × V)) (i : ℕ) → AllByRecursion P (keys_of pairs) → AllByRecursion P (keys_of (remove pairs i))
all_removed P [] zero all = all
all_removed P [] (suc i) all = all
all_removed P (e ∷ es) zero all = all.1
all_removed P (e ∷ es) (suc i) all = (all.0, all_removed P es i all.1)

pub distinct_removed : {K V : Type 0} (eq : K → K → Bool) (pairs : List (K × V)) (i : ℕ) → IsDistinct eq (keys_of pairs) → IsDistinct eq (keys_of (remove pairs i))
unfolding IsDistinct
distinct_removed eq [] zero differ = differ
distinct_removed eq [] (suc i) differ = differ
distinct_removed eq (e ∷ es) zero differ = differ.1
distinct_removed eq (e ∷ es) (suc i) differ = (all_removed (λ k. eq e.0 k ≡ false) es i differ.0, distinct_removed eq es i differ.1)
