-- The items and the owners of a list of both.
use Rattle.std.proofs.Common.{◌≡◌, ℕ, zero, suc, ◌+◌, ◌*◌, ◌<◌, ◌≤◌, ◌-◌, subst, length-append, List, [], ◌∷◌, ◌++◌, length, refl, ap, ◌∙◌, arith}
use Rattle.std.specs.List.{slice_get}
use Rattle.blz_ranges.specs.Owned.{Owned, owned, items_of, owner_at, repeated, filled_up, own_all}

pub items_owned : {A : Type 0} (items : List A) (owners : List ℕ) → length items ≡ length owners → items_of (owned items owners) ≡ items
items_owned [] owners e = refl
items_owned (x ∷ items) [] e = absurd (omega arith)
items_owned {A = A} (x ∷ items) (n ∷ owners) e = ap (λ (xs : List A). x ∷ xs) (items_owned items owners (omega arith))

pub owner_owned : {A : Type 0} (items : List A) (owners : List ℕ) (place : ℕ) → length items ≡ length owners → owner_at (owned items owners) place ≡ slice_get owners place
owner_owned [] [] place e = refl
owner_owned [] (n ∷ owners) place e = absurd (omega arith)
owner_owned (x ∷ items) [] place e = absurd (omega arith)
owner_owned (x ∷ items) (n ∷ owners) zero e = refl
owner_owned (x ∷ items) (n ∷ owners) (suc place) e = owner_owned items owners place (omega arith)

pub length_owned : {A : Type 0} (items : List A) (owners : List ℕ) → length items ≡ length owners → length (owned items owners) ≡ length items
length_owned [] owners e = refl
length_owned (x ∷ items) [] e = absurd (omega arith)
length_owned (x ∷ items) (n ∷ owners) e = ap suc (length_owned items owners (omega arith))

pub within_owned : {A : Type 0} (items : List A) (owners : List ℕ) (list : List (Owned A)) (place : ℕ) → length items ≡ length owners → owned items owners ≡ list → place < length list → place < length items
within_owned items owners list place e v h = let k = length_owned items owners e in let l = ap length v in omega arith

-- a bound that was proved of the items
pub cost_owned : {A : Type 0} (Holds : List A → Type 0) (items : List A) (owners : List ℕ) (cost : ℕ) → length items ≡ length owners → Holds (items_of (owned items owners)) → (Holds items → cost ≤ 4 * (2 * length items + 1)) → cost ≤ 4 * (2 * length (owned items owners) + 1)
cost_owned Holds items owners cost e holds h =
    let k = h (subst Holds (items_owned items owners e) holds) in
    let l = length_owned items owners e in
    omega arith

append_owned : {A : Type 0} (items new : List A) (owners more : List ℕ) → length items ≡ length owners → owned (items ++ new) (owners ++ more) ≡ owned items owners ++ owned new more
append_owned [] new [] more e = refl
append_owned [] new (n ∷ owners) more e = absurd (omega arith)
append_owned (x ∷ items) new [] more e = absurd (omega arith)
append_owned {A = A} (x ∷ items) new (n ∷ owners) more e = ap (λ (l : List (Owned A)). record { item = x; owner = n } ∷ l) (append_owned items new owners more (omega arith))

repeated_owned : {A : Type 0} (items : List A) (n count : ℕ) → count ≡ length items → owned items (repeated count n) ≡ own_all n items
repeated_owned [] n zero e = refl
repeated_owned [] n (suc count) e = absurd (omega arith)
repeated_owned (x ∷ items) n zero e = absurd (omega arith)
repeated_owned {A = A} (x ∷ items) n (suc count) e = ap (λ (l : List (Owned A)). record { item = x; owner = n } ∷ l) (repeated_owned items n count (omega arith))

-- new items, all of one owner
pub owned_more : {A : Type 0} (items new : List A) (owners : List ℕ) (n count : ℕ) → length items ≡ length owners → count ≡ length (items ++ new) → owned (items ++ new) (filled_up owners n count) ≡ owned items owners ++ own_all n new
owned_more {A = A} items new owners n count e c =
    let k = length-append items new in
    append_owned items new owners (repeated (count - length owners) n) e ∙ ap (λ (l : List (Owned A)). owned items owners ++ l) (repeated_owned new n (count - length owners) (omega arith))

length_repeated : (count n : ℕ) → length (repeated count n) ≡ count
length_repeated zero n = refl
length_repeated (suc count) n = ap suc (length_repeated count n)

pub length_filled : (owners : List ℕ) (n count : ℕ) → length owners ≤ count → length (filled_up owners n count) ≡ count
length_filled owners n count le = let a = length-append owners (repeated (count - length owners) n) in let b = length_repeated (count - length owners) n in omega arith
