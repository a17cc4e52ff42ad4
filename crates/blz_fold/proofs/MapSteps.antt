-- Lists that are made item by item, and read by index.
use Rattle.std.proofs.Common.{◌≡◌, ◌<◌, ◌+◌, ℕ, zero, suc, List, [], ◌∷◌, ◌++◌, length, map, take, get_or, slice_get, Option, Some, None, refl, sym, ap, ◌∙◌, arith, Bor}
use Rattle.std.specs.Option.{option_map, unwrap_or}
use Rattle.std.proofs.lemmas.List.{map_push, get_or-map, length-map, take-map}
use Rattle.blz_error.specs.Texts.{Bytes}
use Rattle.blz_fold.specs.Counted.{Counted, names_in}
use Rattle.blz_fold.specs.FoldedViews.{line_bytes}
use Rattle.blz_fold.specs.Numbered.{name_at, spelled}
use Rattle.blz_fold.specs.Trees.{line_names}
use Rattle.blz_fold.specs.declared.folded.FoldLine.{FoldLine}
use Rattle.blz_fold.proofs.SumLemmas.{map_map}

pub take_got : {A : Type 0} (xs : List A) (i : ℕ) (x : A) → slice_get xs i ≡ Some x → take (i + 1) xs ≡ take i xs ++ x ∷ []
take_got [] i x e = absurd cc
take_got (y ∷ ys) zero x e = ap (λ o. unwrap_or o y ∷ []) e
take_got (y ∷ ys) (suc i) x e = let s : suc i + 1 ≡ suc (i + 1) = omega arith in ap (λ n. take n (y ∷ ys)) s ∙ ap (λ z. y ∷ z) (take_got ys i x e)

-- a list that was made of the first items, made of one more
pub made_further : {A B C : Type 0} (f : A → C) (g : B → C) (done : List A) (x : A) (new : List A) (ys : List B) (i : ℕ) (y : B) → new ≡ done ++ x ∷ [] → map f done ≡ map g (take i ys) → slice_get ys i ≡ Some y → f x ≡ g y → map f new ≡ map g (take (i + 1) ys)
made_further f g done x new ys i y pushed so_far at same =
    ap (λ z. map f z) pushed ∙ map_push f done x ∙ (λ j. so_far j ++ same j ∷ []) ∙ sym (ap (λ z. map g z) (take_got ys i y at) ∙ map_push g (take i ys) y)

get_read : {A : Type 0} (xs : List A) (i : ℕ) (d x : A) → slice_get xs i ≡ Some x → get_or xs i d ≡ x
get_read [] i d x e = absurd cc
get_read (y ∷ ys) zero d x e = ap (λ o. unwrap_or o y) e
get_read (y ∷ ys) (suc i) d x e = get_read ys i d x e

get_none : {A : Type 0} (xs : List A) (i : ℕ) (d : A) → slice_get xs i ≡ None → get_or xs i d ≡ d
get_none [] i d e = refl
get_none (y ∷ ys) zero d e = absurd cc
get_none (y ∷ ys) (suc i) d e = get_none ys i d e

-- the name of a number, as it is read
pub name_read : (table : List Bytes) (n : ℕ) (o : Option (Bor (List ℕ))) (r d : Bor (List ℕ)) → option_map (λ k. k.now) o ≡ slice_get table n → r ≡ unwrap_or o d → d.now ≡ [] → r.now ≡ name_at table n
name_read table n (Some k) r d e is empty = ap (λ (b : Bor (List ℕ)). b.now) is ∙ sym (get_read table n [] k.now (sym e))
name_read table n None r d e is empty = ap (λ (b : Bor (List ℕ)). b.now) is ∙ empty ∙ sym (get_none table n [] (sym e))

-- the texts of a line
pub line_texts : (table : List Bytes) (lines : List FoldLine) (numbers : List (Counted ℕ)) → map line_bytes lines ≡ map (spelled table) numbers → (i : ℕ) (d : FoldLine) → i < length numbers → (get_or lines i d).names ≡ map (name_at table) (line_names numbers i)
line_texts table lines numbers same i d inside =
    let lengths : length lines ≡ length numbers = sym (length-map lines line_bytes) ∙ ap (λ (z : List (Counted Bytes)). length z) same ∙ length-map numbers (spelled table) in
    let e : Counted ℕ = record { names = []; count = 0 } in
    sym (get_or-map (λ (l : FoldLine). l.names) lines i d [] (omega (arith, lengths, inside)))
    ∙ ap (λ z. get_or z i []) (sym (map_map (λ (c : Counted Bytes). c.names) line_bytes lines) ∙ ap (λ z. map (λ (c : Counted Bytes). c.names) z) same ∙ map_map (λ (c : Counted Bytes). c.names) (spelled table) numbers)
    ∙ get_or-map (λ (c : Counted ℕ). map (name_at table) c.names) numbers i e [] inside
    ∙ ap (λ z. map (name_at table) z) (sym (get_or-map names_in numbers i e [] inside))

pub first_texts : (table : List Bytes) (len : ℕ) (texts : List Bytes) (numbers : List ℕ) → texts ≡ map (name_at table) numbers → take len texts ≡ map (name_at table) (take len numbers)
first_texts table len texts numbers same = ap (λ z. take len z) same ∙ take-map (name_at table) len numbers

-- a number that is no place of the table stands for no name
pub name_missing : (table : List Bytes) (n : ℕ) (o : Option (Bor (List ℕ))) → option_map (λ k. k.now) o ≡ slice_get table n → o ≡ None → name_at table n ≡ []
name_missing table n o e is = get_none table n [] (sym e ∙ ap (λ z. option_map (λ (k : Bor (List ℕ)). k.now) z) is)
