-- A text that is made piece by piece.
use Rattle.std.proofs.Common.{◌≡◌, ◌+◌, ℕ, suc, List, [], ◌∷◌, ◌++◌, length, map, take, slice_get, Some, refl, sym, ap, ◌∙◌, if◌then◌else◌, arith, append_assoc}
use Rattle.std.specs.List.{flat_map}
use Rattle.std.proofs.lemmas.Bool.Decides.{Decides-ltb}
use Rattle.std.proofs.lemmas.List.{append-nil, map_push}
use Rattle.blz_error.specs.Texts.{Bytes}
use Rattle.blz_fold.specs.FoldTexts.{names_text, separator}
use Rattle.blz_fold.proofs.Distinct.{flat_map-append}
use Rattle.blz_fold.proofs.MapSteps.{take_got}

-- the text of one more
pub printed_further : {A B : Type 0} (text : B → Bytes) (g : A → B) (xs : List A) (i : ℕ) (x : A) (old new : Bytes) → new ≡ old ++ text (g x) → old ≡ flat_map text (map g (take i xs)) → slice_get xs i ≡ Some x → new ≡ flat_map text (map g (take (i + 1) xs))
printed_further text g xs i x old new pushed so_far at =
    pushed ∙ ap (λ z. z ++ text (g x)) so_far
    ∙ sym (ap (λ z. flat_map text (map g z)) (take_got xs i x at) ∙ ap (λ z. flat_map text z) (map_push g (take i xs) x) ∙ flat_map-append text (map g (take i xs)) (g x ∷ []) ∙ ap (λ z. flat_map text (map g (take i xs)) ++ z) (append-nil (text (g x))))

some_before : (n : ℕ) → separator (suc n) ≡ 59 ∷ []
some_before n = ap (λ t. if t then 59 ∷ [] else []) ((Decides-ltb 0 (suc n)).1 (omega arith))

-- the text of names and one more
pub names_further : (names : List Bytes) (name : Bytes) → names_text (names ++ name ∷ []) ≡ (names_text names ++ separator (length names)) ++ name
names_further [] name = refl
names_further (x ∷ []) name = sym (append_assoc x (59 ∷ []) name) ∙ ap (λ z. (x ++ z) ++ name) (sym (some_before 0))
names_further (x ∷ y ∷ names) name =
    ap (λ z. x ++ (59 ∷ z)) (names_further (y ∷ names) name)
    ∙ ap (λ z. x ++ (59 ∷ ((names_text (y ∷ names) ++ z) ++ name))) (some_before (length names))
    ∙ ap (λ z. x ++ (59 ∷ z)) (append_assoc (names_text (y ∷ names)) (59 ∷ []) name)
    ∙ sym (append_assoc x (59 ∷ names_text (y ∷ names)) (59 ∷ name))
    ∙ sym (append_assoc (x ++ (59 ∷ names_text (y ∷ names))) (59 ∷ []) name)
    ∙ ap (λ z. ((x ++ (59 ∷ names_text (y ∷ names))) ++ z) ++ name) (sym (some_before (length (y ∷ names))))
