-- The steps of a loop that chooses calls by their numbers.
use Rattle.std.proofs.Common.{◌≡◌, ℕ, suc, ◌+◌, ◌<◌, ◌≤◌, List, [], ◌∷◌, ◌++◌, length, drop, get_or, Option, Some, None, refl, sym, ap, ◌∙◌, arith, drop-cons, append_assoc}
use Rattle.std.specs.List.{slice_get}
use Rattle.std.specs.Option.{option_map}
use Rattle.std.proofs.Math.ListN.{drop_of_length-le}
use Rattle.std.proofs.lemmas.List.{append-nil}
use Rattle.blz_functions.specs.declared.inlined_functions.InlinedFunction.{InlinedFunction}
use Rattle.blz_units.specs.UnitAnswers.{chosen}

-- further calls behind some
abbrev pub behind : List InlinedFunction → Option (List InlinedFunction) → Option (List InlinedFunction)
behind front others = option_map (λ (rest : List InlinedFunction). front ++ rest) others

regroup : (front : List InlinedFunction) (c : InlinedFunction) (o : Option (List InlinedFunction)) → behind front (option_map (λ (rest : List InlinedFunction). c ∷ rest) o) ≡ behind (front ++ c ∷ []) o
regroup front c None = refl
regroup front c (Some rest) = ap Some (sym (append_assoc front (c ∷ []) rest))

chosen_step : (calls : List InlinedFunction) (n : ℕ) (rest : List ℕ) (c : InlinedFunction) (o : Option (List InlinedFunction)) → slice_get calls n ≡ Some c → chosen calls rest ≡ o → chosen calls (n ∷ rest) ≡ option_map (λ (others : List InlinedFunction). c ∷ others) o
unfolding chosen
chosen_step calls n rest c None e h = rw (e, h) refl
chosen_step calls n rest c (Some others) e h = rw (e, h) refl

chosen_breaks : (calls : List InlinedFunction) (n : ℕ) (rest : List ℕ) → slice_get calls n ≡ None → chosen calls (n ∷ rest) ≡ None
unfolding chosen
chosen_breaks calls n rest e = rw e refl

chosen_end : (calls : List InlinedFunction) → chosen calls [] ≡ Some []
unfolding chosen
chosen_end calls = refl

pub start : (o : Option (List InlinedFunction)) → behind [] o ≡ o
start None = refl
start (Some rest) = refl

pub more : (calls : List InlinedFunction) (numbers : List ℕ) (i x : ℕ) (front : List InlinedFunction) (c : InlinedFunction) (total : Option (List InlinedFunction)) → i < length numbers → slice_get calls (get_or numbers i x) ≡ Some c → behind front (chosen calls (drop i numbers)) ≡ total → behind (front ++ c ∷ []) (chosen calls (drop (i + 1) numbers)) ≡ total
more calls numbers i x front c total lt e so_far =
    let k : i + 1 ≡ suc i = omega arith in
    let step = chosen_step calls (get_or numbers i x) (drop (suc i) numbers) c (chosen calls (drop (suc i) numbers)) e refl in
    rw k (sym (regroup front c (chosen calls (drop (suc i) numbers))) ∙ ap (behind front) (sym step) ∙ (rw (drop-cons numbers i x lt) at so_far))

pub none : (calls : List InlinedFunction) (numbers : List ℕ) (i x : ℕ) (front : List InlinedFunction) (total : Option (List InlinedFunction)) → i < length numbers → slice_get calls (get_or numbers i x) ≡ None → behind front (chosen calls (drop i numbers)) ≡ total → total ≡ None
none calls numbers i x front total lt e so_far =
    sym (rw (drop-cons numbers i x lt) at so_far) ∙ ap (behind front) (chosen_breaks calls (get_or numbers i x) (drop (suc i) numbers) e)

pub over : (calls : List InlinedFunction) (numbers : List ℕ) (i : ℕ) (front : List InlinedFunction) (total : Option (List InlinedFunction)) → length numbers ≤ i → behind front (chosen calls (drop i numbers)) ≡ total → total ≡ Some front
over calls numbers i front total le so_far =
    sym (rw (drop_of_length-le numbers {i = i} le) at so_far) ∙ ap (behind front) (chosen_end calls) ∙ ap Some (append-nil front)
