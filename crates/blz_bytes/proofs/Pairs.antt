-- Lists of pairs with different keys.
use Rattle.std.proofs.Common.{◌≡◌, Bool, true, false, cond, Option, Some, None, is_some, List, [], ◌∷◌, ◌++◌, refl, sym, ap, ◌∙◌}
use Rattle.std.specs.Cmp.{IsEquivalence}
use Rattle.std.specs.List.{IsDistinct, AllByRecursion}
use Rattle.std.specs.Map.{lookup, remove_entry, keys_of}
use Rattle.std.proofs.lemmas.Map.{lookup-remove_entry}
use Rattle.std.proofs.lemmas.Map.Keys.{IsDistinct-push}
use Rattle.std.proofs.lemmas.Map.Made.{is_some-lookup}

pub distinct_nil : {K V : Type 0} (eq : K → K → Bool) (pairs : List (K × V)) → pairs ≡ [] → IsDistinct eq (keys_of pairs)
unfolding IsDistinct
distinct_nil eq pairs e = rw e tt

keys_push : {K V : Type 0} (pairs : List (K × V)) (key : K) (value : V) → keys_of (pairs ++ (key, value) ∷ []) ≡ keys_of pairs ++ key ∷ []
keys_push [] key value = refl
keys_push (e ∷ es) key value = ap (λ (ks : List _). e.0 ∷ ks) (keys_push es key value)

pub distinct_push : {K V : Type 0} (eq : K → K → Bool) (pairs : List (K × V)) (key : K) (value : V) → IsEquivalence eq → IsDistinct eq (keys_of pairs) → lookup (eq key) pairs ≡ None → IsDistinct eq (keys_of (pairs ++ (key, value) ∷ []))
distinct_push eq pairs key value laws differ none =
    rw (keys_push pairs key value) (IsDistinct-push laws (keys_of pairs) key differ (sym (is_some-lookup (eq key) pairs) ∙ ap is_some none))

all_cond : {K V : Type 0} (P : K → Type 0) (b : Bool) (xs ys : List (K × V)) → AllByRecursion P (keys_of xs) → AllByRecursion P (keys_of ys) → AllByRecursion P (keys_of (cond b xs ys))
all_cond P true xs ys a b = a
all_cond P false xs ys a b = b

all_without : {K V : Type 0} (P : K → Type 0) (test : K → Bool) (pairs : List (K × V)) → AllByRecursion P (keys_of pairs) → AllByRecursion P (keys_of (remove_entry test pairs))
all_without P test [] all = all
all_without P test (e ∷ es) all = all_cond P (test e.0) es (e ∷ remove_entry test es) all.1 (all.0, all_without P test es all.1)

distinct_cond : {K V : Type 0} (eq : K → K → Bool) (b : Bool) (xs ys : List (K × V)) → IsDistinct eq (keys_of xs) → IsDistinct eq (keys_of ys) → IsDistinct eq (keys_of (cond b xs ys))
distinct_cond eq true xs ys a b = a
distinct_cond eq false xs ys a b = b

pub distinct_without : {K V : Type 0} (eq : K → K → Bool) (test : K → Bool) (pairs : List (K × V)) → IsDistinct eq (keys_of pairs) → IsDistinct eq (keys_of (remove_entry test pairs))
unfolding IsDistinct
distinct_without eq test [] differ = differ
distinct_without eq test (e ∷ es) differ =
    distinct_cond eq (test e.0) es (e ∷ remove_entry test es) differ.1 (all_without (λ k. eq e.0 k ≡ false) test es differ.0, distinct_without eq test es differ.1)

-- nothing is taken out where the key is not found
out_cond : {K V : Type 0} (b : Bool) (e : K × V) (es rest : List (K × V)) (below : Option V) → cond b (Some e.1) below ≡ None → (below ≡ None → rest ≡ es) → cond b es (e ∷ rest) ≡ e ∷ es
out_cond true e es rest below found same = absurd cc
out_cond {K = K} {V = V} false e es rest below found same = ap (λ (xs : List (K × V)). e ∷ xs) (same found)

pub none_out : {K V : Type 0} (test : K → Bool) (pairs : List (K × V)) → lookup test pairs ≡ None → remove_entry test pairs ≡ pairs
none_out test [] none = refl
none_out test (e ∷ es) none = out_cond (test e.0) e es (remove_entry test es) (lookup test es) none (none_out test es)

pub without : {K V : Type 0} (eq : K → K → Bool) (key q : K) (pairs : List (K × V)) → IsEquivalence eq → IsDistinct eq (keys_of pairs) → lookup (eq q) (remove_entry (eq key) pairs) ≡ cond (eq key q) None (lookup (eq q) pairs)
without eq key q pairs laws differ = lookup-remove_entry laws (eq key) (λ x y e. laws.congr key x y e) q pairs differ
