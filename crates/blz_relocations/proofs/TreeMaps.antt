-- A tree of keys that are numbers, seen as a finite map.
use Rattle.std.proofs.Common.{◌≡◌, ℕ, Bool, true, false, List, [], ◌∷◌, Option, Some, None, Bor, cond, refl, sym, ap, ◌∙◌}
use Rattle.std.specs.Option.{unwrap_or, option_copied, is_some}
use Rattle.std.specs.declared.cmp.Ordering.{Ordering}
use Rattle.std.specs.declared.cmp.Ordering.TheVariants.{Less, Equal, Greater}
use Rattle.std.specs.Ordering.{nat_cmp, eq_by_cmp, is_eq}
use Rattle.std.specs.Cmp.{nat_cmp_total, eq_by_cmp_equiv}
use Rattle.std.specs.Map.{lookup}
use Rattle.std.specs.BTreeMap.{is_at}
use Rattle.std.specs.FinMap.{find, from_entries, contains_key, get, insert, get-from_entries, get-insert, same_map, nat_cmp-IsAntisymmetric}

find-lookup : {X : Type 0} (q : ℕ) (es : List (ℕ × X)) → find nat_cmp q es ≡ lookup (is_at (nat_cmp q)) es
find-lookup q [] = refl
find-lookup q (e ∷ es) = ap (cond (eq_by_cmp nat_cmp q e.0) (Some e.1)) (find-lookup q es)

pub get-tree : {X : Type 0} (es : List (ℕ × X)) (q : ℕ) → get (from_entries {R = nat_cmp} es) q ≡ lookup (is_at (nat_cmp q)) es
get-tree es q = get-from_entries nat_cmp_total es q ∙ find-lookup q es

-- a key that is put into the tree is put into the map
pub insert-tree : {X : Type 0} (es fs : List (ℕ × X)) (k : ℕ) (v : X) → ((q : ℕ) → lookup (is_at (nat_cmp q)) fs ≡ cond (is_at (nat_cmp k) q) (Some v) (lookup (is_at (nat_cmp q)) es))
    → from_entries {R = nat_cmp} fs ≡ insert (from_entries es) k v
insert-tree {X = X} es fs k v updates = same_map nat_cmp_total nat_cmp-IsAntisymmetric _ _ (λ q.
    get-tree fs q ∙ updates q
    ∙ sym (get-insert nat_cmp_total (from_entries es) k v q
    ∙ ap (λ b. cond b (Some v) (get (from_entries {R = nat_cmp} es) q)) (sym ((eq_by_cmp_equiv nat_cmp_total).symm k q))
    ∙ ap (cond (eq_by_cmp nat_cmp k q) (Some v)) (get-tree es q)))

-- what a reference leads to, where there is none the other's
pub unwrap_or-copied : {X : Type 0} (o : Option (Bor X)) (other : Bor X) → (unwrap_or o other).now ≡ unwrap_or (option_copied o) other.now
unwrap_or-copied None other = refl
unwrap_or-copied (Some x) other = refl

-- a key that keeps its value
pub kept-tree : {X : Type 0} (es fs : List (ℕ × X)) (k : ℕ) (v : X) → Some v ≡ lookup (is_at (nat_cmp k)) es → ((q : ℕ) → lookup (is_at (nat_cmp q)) fs ≡ cond (is_at (nat_cmp k) q) (Some v) (lookup (is_at (nat_cmp q)) es))
    → from_entries {R = nat_cmp} fs ≡ from_entries es
kept-tree {X = X} es fs k v was updates = same_map nat_cmp_total nat_cmp-IsAntisymmetric _ _ (λ q.
    get-tree fs q ∙ updates q ∙ same_value q (nat_cmp k q) refl ∙ sym (get-tree es q))
  where
    same_value : (q : ℕ) (order : Ordering) → nat_cmp k q ≡ order → cond (is_eq order) (Some v) (lookup (is_at (nat_cmp q)) es) ≡ lookup (is_at (nat_cmp q)) es
    same_value q Less e = refl
    same_value q Greater e = refl
    same_value q Equal e = was ∙ ap (λ (n : ℕ). lookup (is_at (nat_cmp n)) es) (nat_cmp-IsAntisymmetric k q e)

-- a key that is put where there is none
pub absent-tree : {X : Type 0} (es fs : List (ℕ × X)) (k : ℕ) (v : X) → None ≡ lookup (is_at (nat_cmp k)) es → ((q : ℕ) → lookup (is_at (nat_cmp q)) fs ≡ cond (is_at (nat_cmp k) q) (Some v) (lookup (is_at (nat_cmp q)) es))
    → from_entries {R = nat_cmp} fs ≡ cond (contains_key (from_entries {R = nat_cmp} es) k) (from_entries es) (insert (from_entries es) k v)
absent-tree {X = X} es fs k v was updates =
    insert-tree es fs k v updates
    ∙ ap (λ (o : Option X). cond (is_some o) (from_entries {R = nat_cmp} es) (insert (from_entries es) k v)) (was ∙ sym (get-tree es k))

same_choice : {X : Type 0} (b : Bool) (x y z : X) → cond b x (cond b y z) ≡ cond b x z
same_choice true x y z = refl
same_choice false x y z = refl

-- a key that is put where there is one, and what was there put back
pub put_back-tree : {X : Type 0} (es fs gs : List (ℕ × X)) (k : ℕ) (v was : X) → Some was ≡ lookup (is_at (nat_cmp k)) es
    → ((q : ℕ) → lookup (is_at (nat_cmp q)) fs ≡ cond (is_at (nat_cmp k) q) (Some v) (lookup (is_at (nat_cmp q)) es))
    → ((q : ℕ) → lookup (is_at (nat_cmp q)) gs ≡ cond (is_at (nat_cmp k) q) (Some was) (lookup (is_at (nat_cmp q)) fs))
    → from_entries {R = nat_cmp} gs ≡ cond (contains_key (from_entries {R = nat_cmp} es) k) (from_entries es) (insert (from_entries es) k v)
put_back-tree {X = X} es fs gs k v was here first second =
    kept-tree es gs k was here (λ q. second q ∙ ap (cond (is_at (nat_cmp k) q) (Some was)) (first q) ∙ same_choice (is_at (nat_cmp k) q) (Some was) (Some v) (lookup (is_at (nat_cmp q)) es))
    ∙ ap (λ (o : Option X). cond (is_some o) (from_entries {R = nat_cmp} es) (insert (from_entries es) k v)) (here ∙ sym (get-tree es k))
