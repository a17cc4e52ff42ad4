-- What holds of each value of a map holds of no values, and of one more.
use Rattle.std.proofs.Common.{◌≡◌, ◌⊎◌, ℕ, false, Ordering, Less, Equal, Greater, Some, None, refl, subst, inl, inr}
use Rattle.std.specs.Prelude.{IfSome}
use Rattle.std.specs.BTreeMap.{BTreeMap, get, IsEmpty, Updates}
use Rattle.std.specs.Ordering.{nat_cmp, is_eq}
use Rattle.std.proofs.lemmas.Map.Lookups.{CmpEqualImpliesEq, exact_pairs, exact_unsigned}
use Rattle.blz_units.specs.Sharing.{table_cmp}

none_kept : {K V : Type 0} (cmp : K → K → Ordering) (m : BTreeMap K V) (key : K) → IsEmpty m → get cmp m key ≡ None
none_kept cmp m key e = rw e refl

pub if_empty : {K V : Type 0} (cmp : K → K → Ordering) (m : BTreeMap K V) (P : K → V → Type 0) → IsEmpty m → (key : K) → IfSome (get cmp m key) (P key)
if_empty cmp m P e key = rw (none_kept cmp m key e) tt

-- ---- keys are one, or compare as two

abbrev Apart : {K : Type 0} → (K → K → Ordering) → K → K → Type 0
Apart cmp x y = (x ≡ y) ⊎ (is_eq (cmp x y) ≡ false)

apart_by : {K : Type 0} (cmp : K → K → Ordering) (x y : K) (o : Ordering) → cmp x y ≡ o → (o ≡ Equal → x ≡ y) → Apart cmp x y
apart_by cmp x y Less e h = inr (rw e refl)
apart_by cmp x y Equal e h = inl (h refl)
apart_by cmp x y Greater e h = inr (rw e refl)

-- ---- one more of which the same holds

module _ {K V : Type 0} (cmp : K → K → Ordering) (exact : CmpEqualImpliesEq cmp) (old new : BTreeMap K V) (key : K) (v : V) (P : K → V → Type 0) where
  pub more_kept : Updates cmp old new key (Some v) → P key v → ((k : K) → IfSome (get cmp old k) (P k)) → (k : K) → IfSome (get cmp new k) (P k)
  more_kept u here told k = elim (apart_by cmp key k (cmp key k) refl (exact key k)) [
    | inl same ↦ let Q : K → Type 0 = λ x. IfSome (get cmp new x) (P x) in subst Q same (rw u.1 here)
    | inr ne ↦ rw (u.2 k ne) (told k)
  ]

module _ {V : Type 0} (old new : BTreeMap ℕ V) (key : ℕ) (v : V) (P : ℕ → V → Type 0) where
  pub number_more : Updates nat_cmp old new key (Some v) → P key v → ((k : ℕ) → IfSome (get nat_cmp old k) (P k)) → (k : ℕ) → IfSome (get nat_cmp new k) (P k)
  number_more u here told = more_kept nat_cmp exact_unsigned old new key v P u here told

module _ {V : Type 0} (old new : BTreeMap (ℕ × ℕ) V) (key : ℕ × ℕ) (v : V) (P : ℕ × ℕ → V → Type 0) where
  pub pair_more : Updates table_cmp old new key (Some v) → P key v → ((k : ℕ × ℕ) → IfSome (get table_cmp old k) (P k)) → (k : ℕ × ℕ) → IfSome (get table_cmp new k) (P k)
  pair_more u here told = more_kept table_cmp (exact_pairs nat_cmp nat_cmp exact_unsigned exact_unsigned) old new key v P u here told
