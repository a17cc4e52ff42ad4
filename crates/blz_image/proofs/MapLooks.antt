-- What a map holds at a key, after another was put.
use Rattle.std.proofs.Common.{◌≡◌, ℕ, ◌==◌, Bool, true, false, cond, Option, Some, None, refl, sym, ap, ◌∙◌, eqb-true, eq-eqb}
use Rattle.std.proofs.lemmas.Bool.{eqb-false, ne_eqb}
use Rattle.std.specs.Cmp.{nat_cmp_total, unsigned_tied}
use Rattle.std.specs.FinMap.{FinMap, empty, get, insert, get-insert}
use Rattle.std.specs.Option.{unwrap_or}
use Rattle.std.specs.Ordering.{nat_cmp}
use Rattle.blz_relocations.specs.declared.relocation.Relocation.{Relocation}
use Rattle.blz_relocations.specs.Relocations.{OffsetMap, SectionMap, section_map, with_absent, with_relocation}

-- the first of two that is there
abbrev pub first : {X : Type 0} → Option X → Option X → Option X
first None later = later
first (Some x) later = Some x

pub first-none : {X : Type 0} (o : Option X) → first o None ≡ o
first-none None = refl
first-none (Some x) = refl

pub first-first : {X : Type 0} (a b c : Option X) → first (first a b) c ≡ first a (first b c)
first-first None b c = refl
first-first (Some x) b c = refl

-- what a key with a value gives at another
abbrev pub given : {X : Type 0} → ℕ → X → ℕ → Option X
given k v q = cond (q == k) (Some v) None

given_first : {X : Type 0} (b : Bool) (v : X) (o : Option X) → cond b (Some v) o ≡ first (cond b (Some v) None) o
given_first true v o = refl
given_first false v o = refl

get-insert-by_eq : {X : Type 0} (m : FinMap nat_cmp X) (k : ℕ) (v : X) (q : ℕ) → get (insert m k v) q ≡ cond (q == k) (Some v) (get m q)
get-insert-by_eq {X = X} m k v q = get-insert nat_cmp_total m k v q ∙ ap (λ (b : Bool). cond b (Some v) (get m q)) (unsigned_tied q k)

pub get-insert-first : {X : Type 0} (m : FinMap nat_cmp X) (k : ℕ) (v : X) (q : ℕ) → get (insert m k v) q ≡ first (given k v q) (get m q)
get-insert-first m k v q = get-insert-by_eq m k v q ∙ given_first (q == k) v (get m q)

-- put where there is none, it comes last
pub get-with_absent : (m : OffsetMap) (k : ℕ) (v : Relocation) (q : ℕ) → get (with_absent m k v) q ≡ first (get m q) (given k v q)
get-with_absent m k v q = by (get m k) refl (q == k) refl
  where
    by : (o : Option Relocation) → get m k ≡ o → (b : Bool) → (q == k) ≡ b → get (with_absent m k v) q ≡ first (get m q) (given k v q)
    by (Some x) here false e = rw (here, e) (sym (first-none (get m q)))
    by (Some x) here true e =
        let same : get m q ≡ Some x = ap (get m) (eqb-true q k e) ∙ here in
        rw (here, e, same) refl
    by None here false e = rw here (get-insert-by_eq m k v q ∙ rw e (sym (first-none (get m q))))
    by None here true e =
        let same : get m q ≡ None = ap (get m) (eqb-true q k e) ∙ here in
        rw here (get-insert-by_eq m k v q ∙ rw (e, same) refl)

-- the map of a section, after a relocation of another one or its own
pub section_map-with_relocation : (all : SectionMap) (s t k : ℕ) (r : Relocation) → section_map (with_relocation all s k r) t ≡ cond (s == t) (insert (section_map all t) k r) (section_map all t)
section_map-with_relocation all s t k r =
    ap (λ (o : Option OffsetMap). unwrap_or o empty) (get-insert-by_eq all s (insert (section_map all s) k r) t) ∙ by (s == t) refl
  where
    by : (b : Bool) → (s == t) ≡ b → unwrap_or (cond (t == s) (Some (insert (section_map all s) k r)) (get all t)) empty ≡ cond (s == t) (insert (section_map all t) k r) (section_map all t)
    by true e =
        let same = eqb-true s t e in
        let back : (t == s) ≡ true = eq-eqb t s (sym same) in
        rw (e, back) (ap (λ (n : ℕ). insert (section_map all n) k r) same)
    by false e =
        let back : (t == s) ≡ false = ne_eqb t s (λ p. eqb-false s t e (sym p)) in
        rw (e, back) refl
