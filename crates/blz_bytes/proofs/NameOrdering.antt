-- The order of (bytes of the name, place) is one.
use Rattle.std.proofs.Common.{◌≡◌, ℕ, ◌<◌, true, false, List, arith, refl}
use Rattle.std.specs.Ordering.{is_gt, ordering_reverse}
use Rattle.std.specs.declared.cmp.Ordering.{Ordering}
use Rattle.std.specs.declared.cmp.Ordering.TheVariants.{Less, Equal, Greater}
use Rattle.std.proofs.lemmas.Bool.{ltb-true}
use Rattle.std.proofs.lemmas.Cmp.{upto, tied_itself, tied_back, nat_list_cmp_total}
use Rattle.blz_bytes.specs.declared.orders.NameSpan.{NameSpan}
use Rattle.blz_bytes.specs.NameOrder.{name_in, name_cmp, with_places, name_before, TextBefore, NameBefore}
use Rattle.blz_bytes.proofs.Accepted.{IsOrdering}

tells : (a b : List ℕ) (p q : ℕ) → with_places (name_cmp a b) p q ≡ true → TextBefore a p b q
tells a b p q h = by (name_cmp a b) refl h
  where
    by : (o : Ordering) → name_cmp a b ≡ o → with_places o p q ≡ true → TextBefore a p b q
    by Less e t = record { not_above = rw e refl; tie = λ f. absurd cc }
    by Equal e t = let lt = ltb-true p q t in record { not_above = rw e refl; tie = λ _. lt }
    by Greater e t = absurd cc

-- neither is above the other
level : (o r : Ordering) → is_gt o ≡ false → is_gt r ≡ false → o ≡ ordering_reverse r → o ≡ Equal
level Equal r up down e = refl
level Greater r up down e = absurd cc
level Less Less up down e = absurd cc
level Less Equal up down e = absurd cc
level Less Greater up down e = absurd cc

-- names of which neither is above the other
pub both_ways : (a b : List ℕ) → is_gt (name_cmp a b) ≡ false → is_gt (name_cmp b a) ≡ false → name_cmp a b ≡ Equal
both_ways a b up down = level (name_cmp a b) (name_cmp b a) up down (nat_list_cmp_total.antisymm a b)

across : (a b c : List ℕ) (p q r : ℕ) → TextBefore a p b q → TextBefore b q c r → TextBefore a p c r
across a b c p q r h k = record {
  not_above = upto nat_list_cmp_total a b c h.not_above k.not_above;
  tie = λ e.
      let back : is_gt (name_cmp c a) ≡ false = rw (tied_back nat_list_cmp_total a c e) refl in
      let first = both_ways a b h.not_above (upto nat_list_cmp_total b c a k.not_above back) in
      let second = both_ways b c k.not_above (upto nat_list_cmp_total c a b back h.not_above) in
      omega (arith, h.tie first, k.tie second);
}

pub names_are_ordered : (strs : List ℕ) (names : List NameSpan) → IsOrdering (name_before strs names) (NameBefore strs names)
names_are_ordered strs names = record {
  tells = λ p q. tells (name_in strs names p) (name_in strs names q) p q;
  across = λ p q r. across (name_in strs names p) (name_in strs names q) (name_in strs names r) p q r;
  differ = λ p b. let lt : p < p = b.tie (tied_itself nat_list_cmp_total (name_in strs names p)) in omega arith;
}
