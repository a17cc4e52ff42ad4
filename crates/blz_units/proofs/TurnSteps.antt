-- The ranges that cover an address, one after the other.
use Rattle.std.proofs.Common.{◌≡◌, ℕ, zero, suc, ◌<◌, Bool, false, List, [], ◌∷◌, length, drop, Option, Some, None, refl, sym, ap, ◌∙◌, arith}
use Rattle.std.specs.List.{slice_get}
use Rattle.std.proofs.lemmas.Bool.{eq-eqb, ne_eqb}
use Rattle.blz_ranges.specs.declared.span.Span.{Span}
use Rattle.blz_units.specs.Announced.{Announcing, behind, is_first, places_left, turn_of, IsCovering, IsTurn}
use Rattle.blz_ranges.specs.Best.{best, next}
use Rattle.blz_ranges.specs.Owned.{Owned, items_of, owner_at}
use Rattle.blz_ranges.specs.Ranges.{OwnedRanges, owner_of}
use Rattle.blz_ranges.specs.Turns.{covering}
use Rattle.blz_ranges.specs.Owned.{owners_of}
use Rattle.blz_units.specs.declared.announced.announcers.Turn.{Turn}
use Rattle.blz_units.specs.declared.announced.announcers.Turn.TheVariants.{First, After, Over}
use Rattle.std.proofs.lemmas.List.{length-map}
use Rattle.blz_ranges.proofs.InTurn.{turns, once, covering_within}

-- ---- lists in which no number stands twice

abbrev AreOnce : List ℕ → Type 0
AreOnce places = (i j p : ℕ) → i < j → slice_get places i ≡ Some p → slice_get places j ≡ Some p → ⊥

behind_is : (places : List ℕ) (i p : ℕ) → AreOnce places → slice_get places i ≡ Some p → behind p places ≡ drop (suc i) places
behind_is [] i p are is = absurd cc
behind_is (q ∷ places) zero p are is = let same : q ≡ p = cc in let t = eq-eqb q p same in rw t refl
behind_is (q ∷ places) (suc i) p are is =
    let other : q ≡ p → ⊥ = λ same. are 0 (suc i) p (omega arith) (ap (λ (n : ℕ). Some n) same) is in
    let f = ne_eqb q p other in
    rw f (behind_is places i p (λ k j n lt a b. are (suc k) (suc j) n (omega arith) a b) is)

first_of_drop : (places : List ℕ) (n : ℕ) → slice_get (drop n places) 0 ≡ slice_get places n
first_of_drop [] zero = refl
first_of_drop [] (suc n) = refl
first_of_drop (q ∷ places) zero = refl
first_of_drop (q ∷ places) (suc n) = first_of_drop places n

drop_one : (places : List ℕ) (n : ℕ) → drop (suc n) places ≡ drop 1 (drop n places)
drop_one [] zero = refl
drop_one [] (suc n) = refl
drop_one (q ∷ places) zero = refl
drop_one (q ∷ places) (suc n) = drop_one places n

none_from : (places : List ℕ) → slice_get places 0 ≡ None → drop 1 places ≡ []
none_from [] e = refl
none_from (q ∷ places) e = absurd cc

-- ---- the place that is next

pub first_place : (ranges : List (Owned Span)) (a : ℕ) → best (items_of ranges) a ≡ slice_get (places_left ranges a First) 0
first_place ranges a = sym (turns (items_of ranges) a).first

left_behind : (ranges : List (Owned Span)) (a p : ℕ) (c : IsCovering ranges a p) → places_left ranges a (After p) ≡ drop (suc c.at) (covering (items_of ranges) a)
left_behind ranges a p c = behind_is (covering (items_of ranges) a) c.at p (once (items_of ranges) a) c.is

pub after_place : (ranges : List (Owned Span)) (a p : ℕ) → IsCovering ranges a p → next (items_of ranges) a p ≡ slice_get (places_left ranges a (After p)) 0
after_place ranges a p c =
    sym (ap (λ (l : List ℕ). slice_get l 0) (left_behind ranges a p c) ∙ first_of_drop (covering (items_of ranges) a) (suc c.at) ∙ (turns (items_of ranges) a).then_next c.at p c.is)

-- ---- the turn behind it

covering_at : (ranges : List (Owned Span)) (a i p : ℕ) → slice_get (covering (items_of ranges) a) i ≡ Some p → IsCovering ranges a p
covering_at ranges a i p is = record { within = let k = covering_within (items_of ranges) a i p is in let l = length-map ranges (λ (x : Owned Span). x.item) in omega arith; at = i; is = is }

-- the place of the list at which a turn stands
abbrev at_turn : (ranges : List (Owned Span)) (a : ℕ) (turn : Turn) → IsTurn ranges a turn → ℕ
at_turn ranges a First t = 0
at_turn ranges a (After p) t = suc t.at
at_turn ranges a Over t = length (covering (items_of ranges) a)

past_end : (places : List ℕ) → [] ≡ drop (length places) places
past_end [] = refl
past_end (q ∷ places) = past_end places

left_is : (ranges : List (Owned Span)) (a : ℕ) (turn : Turn) (t : IsTurn ranges a turn) → places_left ranges a turn ≡ drop (at_turn ranges a turn t) (covering (items_of ranges) a)
left_is ranges a First t = refl
left_is ranges a (After p) t = left_behind ranges a p t
left_is ranges a Over t = past_end (covering (items_of ranges) a)

stands : (ranges : List (Owned Span)) (a : ℕ) (turn : Turn) (t : IsTurn ranges a turn) (p : ℕ) → slice_get (places_left ranges a turn) 0 ≡ Some p → slice_get (covering (items_of ranges) a) (at_turn ranges a turn t) ≡ Some p
stands ranges a turn t p e = sym (first_of_drop (covering (items_of ranges) a) (at_turn ranges a turn t)) ∙ (ap (λ (l : List ℕ). slice_get l 0) (sym (left_is ranges a turn t)) ∙ e)

pub turn_kept : (ranges : List (Owned Span)) (a : ℕ) (turn : Turn) → IsTurn ranges a turn → (place : Option ℕ) → place ≡ slice_get (places_left ranges a turn) 0 → IsTurn ranges a (turn_of place)
turn_kept ranges a turn t None e = tt
turn_kept ranges a turn t (Some p) e = covering_at ranges a (at_turn ranges a turn t) p (stands ranges a turn t p (sym e))

places_behind : (ranges : List (Owned Span)) (a : ℕ) (turn : Turn) (t : IsTurn ranges a turn) (place : Option ℕ) → place ≡ slice_get (places_left ranges a turn) 0 → places_left ranges a (turn_of place) ≡ drop 1 (places_left ranges a turn)
places_behind ranges a turn t None e = sym (none_from (places_left ranges a turn) (sym e))
places_behind ranges a turn t (Some p) e =
    behind_is (covering (items_of ranges) a) (at_turn ranges a turn t) p (once (items_of ranges) a) (stands ranges a turn t p (sym e))
    ∙ drop_one (covering (items_of ranges) a) (at_turn ranges a turn t) ∙ ap (λ (l : List ℕ). drop 1 l) (sym (left_is ranges a turn t))

-- ---- the units of the places

owner_there : (ranges : List (Owned Span)) (p : ℕ) → p < length ranges → owner_at ranges p ≡ None → ⊥
owner_there [] p lt e = omega arith
owner_there (x ∷ ranges) zero lt e = cc
owner_there (x ∷ ranges) (suc p) lt e = owner_there ranges p (omega arith) e

record IsTaken (ranges : List (Owned Span)) (places : List ℕ) (place : Option ℕ) : Type 0 where
  pub unit : owner_of ranges place ≡ slice_get (owners_of ranges places) 0
  pub left : owners_of ranges (drop 1 places) ≡ drop 1 (owners_of ranges places)

owned_front : (ranges : List (Owned Span)) (p : ℕ) (rest : List ℕ) (o : Option ℕ) → owner_at ranges p ≡ o → (o ≡ None → ⊥) → IsTaken ranges (p ∷ rest) (Some p)
owned_front ranges p rest None e some = absurd (some refl)
owned_front ranges p rest (Some n) e some = record { unit = rw e refl; left = rw e refl }

taken : (ranges : List (Owned Span)) (places : List ℕ) → ((p : ℕ) → slice_get places 0 ≡ Some p → p < length ranges) → IsTaken ranges places (slice_get places 0)
taken ranges [] within = record { unit = refl; left = refl }
taken ranges (p ∷ rest) within = owned_front ranges p rest (owner_at ranges p) refl (owner_there ranges p (within p refl))

turn_taken : (ranges : List (Owned Span)) (a : ℕ) (turn : Turn) (t : IsTurn ranges a turn) → IsTaken ranges (places_left ranges a turn) (slice_get (places_left ranges a turn) 0)
turn_taken ranges a turn t = taken ranges (places_left ranges a turn) (λ p e. let c = covering_at ranges a (at_turn ranges a turn t) p (stands ranges a turn t p e) in c.within)

pub unit_next : (ranges : List (Owned Span)) (a : ℕ) (turn : Turn) (t : IsTurn ranges a turn) (place : Option ℕ) → place ≡ slice_get (places_left ranges a turn) 0 → owner_of ranges place ≡ slice_get (owners_of ranges (places_left ranges a turn)) 0
unit_next ranges a turn t place e = ap (λ o. owner_of ranges o) e ∙ (turn_taken ranges a turn t).unit

pub units_left : (ranges : List (Owned Span)) (a : ℕ) (turn : Turn) (t : IsTurn ranges a turn) (place : Option ℕ) → place ≡ slice_get (places_left ranges a turn) 0 → owners_of ranges (places_left ranges a (turn_of place)) ≡ drop 1 (owners_of ranges (places_left ranges a turn))
units_left ranges a turn t place e = ap (λ (l : List ℕ). owners_of ranges l) (places_behind ranges a turn t place e) ∙ (turn_taken ranges a turn t).left

-- ---- what a call leaves

not_first : (place : Option ℕ) → is_first (turn_of place) ≡ false
not_first None = refl
not_first (Some p) = refl

abbrev pub seen : OwnedRanges → ℕ → List ℕ → Bool → Announcing
seen ranges a left fresh = record { announced = ranges; address = a; left = left; fresh = fresh }

pub seen_behind : (r : OwnedRanges) (a : ℕ) (turn : Turn) (t : IsTurn r.ranges a turn) (place : Option ℕ) → place ≡ slice_get (places_left r.ranges a turn) 0 → seen r a (owners_of r.ranges (places_left r.ranges a (turn_of place))) (is_first (turn_of place)) ≡ seen r a (drop 1 (owners_of r.ranges (places_left r.ranges a turn))) false
seen_behind r a turn t place e =
    ap (λ (l : List ℕ). seen r a l (is_first (turn_of place))) (units_left r.ranges a turn t place e)
    ∙ ap (λ (b : Bool). seen r a (drop 1 (owners_of r.ranges (places_left r.ranges a turn))) b) (not_first place)
