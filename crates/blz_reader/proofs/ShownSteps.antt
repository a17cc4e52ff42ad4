-- Functions that are shown one after another.
use Rattle.std.proofs.Common.{◌≡◌, ℕ, ◌+◌, ◌<◌, Bool, true, List, [], ◌++◌, length, length-append, take, drop, get_or, Option, Some, None, sym, ap, subst, ◌∙◌, append_assoc, arith}
use Rattle.std.proofs.lemmas.List.{append-nil, map-append, map_more, take-append-drop}
use Rattle.blz_functions.specs.declared.functions.Function.{Function}
use Rattle.blz_reader.specs.ShownFunctions.{Numbered, ShowsMore, StopsWithin, one_shown}
use Rattle.blz_units.specs.UnitAnswers.{in_unit}

pub shows_none : (old : Option Numbered) → ShowsMore old old []
shows_none None = tt
shows_none (Some xs) = sym (append-nil xs)

-- more behind what was shown
pub shows_then : (old now new : Option Numbered) (xs ys : Numbered) → ShowsMore old now xs → ShowsMore now new ys → ShowsMore old new (xs ++ ys)
shows_then None None None xs ys h k = tt
shows_then None None (Some c) xs ys h k = absurd k
shows_then None (Some b) new xs ys h k = absurd h
shows_then (Some a) None None xs ys h k = tt
shows_then (Some a) None (Some c) xs ys h k = absurd k
shows_then (Some a) (Some b) None xs ys h k = tt
shows_then (Some a) (Some b) (Some c) xs ys h k = k ∙ (ap (λ (l : Numbered). l ++ ys) h ∙ append_assoc a xs ys)

-- one function more of a unit
pub shows_next : (unit : ℕ) (fs : List Function) (i : ℕ) (d : Function) (old now new : Option Numbered) → i < length fs → ShowsMore old now (in_unit unit (take i fs)) → ShowsMore now new (one_shown unit (get_or fs i d)) → ShowsMore old new (in_unit unit (take (i + 1) fs))
shows_next unit fs i d old now new lt h k =
    subst (ShowsMore old new) (sym (map_more (λ (f : Function). (unit, f)) fs i d lt)) (shows_then old now new (in_unit unit (take i fs)) (one_shown unit (get_or fs i d)) h k)

-- the visitor breaks there
pub stops_here : (unit : ℕ) (fs : List Function) (i : ℕ) (d : Function) (old now new : Option Numbered) (stopped : Bool) → i < length fs → stopped ≡ true → ShowsMore old now (in_unit unit (take i fs)) → ShowsMore now new (one_shown unit (get_or fs i d)) → StopsWithin (in_unit unit fs) old new stopped
stops_here unit fs i d old now new stopped lt st h k =
    let one : Numbered = one_shown unit (get_or fs i d) in
    let more = map_more (λ (f : Function). (unit, f)) fs i d lt in
    let long : length (in_unit unit (take (i + 1) fs)) ≡ length (in_unit unit (take i fs)) + 1 = ap length more ∙ length-append (in_unit unit (take i fs)) one in
    record {
      stops = st;
      front = in_unit unit (take (i + 1) fs);
      rest = in_unit unit (drop (i + 1) fs);
      some = omega (arith, long);
      split = sym (map-append (λ (f : Function). (unit, f)) (take (i + 1) fs) (drop (i + 1) fs)) ∙ ap (in_unit unit) (take-append-drop (i + 1) fs);
      shown = shows_next unit fs i d old now new lt h k;
    }
