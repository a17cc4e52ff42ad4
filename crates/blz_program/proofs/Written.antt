-- What a loop of puts has written.
use Rattle.std.proofs.Common.{◌≡◌, ℕ, ◌-◌, ◌<◌, ◌≤◌, [], ◌∷◌, ◌++◌, length, take, drop, Option, Some, None, Result, Ok, Err, OnErr, refl, sym, ◌∙◌, ap, subst, arith, take-append-drop, length-append, length-drop}
use Rattle.std.proofs.lemmas.List.{append-nil, append_assoc, take_all}
use Rattle.std.specs.Io.KnownBytes.{Appends}
use Rattle.blz_error.specs.Texts.{Bytes}
use Rattle.blz_program.specs.Runs.{AppendsFront}

pub record Written (before now : Option Bytes) (text rest : Bytes) : Type 0 where
  pub front : Bytes
  pub parts : text ≡ front ++ rest
  pub appended : Appends before now front

pub appends_none : (a : Option Bytes) → Appends a a []
appends_none None = tt
appends_none (Some xs) = sym (append-nil xs)

pub appends_more : (a b c : Option Bytes) (xs ys : Bytes) → Appends a b xs → Appends b c ys → Appends a c (xs ++ ys)
appends_more None b c xs ys p q = tt
appends_more (Some u) None c xs ys p q = absurd p
appends_more (Some u) (Some v) None xs ys p q = absurd q
appends_more (Some u) (Some v) (Some w) xs ys p q = q ∙ ap (λ l. l ++ ys) p ∙ append_assoc u xs ys

pub started : (a : Option Bytes) (text : Bytes) → Written a a text text
started a text = record { front = []; parts = refl; appended = appends_none a }

pub goes_on : (a b c : Option Bytes) (text rest : Bytes) (n : ℕ) → Written a b text rest → n ≤ length rest → Appends b c (take n rest)
    → Written a c text (take (length rest - n) (drop n rest))
goes_on a b c text rest n w short more =
    let whole : take (length rest - n) (drop n rest) ≡ drop n rest = take_all (length rest - n) (drop n rest) (omega (arith, length-drop n rest)) in
    record {
      front = w.front ++ take n rest;
      parts = w.parts ∙ ap (λ l. w.front ++ l) (sym (take-append-drop n rest)) ∙ sym (append_assoc w.front (take n rest) (drop n rest)) ∙ ap (λ l. (w.front ++ take n rest) ++ l) (sym whole);
      appended = appends_more a b c w.front (take n rest) w.appended more;
    }

pub ended : (a b : Option Bytes) (text rest : Bytes) → Written a b text rest → length rest ≡ 0 → Appends a b text
ended a b text [] w none = subst (Appends a b) (sym (w.parts ∙ append-nil w.front)) w.appended
ended a b text (x ∷ rest) w none = absurd (omega arith)

pub stopped : (a b : Option Bytes) (text rest : Bytes) → Written a b text rest → 0 < length rest → AppendsFront a b text
stopped a b text rest w some = record { front = w.front; back = rest; parts = w.parts; is_proper = some; appended = w.appended }

-- a front behind what was written before is a front of the whole
pub front_behind : {T E : Type 0} (r : Result T E) (a b c : Option Bytes) (xs ys whole : Bytes) → Appends a b xs → OnErr r (AppendsFront b c ys) → xs ++ ys ≡ whole
    → OnErr r (AppendsFront a c whole)
front_behind (Ok x) a b c xs ys whole written f is = tt
front_behind (Err e) a b c xs ys whole written f is = record {
  front = xs ++ f.front;
  back = f.back;
  parts = sym is ∙ ap (λ l. xs ++ l) f.parts ∙ sym (append_assoc xs f.front f.back);
  is_proper = f.is_proper;
  appended = appends_more a b c xs f.front written f.appended;
}

-- a front of the first part is one of the whole
pub front_before : {T E : Type 0} (r : Result T E) (a b : Option Bytes) (xs ys whole : Bytes) → AppendsFront a b xs → xs ++ ys ≡ whole → OnErr r (AppendsFront a b whole)
front_before (Ok x) a b xs ys whole f is = tt
front_before (Err e) a b xs ys whole f is = record {
  front = f.front;
  back = f.back ++ ys;
  parts = sym is ∙ ap (λ l. l ++ ys) f.parts ∙ append_assoc f.front f.back ys;
  is_proper = omega (arith, f.is_proper, length-append f.back ys);
  appended = f.appended;
}

pub append_three : (a b c d : Bytes) → a ++ (b ++ c ++ d) ≡ a ++ b ++ c ++ d
append_three a b c d = sym (append_assoc a (b ++ c) d) ∙ ap (λ l. l ++ d) (sym (append_assoc a b c))

pub append_five : (a b c d e f : Bytes) → a ++ (b ++ c ++ d ++ e ++ f) ≡ a ++ b ++ c ++ d ++ e ++ f
append_five a b c d e f = append_three a (b ++ c ++ d) e f ∙ ap (λ l. l ++ e ++ f) (append_three a b c d)
