-- Where a file stands among those that are kept, and what is kept after it was put there.
use Rattle.std.proofs.Common.{◌≡◌, ◌≢◌, ◌⊎◌, inl, inr, ◌==◌, ◌<◌, ◌+◌, ℕ, zero, suc, Bool, true, false, ◌&&◌, [], ◌∷◌, ◌++◌, length, set, Some, None, refl, sym, ap, ◌∙◌, subst, arith, if◌then◌else◌}
use Rattle.std.specs.Bool.{beq}
use Rattle.std.specs.Cmp.{booleans_Decides, unsigned_Decides}
use Rattle.std.specs.List.{slice_get}
use Rattle.std.specs.Str.{bytes_eq}
use Rattle.std.proofs.lemmas.Bool.{and_parts}
use Rattle.std.proofs.lemmas.Slice.Eq.{bytes_eq-Decides}
use Rattle.blz_error.specs.Texts.{Bytes}
use Rattle.blz_links.specs.declared.files.stamp.Stamp.{Stamp}
use Rattle.blz_inspector.specs.Entries.{Asked, Opened, Entries, same_asked, same_stamp, kept_of, with_opened, AreOthers, IsFirst, IsStale, IsAt}

pub asked_is : (a b : Asked) → same_asked a b ≡ true → a ≡ b
asked_is a b e =
    let both = and_parts (bytes_eq a.path b.path) (beq a.debug_syms b.debug_syms) e in
    let p : a.path ≡ b.path = (bytes_eq-Decides a.path b.path).0 both.0 in
    let d : a.debug_syms ≡ b.debug_syms = (booleans_Decides a.debug_syms b.debug_syms).0 both.1 in
    ap (λ (x : Bytes). record { path = x; debug_syms = a.debug_syms }) p ∙ ap (λ (y : Bool). record { path = b.path; debug_syms = y }) d

pub same_itself : (a : Asked) → same_asked a a ≡ true
same_itself a = by (bytes_eq a.path a.path) (beq a.debug_syms a.debug_syms) ((bytes_eq-Decides a.path a.path).1 refl) ((booleans_Decides a.debug_syms a.debug_syms).1 refl)
  where
    by : (b c : Bool) → b ≡ true → c ≡ true → (b && c) ≡ true
    by b c is too = rw (is, too) refl

-- without the first entry
others_after : (a : Asked) (e : Asked × Opened) (es : Entries) (n : ℕ) → AreOthers a (e ∷ es) (suc n) → AreOthers a es n
others_after a e es n others k x lt is = others (suc k) x (omega arith) is

not_first : (a : Asked) (e : Asked × Opened) (es : Entries) (n : ℕ) → AreOthers a (e ∷ es) (suc n) → same_asked a e.0 ≡ false
not_first a e es n others = others 0 e (omega arith) refl

-- ---- what is kept of a file

pub kept_first : (a : Asked) (o : Opened) (es : Entries) (at : ℕ) → slice_get es at ≡ Some (a, o) → AreOthers a es at → kept_of a es ≡ Some o
kept_first a o [] at there before = absurd cc
kept_first a o (e ∷ es) zero there before = by e there
  where
    by : (e : Asked × Opened) → Some e ≡ Some (a, o) → (if same_asked a e.0 then Some e.1 else kept_of a es) ≡ Some o
    by e is = let same : e ≡ (a, o) = cc in rw same (rw (same_itself a) refl)
kept_first a o (e ∷ es) (suc at) there before = rw (not_first a e es at before) (kept_first a o es at there (others_after a e es at before))

pub kept_nowhere : (a : Asked) (es : Entries) → AreOthers a es (length es) → kept_of a es ≡ None
kept_nowhere a [] others = refl
kept_nowhere a (e ∷ es) others = rw (not_first a e es (length es) others) (kept_nowhere a es (others_after a e es (length es) others))

-- ---- a file in the place of what was kept

pub put_first : (a : Asked) (was o : Opened) (es : Entries) (at : ℕ) → slice_get es at ≡ Some (a, was) → AreOthers a es at → set es at (a, o) ≡ with_opened a o es
put_first a was o [] at there before = absurd cc
put_first a was o (e ∷ es) zero there before = by e there
  where
    by : (e : Asked × Opened) → Some e ≡ Some (a, was) → (a, o) ∷ es ≡ (if same_asked a e.0 then (a, o) ∷ es else e ∷ with_opened a o es)
    by e is = let same : e ≡ (a, was) = cc in rw same (rw (same_itself a) refl)
put_first a was o (e ∷ es) (suc at) there before = rw (not_first a e es at before) (ap (λ (rest : Entries). e ∷ rest) (put_first a was o es at there (others_after a e es at before)))

pub put_last : (a : Asked) (o : Opened) (es : Entries) → AreOthers a es (length es) → es ++ (a, o) ∷ [] ≡ with_opened a o es
put_last a o [] others = refl
put_last a o (e ∷ es) others = rw (not_first a e es (length es) others) (ap (λ (rest : Entries). e ∷ rest) (put_last a o es (others_after a e es (length es) others)))

-- what is kept is put where it stands
pub with_kept : (a : Asked) (o : Opened) (es : Entries) → kept_of a es ≡ Some o → with_opened a o es ≡ es
with_kept a o [] e = absurd cc
with_kept a o (x ∷ es) e = by (same_asked a x.0) refl e (with_kept a o es)
  where
    by : (b : Bool) → same_asked a x.0 ≡ b → (if b then Some x.1 else kept_of a es) ≡ Some o → (kept_of a es ≡ Some o → with_opened a o es ≡ es) → (if b then (a, o) ∷ es else x ∷ with_opened a o es) ≡ x ∷ es
    by true is e rest =
        let key : a ≡ x.0 = asked_is a x.0 is in
        let value : x.1 ≡ o = cc in
        ap (λ (k : Asked). (k, o) ∷ es) key ∙ ap (λ (v : Opened). (x.0, v) ∷ es) (sym value)
    by false is e rest = ap (λ (t : Entries). x ∷ t) (rest e)

-- ---- the places of a list

set_there : (es : Entries) (at : ℕ) (e was : Asked × Opened) → slice_get es at ≡ Some was → slice_get (set es at e) at ≡ Some e
set_there [] at e was there = absurd cc
set_there (x ∷ es) zero e was there = refl
set_there (x ∷ es) (suc at) e was there = set_there es at e was there

pub put_there : (a : Asked) (es : Entries) (at : ℕ) (e : Asked × Opened) → IsFirst a es at → slice_get (set es at e) at ≡ Some e
put_there a es at e first = set_there es at e _ first.there

pub push_there : (es : Entries) (e : Asked × Opened) → slice_get (es ++ e ∷ []) (length es) ≡ Some e
push_there [] e = refl
push_there (x ∷ es) e = push_there es e

pub put_at : (a : Asked) (es : Entries) (at : ℕ) (e : Asked × Opened) → e.0 ≡ a → IsFirst a es at → set es at e ≡ with_opened a e.1 es
put_at a es at e key first = ap (λ (k : Asked). set es at (k, e.1)) key ∙ put_first a first.opened e.1 es at first.there first.before

pub push_at : (a : Asked) (es : Entries) (e : Asked × Opened) → e.0 ≡ a → AreOthers a es (length es) → es ++ e ∷ [] ≡ with_opened a e.1 es
push_at a es e key others = ap (λ (k : Asked). es ++ (k, e.1) ∷ []) key ∙ put_last a e.1 es others

-- ---- a search from the front

pub first_here : (a : Asked) (es : Entries) (at : ℕ) (e : Asked × Opened) → slice_get es at ≡ Some e → same_asked a e.0 ≡ true → AreOthers a es at → IsFirst a es at
first_here a es at e there is before = record { opened = e.1; there = there ∙ ap (λ (k : Asked). Some (k, e.1)) (sym (asked_is a e.0 is)); before = before }

within : (k n : ℕ) → k < n + 1 → (k < n) ⊎ (k ≡ n)
within zero zero lt = inr refl
within zero (suc n) lt = inl (omega arith)
within (suc k) zero lt = absurd (omega arith)
within (suc k) (suc n) lt = by (within k n (omega arith))
  where
    by : (k < n) ⊎ (k ≡ n) → (suc k < suc n) ⊎ (suc k ≡ suc n)
    by (inl l) = inl (omega arith)
    by (inr e) = inr (ap suc e)

some_is : {X : Type 0} (x y : X) → Some x ≡ Some y → x ≡ y
some_is x y e = cc

pub others_more : (a : Asked) (es : Entries) (n : ℕ) (e : Asked × Opened) → slice_get es n ≡ Some e → same_asked a e.0 ≡ false → AreOthers a es n → AreOthers a es (n + 1)
others_more a es n e there differs others k x lt is = by (within k n lt)
  where
    by : (k < n) ⊎ (k ≡ n) → same_asked a x.0 ≡ false
    by (inl l) = others k x l is
    by (inr same) =
        let one : e ≡ x = some_is e x (sym there ∙ ap (λ (j : ℕ). slice_get es j) (sym same) ∙ is) in
        subst (λ (z : Asked × Opened). same_asked a z.0 ≡ false) one differs

-- ---- stamps

stamp_is : (s t : Stamp) → same_stamp s t ≡ true → s ≡ t
stamp_is s t e =
    let both = and_parts (s.size == t.size) (s.changed == t.changed) e in
    let size : s.size ≡ t.size = (unsigned_Decides s.size t.size).0 both.0 in
    let changed : s.changed ≡ t.changed = (unsigned_Decides s.changed t.changed).0 both.1 in
    ap (λ (n : ℕ). let r : Stamp = record { size = n; changed = s.changed } in r) size ∙ ap (λ (n : ℕ). let r : Stamp = record { size = t.size; changed = n } in r) changed

other_stamp : (s t : Stamp) → same_stamp s t ≡ false → s ≢ t
other_stamp s t differs same =
    let itself : same_stamp s s ≡ true = by (s.size == s.size) (s.changed == s.changed) ((unsigned_Decides s.size s.size).1 refl) ((unsigned_Decides s.changed s.changed).1 refl) in
    let yes : same_stamp s t ≡ true = subst (λ (u : Stamp). same_stamp s u ≡ true) same itself in
    absurd cc
  where
    by : (b c : Bool) → b ≡ true → c ≡ true → (b && c) ≡ true
    by b c is too = rw (is, too) refl

pub is_at_stamp : (a : Asked) (s : Stamp) (es : Entries) (at : ℕ) (e : Asked × Opened) → IsFirst a es at → slice_get es at ≡ Some e → same_stamp e.1.stamp s ≡ true → IsAt a s es at
is_at_stamp a s es at e first there same =
    let one : (a, first.opened) ≡ e = some_is _ _ (sym first.there ∙ there) in
    record {
      opened = first.opened;
      there = first.there;
      kept = kept_first a first.opened es at first.there first.before;
      same = ap (λ (z : Asked × Opened). z.1.stamp) one ∙ stamp_is e.1.stamp s same;
    }

pub is_stale : (a : Asked) (s : Stamp) (es : Entries) (at : ℕ) (e : Asked × Opened) → IsFirst a es at → slice_get es at ≡ Some e → same_stamp e.1.stamp s ≡ false → IsStale s (kept_of a es)
is_stale a s es at e first there other =
    let one : (a, first.opened) ≡ e = some_is _ _ (sym first.there ∙ there) in
    let differs : e.1.stamp ≢ s = other_stamp e.1.stamp s other in
    rw (kept_first a first.opened es at first.there first.before) (subst (λ (z : Asked × Opened). z.1.stamp ≢ s) (sym one) differs)

pub stale_nowhere : (a : Asked) (s : Stamp) (es : Entries) → AreOthers a es (length es) → IsStale s (kept_of a es)
stale_nowhere a s es others = rw (kept_nowhere a es others) tt
