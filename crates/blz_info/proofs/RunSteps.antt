-- Attributes in runs are passed over and read as one by one.
use Rattle.std.proofs.Common.{◌≡◌, ◌∙◌, ℕ, suc, ◌+◌, ◌<◌, ◌≤◌, Bool, true, false, eqb, List, [], ◌∷◌, ◌++◌, length, get_or, take, drop, Option, Some, None, refl, sym, ap, subst, inl, inr, arith, drop-cons}
use Rattle.std.specs.Prelude.{slice_get, ◌||◌, if◌then◌else◌}
use Rattle.std.proofs.lemmas.Bool.{cases_Bool}
use Rattle.std.proofs.lemmas.List.{append-nil, take-append-drop, length-drop, drop-drop}
use Rattle.std.proofs.lemmas.Option.{slice_get_within, get_or_from_slice_get}
use Rattle.std.proofs.Math.ListN.{drop_of_length-le}
use Rattle.std.proofs.Math.Seq.{drop-length}
use Rattle.blz_model.specs.Reads.{Read, ◌>>=◌}
use Rattle.blz_info.specs.Contents.{Contents}
use Rattle.blz_info.specs.Forms.{value_by}
use Rattle.blz_info.specs.Attributes.{form_for, direct_attribute, attribute, passed}
use Rattle.blz_info.specs.Sizes.{over}
use Rattle.blz_info.specs.Wanted.{Wanted, is_wanted, wanted_in}
use Rattle.blz_info.specs.AttributeRuns.{form_at, behind_by, value_by_form, passed_by, any_wanted, AreSkipped, AreRuns}
use Rattle.blz_info.specs.declared.abbreviations.AttrSpec.{AttrSpec}
use Rattle.blz_info.specs.declared.encoding.Encoding.{Encoding}
use Rattle.blz_info.specs.declared.forms.form.Form.{Form}
use Rattle.blz_info.specs.declared.walking.runs.Run.{Run}
use Rattle.blz_info.specs.declared.text.StrBase.{StrBase}
use Rattle.blz_info.specs.declared.forms.value.AttrValue.{AttrValue}
use Rattle.blz_info.proofs.Sizes.{next_place, behind_value, behind_is}
use Rattle.blz_info.proofs.Together.{passed_together}

-- ---- one attribute, by its form

value_opened : (a : AttrSpec) (o : Option Form) (e : Encoding) (base : StrBase) (s : Contents) (at : ℕ) → attribute a e base s at ≡ (o >>= λ f. value_by f e base s at) → value_by_form o a e base s at ≡ attribute a e base s at
value_opened a None e base s at h = refl
value_opened a (Some f) e base s at h = sym h

attribute_direct : (a : AttrSpec) (e : Encoding) (base : StrBase) (s : Contents) (at : ℕ) → eqb a.form 0x21 ≡ false → eqb a.form 0x16 ≡ false → attribute a e base s at ≡ (form_for a.name e a.form >>= λ f. value_by f e base s at)
unfolding attribute direct_attribute
attribute_direct a e base s at h k = rw (h, k) refl

pub value_is : (a : AttrSpec) (e : Encoding) (base : StrBase) (s : Contents) (at : ℕ) → value_by_form (form_at a e) a e base s at ≡ attribute a e base s at
value_is a e base s at = elim (cases_Bool (eqb a.form 0x21)) [
  | inl constant ↦ rw constant refl
  | inr other ↦ elim (cases_Bool (eqb a.form 0x16)) [
    | inl indirect ↦ rw (other, indirect) refl
    | inr direct ↦ rw (other, direct) (value_opened a (form_for a.name e a.form) e base s at (attribute_direct a e base s at other direct))
  ]
]

behind_opened : (a : AttrSpec) (o : Option Form) (e : Encoding) (base : StrBase) (s : Contents) (at : ℕ) → behind_by o a e s at ≡ next_place (value_by_form o a e base s at)
behind_opened a None e base s at = sym (behind_is a e base s at)
behind_opened a (Some f) e base s at = sym (behind_value f e base s at)

pub behind_same : (a : AttrSpec) (e : Encoding) (base : StrBase) (s : Contents) (at : ℕ) → behind_by (form_at a e) a e s at ≡ next_place (attribute a e base s at)
behind_same a e base s at = behind_opened a (form_at a e) e base s at ∙ ap next_place (value_is a e base s at)

-- ---- lists of attributes

pub parted : (specs : List AttrSpec) (c : ℕ) (x : AttrSpec) → slice_get specs c ≡ Some x → specs ≡ take c specs ++ x ∷ drop (c + 1) specs
parted specs c x h =
    let lt = slice_get_within specs c x h in
    let is = get_or_from_slice_get specs c x x h in
    let k : c + 1 ≡ suc c = omega arith in
    let tail : drop c specs ≡ x ∷ drop (c + 1) specs = drop-cons specs c x lt ∙ rw (is, k) refl in
    sym (take-append-drop c specs) ∙ ap (λ (ys : List AttrSpec). take c specs ++ ys) tail

passed_first : (o : Read AttrValue) (xs ys : List AttrSpec) (e : Encoding) (base : StrBase) (s : Contents) → ((n : ℕ) → passed (xs ++ ys) e base s n ≡ (passed xs e base s n >>= λ m. passed ys e base s m)) → (o >>= λ v. passed (xs ++ ys) e base s v.1) ≡ ((o >>= λ v. passed xs e base s v.1) >>= λ n. passed ys e base s n)
passed_first None xs ys e base s h = refl
passed_first (Some v) xs ys e base s h = h v.1

pub passed_append : (xs ys : List AttrSpec) (e : Encoding) (base : StrBase) (s : Contents) (at : ℕ) → passed (xs ++ ys) e base s at ≡ (passed xs e base s at >>= λ n. passed ys e base s n)
unfolding passed
passed_append [] ys e base s at = refl
passed_append (a ∷ xs) ys e base s at = passed_first (attribute a e base s at) xs ys e base s (λ n. passed_append xs ys e base s n)

-- ---- passing over

by_place : (o : Read AttrValue) (rest : ℕ → Option ℕ) → (o >>= λ v. rest v.1) ≡ (next_place o >>= rest)
by_place None rest = refl
by_place (Some v) rest = refl

same_then : (o : Option ℕ) (f g : ℕ → Option ℕ) → ((n : ℕ) → f n ≡ g n) → (o >>= f) ≡ (o >>= g)
same_then None f g h = refl
same_then (Some n) f g h = h n

first_passed : (a : AttrSpec) (rest : List AttrSpec) (e : Encoding) (base : StrBase) (s : Contents) (at : ℕ) → passed (a ∷ rest) e base s at ≡ (behind_by (form_at a e) a e s at >>= λ n. passed rest e base s n)
unfolding passed
first_passed a rest e base s at =
    by_place (attribute a e base s at) (λ n. passed rest e base s n) ∙ ap (λ (o : Option ℕ). o >>= λ n. passed rest e base s n) (sym (behind_same a e base s at))

pub runs_passed : (reading : Bool) (e : Encoding) (runs : List Run) (tail : ℕ) (specs : List AttrSpec) (base : StrBase) (s : Contents) (at : ℕ) → AreRuns reading e runs tail specs → passed specs e base s at ≡ passed_by runs tail e s at
unfolding passed_by
runs_passed reading e [] tail specs base s at h = passed_together specs e base s at tail h.bytes
runs_passed reading e (r ∷ rest) tail specs base s at h =
    let looked = h.1.0 in
    let others = drop (r.count + 1) specs in
    let from_there : (start : ℕ) → passed (r.spec ∷ others) e base s start ≡ (behind_by r.form r.spec e s start >>= λ next. passed_by rest tail e s next) = λ start.
    first_passed r.spec others e base s start
    ∙ ap (λ (form : Option Form). behind_by form r.spec e s start >>= λ n. passed others e base s n) (sym looked.form)
    ∙ same_then (behind_by r.form r.spec e s start) (λ (n : ℕ). passed others e base s n) (λ (n : ℕ). passed_by rest tail e s n) (λ next. runs_passed reading e rest tail others base s next h.1.1) in
    ap (λ (xs : List AttrSpec). passed xs e base s at) (parted specs r.count r.spec looked.there)
    ∙ passed_append (take r.count specs) (r.spec ∷ others) e base s at
    ∙ ap (λ (o : Option ℕ). o >>= λ n. passed (r.spec ∷ others) e base s n) (passed_together (take r.count specs) e base s at r.skip h.0.bytes)
    ∙ same_then (over r.skip s.bytes at) (λ (n : ℕ). passed (r.spec ∷ others) e base s n) (λ (start : ℕ). behind_by r.form r.spec e s start >>= λ next. passed_by rest tail e s next) from_there

-- ---- one turn of the loop that passes over runs

run_on : (r : Run) (rest : List Run) (tail : ℕ) (e : Encoding) (s : Contents) (at start next : ℕ) → over r.skip s.bytes at ≡ Some start → behind_by r.form r.spec e s start ≡ Some next → passed_by (r ∷ rest) tail e s at ≡ passed_by rest tail e s next
unfolding passed_by
run_on r rest tail e s at start next h k = rw (h, k) refl

run_short : (r : Run) (rest : List Run) (tail : ℕ) (e : Encoding) (s : Contents) (at : ℕ) → over r.skip s.bytes at ≡ None → passed_by (r ∷ rest) tail e s at ≡ None
unfolding passed_by
run_short r rest tail e s at h = rw h refl

run_stops : (r : Run) (rest : List Run) (tail : ℕ) (e : Encoding) (s : Contents) (at start : ℕ) → over r.skip s.bytes at ≡ Some start → behind_by r.form r.spec e s start ≡ None → passed_by (r ∷ rest) tail e s at ≡ None
unfolding passed_by
run_stops r rest tail e s at start h k = rw (h, k) refl

pub runs_more : (runs : List Run) (i : ℕ) (d : Run) (tail : ℕ) (e : Encoding) (s : Contents) (at start next : ℕ) → i < length runs → over (get_or runs i d).skip s.bytes at ≡ Some start → behind_by (get_or runs i d).form (get_or runs i d).spec e s start ≡ Some next → passed_by (drop i runs) tail e s at ≡ passed_by (drop (i + 1) runs) tail e s next
runs_more runs i d tail e s at start next lt h k =
    let one : i + 1 ≡ suc i = omega arith in
    rw (one, drop-cons runs i d lt) (run_on (get_or runs i d) (drop (suc i) runs) tail e s at start next h k)

pub runs_short : (runs : List Run) (i : ℕ) (d : Run) (tail : ℕ) (e : Encoding) (s : Contents) (at : ℕ) → i < length runs → over (get_or runs i d).skip s.bytes at ≡ None → passed_by (drop i runs) tail e s at ≡ None
runs_short runs i d tail e s at lt h = rw (drop-cons runs i d lt) (run_short (get_or runs i d) (drop (suc i) runs) tail e s at h)

pub runs_stop : (runs : List Run) (i : ℕ) (d : Run) (tail : ℕ) (e : Encoding) (s : Contents) (at start : ℕ) → i < length runs → over (get_or runs i d).skip s.bytes at ≡ Some start → behind_by (get_or runs i d).form (get_or runs i d).spec e s start ≡ None → passed_by (drop i runs) tail e s at ≡ None
runs_stop runs i d tail e s at start lt h k = rw (drop-cons runs i d lt) (run_stops (get_or runs i d) (drop (suc i) runs) tail e s at start h k)

pub runs_end : (runs : List Run) (i tail : ℕ) (e : Encoding) (s : Contents) (at : ℕ) → length runs ≤ i → passed_by (drop i runs) tail e s at ≡ over tail s.bytes at
unfolding passed_by
runs_end runs i tail e s at le = let h = drop_of_length-le runs {i = i} le in rw h refl

-- ---- the next wanted attribute

-- what is wanted behind attributes of which none is
first_unwanted : (o : Read AttrValue) (xs ys : List AttrSpec) (e : Encoding) (base : StrBase) (s : Contents) → ((n : ℕ) → wanted_in (xs ++ ys) e base s n ≡ (passed xs e base s n >>= λ m. wanted_in ys e base s m)) → (o >>= λ v. wanted_in (xs ++ ys) e base s v.1) ≡ ((o >>= λ v. passed xs e base s v.1) >>= λ n. wanted_in ys e base s n)
first_unwanted None xs ys e base s h = refl
first_unwanted (Some v) xs ys e base s h = h v.1

none_of : (a b : Bool) → (a || b) ≡ false → (a ≡ false) × (b ≡ false)
none_of true b h = absurd cc
none_of false b h = (refl, h)

unwanted : (xs ys : List AttrSpec) (e : Encoding) (base : StrBase) (s : Contents) (at : ℕ) → any_wanted true xs ≡ false → wanted_in (xs ++ ys) e base s at ≡ (passed xs e base s at >>= λ n. wanted_in ys e base s n)
unfolding wanted_in passed
unwanted [] ys e base s at h = refl
unwanted (a ∷ xs) ys e base s at h =
    let parts = none_of (is_wanted a.name) (any_wanted true xs) h in
    rw parts.0 (first_unwanted (attribute a e base s at) xs ys e base s (λ n. unwanted xs ys e base s n parts.1))

-- what is wanted from the attribute on that a run leads to
abbrev at_run : Bool → Option Form → AttrSpec → List AttrSpec → Encoding → StrBase → Contents → ℕ → Option Wanted
at_run wanted form a rest e base s at = if wanted then (value_by_form form a e base s at >>= λ v. Some (Some (a.name, v.0), (rest, v.1))) else (behind_by form a e s at >>= λ n. wanted_in rest e base s n)

by_value : (o : Read AttrValue) (rest : ℕ → Option Wanted) → (o >>= λ v. rest v.1) ≡ (next_place o >>= rest)
by_value None rest = refl
by_value (Some v) rest = refl

first_run : (a : AttrSpec) (rest : List AttrSpec) (e : Encoding) (base : StrBase) (s : Contents) (at : ℕ) → wanted_in (a ∷ rest) e base s at ≡ at_run (is_wanted a.name) (form_at a e) a rest e base s at
unfolding wanted_in
first_run a rest e base s at = elim (cases_Bool (is_wanted a.name)) [
  | inl found ↦ rw found (ap (λ (o : Read AttrValue). o >>= λ v. Some (Some (a.name, v.0), (rest, v.1))) (sym (value_is a e base s at)))
  | inr other ↦ rw other (by_value (attribute a e base s at) (λ n. wanted_in rest e base s n) ∙ ap (λ (o : Option ℕ). o >>= λ n. wanted_in rest e base s n) (sym (behind_same a e base s at)))
]

wanted_then : (o : Option ℕ) (f g : ℕ → Option Wanted) → ((n : ℕ) → f n ≡ g n) → (o >>= f) ≡ (o >>= g)
wanted_then None f g h = refl
wanted_then (Some n) f g h = h n

-- the same from the run on
run_wanted : (e : Encoding) (r : Run) (rest : List Run) (tail : ℕ) (specs : List AttrSpec) (base : StrBase) (s : Contents) (at : ℕ) → AreRuns true e (r ∷ rest) tail specs → wanted_in specs e base s at ≡ (over r.skip s.bytes at >>= λ start. at_run r.wanted r.form r.spec (drop (r.count + 1) specs) e base s start)
run_wanted e r rest tail specs base s at h =
    let looked = h.1.0 in
    let others = drop (r.count + 1) specs in
    let from_there : (start : ℕ) → wanted_in (r.spec ∷ others) e base s start ≡ at_run r.wanted r.form r.spec others e base s start = λ start.
    first_run r.spec others e base s start
    ∙ ap (λ (form : Option Form). at_run (is_wanted r.spec.name) form r.spec others e base s start) (sym looked.form)
    ∙ ap (λ (wanted : Bool). at_run wanted r.form r.spec others e base s start) (sym looked.wanted) in
    ap (λ (xs : List AttrSpec). wanted_in xs e base s at) (parted specs r.count r.spec looked.there)
    ∙ unwanted (take r.count specs) (r.spec ∷ others) e base s at h.0.unwanted
    ∙ ap (λ (o : Option ℕ). o >>= λ n. wanted_in (r.spec ∷ others) e base s n) (passed_together (take r.count specs) e base s at r.skip h.0.bytes)
    ∙ wanted_then (over r.skip s.bytes at) (λ (n : ℕ). wanted_in (r.spec ∷ others) e base s n) (λ (start : ℕ). at_run r.wanted r.form r.spec others e base s start) from_there

-- ---- one turn of the loop that looks for it

skip_fails : (e : Encoding) (r : Run) (rest : List Run) (tail : ℕ) (specs : List AttrSpec) (base : StrBase) (s : Contents) (at : ℕ) → AreRuns true e (r ∷ rest) tail specs → over r.skip s.bytes at ≡ None → wanted_in specs e base s at ≡ None
skip_fails e r rest tail specs base s at h short = run_wanted e r rest tail specs base s at h ∙ rw short refl

value_fails : (e : Encoding) (r : Run) (rest : List Run) (tail : ℕ) (specs : List AttrSpec) (base : StrBase) (s : Contents) (at start : ℕ) → AreRuns true e (r ∷ rest) tail specs → over r.skip s.bytes at ≡ Some start → r.wanted ≡ true → value_by_form r.form r.spec e base s start ≡ None → wanted_in specs e base s at ≡ None
value_fails e r rest tail specs base s at start h skips wanted none = run_wanted e r rest tail specs base s at h ∙ rw (skips, wanted, none) refl

value_found : (e : Encoding) (r : Run) (rest : List Run) (tail : ℕ) (specs : List AttrSpec) (base : StrBase) (s : Contents) (at start next : ℕ) (v : AttrValue) → AreRuns true e (r ∷ rest) tail specs → over r.skip s.bytes at ≡ Some start → r.wanted ≡ true → value_by_form r.form r.spec e base s start ≡ Some (v, next) → wanted_in specs e base s at ≡ Some (Some (r.spec.name, v), (drop (r.count + 1) specs, next))
value_found e r rest tail specs base s at start next v h skips wanted is = run_wanted e r rest tail specs base s at h ∙ rw (skips, wanted, is) refl

pass_fails : (e : Encoding) (r : Run) (rest : List Run) (tail : ℕ) (specs : List AttrSpec) (base : StrBase) (s : Contents) (at start : ℕ) → AreRuns true e (r ∷ rest) tail specs → over r.skip s.bytes at ≡ Some start → r.wanted ≡ false → behind_by r.form r.spec e s start ≡ None → wanted_in specs e base s at ≡ None
pass_fails e r rest tail specs base s at start h skips wanted none = run_wanted e r rest tail specs base s at h ∙ rw (skips, wanted, none) refl

pass_on : (e : Encoding) (r : Run) (rest : List Run) (tail : ℕ) (specs : List AttrSpec) (base : StrBase) (s : Contents) (at start next : ℕ) → AreRuns true e (r ∷ rest) tail specs → over r.skip s.bytes at ≡ Some start → r.wanted ≡ false → behind_by r.form r.spec e s start ≡ Some next → wanted_in specs e base s at ≡ wanted_in (drop (r.count + 1) specs) e base s next
pass_on e r rest tail specs base s at start next h skips wanted is = run_wanted e r rest tail specs base s at h ∙ rw (skips, wanted, is) refl

-- the runs from an index on begin with the one there
pub from_index : (e : Encoding) (runs : List Run) (i : ℕ) (d : Run) (tail : ℕ) (specs : List AttrSpec) → i < length runs → AreRuns true e (drop i runs) tail specs → AreRuns true e (get_or runs i d ∷ drop (i + 1) runs) tail specs
from_index e runs i d tail specs lt h =
    let one : i + 1 ≡ suc i = omega arith in
    let on : drop i runs ≡ get_or runs i d ∷ drop (i + 1) runs = drop-cons runs i d lt ∙ rw one refl in
    subst (λ (rs : List Run). AreRuns true e rs tail specs) on h

pub within_specs : (e : Encoding) (r : Run) (rest : List Run) (tail : ℕ) (specs : List AttrSpec) → AreRuns true e (r ∷ rest) tail specs → r.count < length specs
within_specs e r rest tail specs h = slice_get_within specs r.count r.spec h.1.0.there

-- what is left of attributes behind so many of those that were left
pub left_behind : (specs : List AttrSpec) (count more : ℕ) → drop (more + 1) (drop count specs) ≡ drop (count + more + 1) specs
left_behind specs count more = drop-drop (more + 1) count specs ∙ ap (λ (n : ℕ). drop n specs) (omega arith)

-- a loop over runs that has passed over some attributes
pub record Searching (e : Encoding) (runs : List Run) (tail : ℕ) (specs : List AttrSpec) (base : StrBase) (s : Contents) (at i count place : ℕ) : Type 0 where
  pub counted : count ≤ length specs
  pub left : AreRuns true e (drop i runs) tail (drop count specs)
  pub rest : wanted_in (drop count specs) e base s place ≡ wanted_in specs e base s at

pub searching_none : (e : Encoding) (runs : List Run) (tail : ℕ) (specs : List AttrSpec) (base : StrBase) (s : Contents) (at : ℕ) → AreRuns true e runs tail specs → Searching e runs tail specs base s at 0 0 at
searching_none e runs tail specs base s at h = record { counted = omega arith; left = h; rest = refl }

pub room_for : (e : Encoding) (runs : List Run) (tail : ℕ) (specs : List AttrSpec) (base : StrBase) (s : Contents) (at i count place : ℕ) (d : Run) → i < length runs → Searching e runs tail specs base s at i count place → count + (get_or runs i d).count + 1 ≤ length specs
room_for e runs tail specs base s at i count place d lt h =
    let k = within_specs e (get_or runs i d) (drop (i + 1) runs) tail (drop count specs) (from_index e runs i d tail (drop count specs) lt h.left) in
    omega (arith, k, h.counted, length-drop count specs)

pub searching_more : (e : Encoding) (runs : List Run) (tail : ℕ) (specs : List AttrSpec) (base : StrBase) (s : Contents) (at i count place start next : ℕ) (d : Run) → i < length runs → Searching e runs tail specs base s at i count place → over (get_or runs i d).skip s.bytes place ≡ Some start → (get_or runs i d).wanted ≡ false → behind_by (get_or runs i d).form (get_or runs i d).spec e s start ≡ Some next → Searching e runs tail specs base s at (i + 1) (count + (get_or runs i d).count + 1) next
searching_more e runs tail specs base s at i count place start next d lt h skips other is =
    let r = get_or runs i d in
    let here = from_index e runs i d tail (drop count specs) lt h.left in
    let same : drop (r.count + 1) (drop count specs) ≡ drop (count + r.count + 1) specs = left_behind specs count r.count in
    record {
      counted = room_for e runs tail specs base s at i count place d lt h;
      left = subst (λ (xs : List AttrSpec). AreRuns true e (drop (i + 1) runs) tail xs) same here.1.1;
      rest = ap (λ (xs : List AttrSpec). wanted_in xs e base s next) (sym same) ∙ sym (pass_on e r (drop (i + 1) runs) tail (drop count specs) base s place start next here skips other is) ∙ h.rest;
    }

pub search_short : (e : Encoding) (runs : List Run) (tail : ℕ) (specs : List AttrSpec) (base : StrBase) (s : Contents) (at i count place : ℕ) (d : Run) → i < length runs → Searching e runs tail specs base s at i count place → over (get_or runs i d).skip s.bytes place ≡ None → wanted_in specs e base s at ≡ None
search_short e runs tail specs base s at i count place d lt h none =
    sym h.rest ∙ skip_fails e (get_or runs i d) (drop (i + 1) runs) tail (drop count specs) base s place (from_index e runs i d tail (drop count specs) lt h.left) none

pub search_unread : (e : Encoding) (runs : List Run) (tail : ℕ) (specs : List AttrSpec) (base : StrBase) (s : Contents) (at i count place start : ℕ) (d : Run) → i < length runs → Searching e runs tail specs base s at i count place → over (get_or runs i d).skip s.bytes place ≡ Some start → (get_or runs i d).wanted ≡ true → value_by_form (get_or runs i d).form (get_or runs i d).spec e base s start ≡ None → wanted_in specs e base s at ≡ None
search_unread e runs tail specs base s at i count place start d lt h skips wanted none =
    sym h.rest ∙ value_fails e (get_or runs i d) (drop (i + 1) runs) tail (drop count specs) base s place start (from_index e runs i d tail (drop count specs) lt h.left) skips wanted none

pub search_stops : (e : Encoding) (runs : List Run) (tail : ℕ) (specs : List AttrSpec) (base : StrBase) (s : Contents) (at i count place start : ℕ) (d : Run) → i < length runs → Searching e runs tail specs base s at i count place → over (get_or runs i d).skip s.bytes place ≡ Some start → (get_or runs i d).wanted ≡ false → behind_by (get_or runs i d).form (get_or runs i d).spec e s start ≡ None → wanted_in specs e base s at ≡ None
search_stops e runs tail specs base s at i count place start d lt h skips other none =
    sym h.rest ∙ pass_fails e (get_or runs i d) (drop (i + 1) runs) tail (drop count specs) base s place start (from_index e runs i d tail (drop count specs) lt h.left) skips other none

pub search_finds : (e : Encoding) (runs : List Run) (tail : ℕ) (specs : List AttrSpec) (base : StrBase) (s : Contents) (at i count place start next : ℕ) (v : AttrValue) (d : Run) → i < length runs → Searching e runs tail specs base s at i count place → over (get_or runs i d).skip s.bytes place ≡ Some start → (get_or runs i d).wanted ≡ true → value_by_form (get_or runs i d).form (get_or runs i d).spec e base s start ≡ Some (v, next)
    → Some (Some ((get_or runs i d).spec.name, v), (drop (count + (get_or runs i d).count + 1) specs, next)) ≡ wanted_in specs e base s at
search_finds e runs tail specs base s at i count place start next v d lt h skips wanted is =
    let r = get_or runs i d in
    ap (λ (xs : List AttrSpec). Some (Some (r.spec.name, v), (xs, next))) (sym (left_behind specs count r.count))
    ∙ sym (value_found e r (drop (i + 1) runs) tail (drop count specs) base s place start next v (from_index e runs i d tail (drop count specs) lt h.left) skips wanted is) ∙ h.rest

-- the runs that are left behind the one that was found
pub search_left : (e : Encoding) (runs : List Run) (tail : ℕ) (specs : List AttrSpec) (base : StrBase) (s : Contents) (at i count place : ℕ) (d : Run) → i < length runs → Searching e runs tail specs base s at i count place → AreRuns true e (drop (i + 1) runs) tail (drop (count + (get_or runs i d).count + 1) specs)
search_left e runs tail specs base s at i count place d lt h =
    let r = get_or runs i d in
    subst (λ (xs : List AttrSpec). AreRuns true e (drop (i + 1) runs) tail xs) (left_behind specs count r.count) (from_index e runs i d tail (drop count specs) lt h.left).1.1

abbrev nothing_wanted : ℕ → Option Wanted
nothing_wanted n = Some (None, ([], n))

abbrev pub none_left : List AttrSpec → ℕ → Option Wanted
none_left rest n = Some (None, (rest, n))

last_wanted : (o : Option ℕ) (e : Encoding) (base : StrBase) (s : Contents) → (o >>= λ n. wanted_in [] e base s n) ≡ (o >>= nothing_wanted)
unfolding wanted_in
last_wanted o e base s = refl

all_unwanted : (e : Encoding) (tail : ℕ) (specs : List AttrSpec) (base : StrBase) (s : Contents) (at : ℕ) → AreSkipped true e tail specs → wanted_in specs e base s at ≡ (over tail s.bytes at >>= nothing_wanted)
all_unwanted e tail specs base s at h =
    ap (λ (xs : List AttrSpec). wanted_in xs e base s at) (sym (append-nil specs)) ∙ unwanted specs [] e base s at h.unwanted
    ∙ last_wanted (passed specs e base s at) e base s
    ∙ ap (λ (o : Option ℕ). o >>= nothing_wanted) (passed_together specs e base s at tail h.bytes)

at_end : (e : Encoding) (runs : List Run) (tail : ℕ) (specs : List AttrSpec) (base : StrBase) (s : Contents) (at i count place : ℕ) → length runs ≤ i → Searching e runs tail specs base s at i count place → wanted_in specs e base s at ≡ (over tail s.bytes place >>= nothing_wanted)
at_end e runs tail specs base s at i count place le h =
    let none : drop i runs ≡ [] = drop_of_length-le runs {i = i} le in
    sym h.rest ∙ all_unwanted e tail (drop count specs) base s place (subst (λ (rs : List Run). AreRuns true e rs tail (drop count specs)) none h.left)

pub search_over : (e : Encoding) (runs : List Run) (tail : ℕ) (specs : List AttrSpec) (base : StrBase) (s : Contents) (at i count place next : ℕ) → length runs ≤ i → Searching e runs tail specs base s at i count place → over tail s.bytes place ≡ Some next → none_left (drop (length specs) specs) next ≡ wanted_in specs e base s at
search_over e runs tail specs base s at i count place next le h is =
    ap (λ (xs : List AttrSpec). none_left xs next) (drop-length specs) ∙ sym (at_end e runs tail specs base s at i count place le h ∙ ap (λ (o : Option ℕ). o >>= nothing_wanted) is)

pub search_ends : (e : Encoding) (runs : List Run) (tail : ℕ) (specs : List AttrSpec) (base : StrBase) (s : Contents) (at i count place : ℕ) → length runs ≤ i → Searching e runs tail specs base s at i count place → over tail s.bytes place ≡ None → wanted_in specs e base s at ≡ None
search_ends e runs tail specs base s at i count place le h is = at_end e runs tail specs base s at i count place le h ∙ ap (λ (o : Option ℕ). o >>= nothing_wanted) is
