-- One function more in the lists of a unit, or one call more in those of a function.
use Rattle.std.proofs.Common.{◌≡◌, ℕ, Bool, true, false, List, [], ◌∷◌, ◌++◌, length, map, Option, Some, None, refl, sym, ap, ◌∙◌, arith}
use Rattle.std.specs.Prelude.{nat_lt}
use Rattle.std.proofs.lemmas.Bool.{ltb-true, ltb-false}
use Rattle.std.proofs.lemmas.List.{append-nil}
use Rattle.blz_model.specs.Reads.{◌>>=◌}
use Rattle.blz_entry.specs.RangeLists.{appended}
use Rattle.blz_ranges.specs.declared.span.Span.{Span}
use Rattle.blz_functions.specs.declared.description.Description.{Description}
use Rattle.blz_functions.specs.declared.functions.Function.{Function}
use Rattle.blz_ranges.specs.declared.grouped.Grouped.{Grouped}
use Rattle.blz_functions.specs.declared.inlined_functions.InlinedFunction.{InlinedFunction}
use Rattle.blz_functions.specs.CallTree.{CallLists, call_by, call_added}
use Rattle.blz_functions.specs.Chain.{call_range}
use Rattle.blz_ranges.specs.Groups.{grouped}
use Rattle.blz_functions.specs.FunctionList.{Lists, function_by, with_ranges, lists_added}
use Rattle.blz_functions.specs.Leaves.{UnitParts, ranges_in}
use Rattle.blz_ranges.specs.Owned.{Owned, owned, own_all, filled_up}
use Rattle.blz_ranges.proofs.OwnedItems.{owned_more}

-- what a call that appends ranges tells
pub record Appended (o : Option (List Span)) (old new : List Span) (some : Bool) : Type 0 where
  pub spans : List Span
  pub is : o ≡ Some spans
  pub new_is : new ≡ old ++ spans
  pub flag : some ≡ nat_lt 0 (length spans)

abbrev told : List Span → Bool → Option (List Span × Bool)
told new some = Some (new, some)

abbrev spans_told : List Span → Option (List Span × Bool) → List Span
spans_told z None = z
spans_told z (Some r) = r.0

abbrev flag_told : Bool → Option (List Span × Bool) → Bool
flag_told z None = z
flag_told z (Some r) = r.1

pub appended_by : (o : Option (List Span)) (old new : List Span) (some : Bool) → (o >>= appended old) ≡ told new some → Appended o old new some
appended_by None old new some h = absurd cc
appended_by (Some spans) old new some h = record { spans = spans; is = refl; new_is = sym (ap (spans_told new) h); flag = sym (ap (flag_told some) h) }

abbrev lists_by : List Function → List (Owned Span) → Lists
lists_by functions ranges = record { functions = functions; ranges = ranges }

no_spans : (spans : List Span) → nat_lt 0 (length spans) ≡ false → spans ≡ []
no_spans [] h = refl
no_spans (s ∷ rest) h = absurd (let k = ltb-false 0 (length (s ∷ rest)) h in omega arith)

something : (functions : List Function) (old spans : List Span) (owners : List ℕ) (f : Function) → nat_lt 0 (length spans) ≡ true → length old ≡ length owners
    → with_ranges (record { functions = functions; ranges = owned old owners }) f spans ≡ record { functions = functions ++ f ∷ []; ranges = owned (old ++ spans) (filled_up owners (length functions) (length (old ++ spans))) }
something functions old [] owners f h e = absurd (let k = ltb-true 0 (length {A = Span} []) h in omega arith)
something functions old (s ∷ rest) owners f h e = ap (λ (r : List (Owned Span)). lists_by (functions ++ f ∷ []) r) (sym (owned_more old (s ∷ rest) owners (length functions) (length (old ++ s ∷ rest)) e refl))

pub added_none : (u : UnitParts) (functions : List Function) (old new : List Span) (owners : List ℕ) (place : ℕ) (d : Description) (some : Bool) → Appended (ranges_in u d.ranges) old new some → some ≡ false
    → lists_added u (record { functions = functions; ranges = owned old owners }) place d ≡ Some (record { functions = functions; ranges = owned new owners })
unfolding lists_added
added_none u functions old new owners place d some a e =
    let n : nat_lt 0 (length a.spans) ≡ false = sym a.flag ∙ e in
    let z : a.spans ≡ [] = no_spans a.spans n in
    let w : new ≡ old = a.new_is ∙ (ap (λ (l : List Span). old ++ l) z ∙ append-nil old) in
    rw (a.is, z, w) refl

pub added_some : (u : UnitParts) (functions : List Function) (old new : List Span) (owners : List ℕ) (place : ℕ) (d : Description) (some : Bool) → Appended (ranges_in u d.ranges) old new some → some ≡ true → length old ≡ length owners
    → lists_added u (record { functions = functions; ranges = owned old owners }) place d ≡ Some (record { functions = functions ++ function_by place d ∷ []; ranges = owned new (filled_up owners (length functions) (length new)) })
unfolding lists_added
added_some u functions old new owners place d some a e len =
    let n : nat_lt 0 (length a.spans) ≡ true = sym a.flag ∙ e in
    rw (a.is, a.new_is) (ap (λ (l : Lists). Some l) (something functions old a.spans owners (function_by place d) n len))

pub added_fails : (u : UnitParts) (l : Lists) (place : ℕ) (d : Description) → ranges_in u d.ranges ≡ None → lists_added u l place d ≡ None
unfolding lists_added
added_fails u l place d h = rw h refl

-- the numbers of the ranges and of their owners stay the same
pub lengths_stay : (o : Option (List Span)) (old new : List Span) (owners : List ℕ) (some : Bool) → Appended o old new some → some ≡ false → length old ≡ length owners → length new ≡ length owners
lengths_stay o old new owners some a e len =
    let z : a.spans ≡ [] = no_spans a.spans (sym a.flag ∙ e) in
    let w : new ≡ old = a.new_is ∙ (ap (λ (l : List Span). old ++ l) z ∙ append-nil old) in
    ap length w ∙ len

-- ---- calls

abbrev calls_by : List InlinedFunction → List (Owned Grouped) → CallLists
calls_by calls ranges = record { calls = calls; ranges = ranges }

own_mapped : (n depth : ℕ) (spans : List Span) → own_all n (map (grouped depth) spans) ≡ map (call_range depth n) spans
own_mapped n depth [] = refl
own_mapped n depth (s ∷ rest) = ap (λ (l : List (Owned Grouped)). call_range depth n s ∷ l) (own_mapped n depth rest)

pub call_more : (u : UnitParts) (calls : List InlinedFunction) (old : List Grouped) (owners : List ℕ) (spans : List Span) (depth : ℕ) (d : Description) → ranges_in u d.ranges ≡ Some spans → length old ≡ length owners
    → call_added u (record { calls = calls; ranges = owned old owners }) depth d ≡ Some (record { calls = calls ++ call_by d ∷ []; ranges = owned (old ++ map (grouped depth) spans) (filled_up owners (length calls) (length (old ++ map (grouped depth) spans))) })
unfolding call_added
call_more u calls old owners spans depth d is e =
    let new : List Grouped = map (grouped depth) spans in
    let more : owned (old ++ new) (filled_up owners (length calls) (length (old ++ new))) ≡ owned old owners ++ map (call_range depth (length calls)) spans =
    owned_more old new owners (length calls) (length (old ++ new)) e refl ∙ ap (λ (l : List (Owned Grouped)). owned old owners ++ l) (own_mapped (length calls) depth spans) in
    rw is (ap (λ (r : List (Owned Grouped)). Some (calls_by (calls ++ call_by d ∷ []) r)) (sym more))

pub call_fails : (u : UnitParts) (l : CallLists) (depth : ℕ) (d : Description) → ranges_in u d.ranges ≡ None → call_added u l depth d ≡ None
unfolding call_added
call_fails u l depth d h = rw h refl
