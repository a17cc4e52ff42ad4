-- One turn of the loop over a list of ranges.
use Rattle.std.proofs.Common.{◌≡◌, ℕ, zero, suc, ◌+◌, Bool, true, false, cond, List, [], ◌++◌, eqb, inl, inr, Option, Some, None, refl, sym, ap, ◌∙◌, append_assoc}
use Rattle.std.specs.Option.{option_to_list}
use Rattle.std.specs.Prelude.{Result, Ok, Err, MatchResult, OnOk, IfErr}
use Rattle.std.proofs.lemmas.Bool.{cases_Bool}
use Rattle.std.proofs.lemmas.List.{append-nil}
use Rattle.blz_model.specs.Reads.{Read, ◌>>=◌}
use Rattle.blz_error.specs.Fault.{Fault}
use Rattle.blz_error.specs.declared.kind.ErrorKind.TheVariants.{OutOfMemory}
use Rattle.blz_model.specs.Part.{Fails}
use Rattle.blz_info.specs.Marks.{or_invalid}
use Rattle.blz_info.proofs.Marked.{marks_on}
use Rattle.blz_entry.specs.RangeLists.{spans_in, spans_from, spans_at, joined, list_length, range_entry_at, is_end, base_behind, spelled}
use Rattle.blz_entry.specs.declared.range_list.RangeEntry.{RangeEntry}
use Rattle.blz_entry.specs.declared.root.UnitRoot.{UnitRoot}
use Rattle.blz_info.specs.declared.section.Sections.{Sections}
use Rattle.blz_ranges.specs.declared.span.Span.{Span}
use Rattle.blz_info.specs.declared.units.UnitHeader.{UnitHeader}

pub spans_more : (s : Sections) (h : UnitHeader) (root : UnitRoot) (m n base at next : ℕ) (so_far : List Span) (entry : RangeEntry) → m ≡ suc n → eqb at (list_length s h) ≡ false → range_entry_at s h root at ≡ Some (entry, next) → is_end entry ≡ false → spans_in s h root m base so_far at ≡ spans_in s h root n (base_behind base entry) (so_far ++ option_to_list (spelled h.version h.address_size base entry)) next
unfolding spans_in
spans_more s h root m n base at next so_far entry em here e more = rw (em, here, e, more) refl

pub spans_last : (s : Sections) (h : UnitHeader) (root : UnitRoot) (m n base at next : ℕ) (so_far : List Span) (entry : RangeEntry) → m ≡ suc n → eqb at (list_length s h) ≡ false → range_entry_at s h root at ≡ Some (entry, next) → is_end entry ≡ true → spans_in s h root m base so_far at ≡ Some so_far
unfolding spans_in
spans_last s h root m n base at next so_far entry em here e more = rw (em, here, e, more) refl

pub spans_none : (s : Sections) (h : UnitHeader) (root : UnitRoot) (m n base at : ℕ) (so_far : List Span) → m ≡ suc n → eqb at (list_length s h) ≡ false → range_entry_at s h root at ≡ None → spans_in s h root m base so_far at ≡ None
unfolding spans_in
spans_none s h root m n base at so_far em here e = rw (em, here, e) refl

pub spans_here : (s : Sections) (h : UnitHeader) (root : UnitRoot) (m n base at : ℕ) (so_far : List Span) → m ≡ suc n → eqb at (list_length s h) ≡ true → spans_in s h root m base so_far at ≡ Some so_far
unfolding spans_in
spans_here s h root m n base at so_far em here = rw (em, here) refl

pub spans_over : (s : Sections) (h : UnitHeader) (root : UnitRoot) (m base at : ℕ) (so_far : List Span) → m ≡ 0 → spans_in s h root m base so_far at ≡ None
unfolding spans_in
spans_over s h root m base at so_far em = rw em refl

-- what stands in front of a list stays in front
pub spans_behind : (s : Sections) (h : UnitHeader) (root : UnitRoot) (n base at : ℕ) (front so_far : List Span) → spans_in s h root n base (front ++ so_far) at ≡ joined front (spans_in s h root n base so_far at)
unfolding spans_in
spans_behind s h root zero base at front so_far = refl
spans_behind s h root (suc n) base at front so_far =
    elim (cases_Bool (eqb at (list_length s h))) [
      | inl here ↦ rw here refl
      | inr there ↦ rw there (behind_entry s h root n base front so_far (range_entry_at s h root at) (λ b xs next. spans_behind s h root n b next front xs))
    ]
  where
    behind_end : (s : Sections) (h : UnitHeader) (root : UnitRoot) (n base : ℕ) (front so_far : List Span) (entry : RangeEntry) (next : ℕ) (ended : Bool)
        → ((b : ℕ) (xs : List Span) (next : ℕ) → spans_in s h root n b (front ++ xs) next ≡ joined front (spans_in s h root n b xs next))
        → cond ended (Some (front ++ so_far)) (spans_in s h root n (base_behind base entry) ((front ++ so_far) ++ option_to_list (spelled h.version h.address_size base entry)) next) ≡ joined front (cond ended (Some so_far) (spans_in s h root n (base_behind base entry) (so_far ++ option_to_list (spelled h.version h.address_size base entry)) next))
    behind_end s h root n base front so_far entry next true again = refl
    behind_end s h root n base front so_far entry next false again =
        ap (λ (xs : List Span). spans_in s h root n (base_behind base entry) xs next) (append_assoc front so_far (option_to_list (spelled h.version h.address_size base entry))) ∙ again (base_behind base entry) (so_far ++ option_to_list (spelled h.version h.address_size base entry)) next

    behind_entry : (s : Sections) (h : UnitHeader) (root : UnitRoot) (n base : ℕ) (front so_far : List Span) (o : Read RangeEntry)
        → ((b : ℕ) (xs : List Span) (next : ℕ) → spans_in s h root n b (front ++ xs) next ≡ joined front (spans_in s h root n b xs next))
        → (o >>= λ entry. cond (is_end entry.0) (Some (front ++ so_far)) (spans_in s h root n (base_behind base entry.0) ((front ++ so_far) ++ option_to_list (spelled h.version h.address_size base entry.0)) entry.1)) ≡ joined front (o >>= λ entry. cond (is_end entry.0) (Some so_far) (spans_in s h root n (base_behind base entry.0) (so_far ++ option_to_list (spelled h.version h.address_size base entry.0)) entry.1))
    behind_entry s h root n base front so_far None again = refl
    behind_entry s h root n base front so_far (Some e) again = behind_end s h root n base front so_far e.0 e.1 (is_end e.0) again

pub list_behind : (front : List Span) (s : Sections) (h : UnitHeader) (root : UnitRoot) (offset : ℕ) → spans_from front s h root offset ≡ joined front (spans_at s h root offset)
unfolding spans_from
list_behind front s h root offset =
    ap (λ (xs : List Span). spans_in s h root (list_length s h + 1) root.low_pc xs offset) (sym (append-nil front)) ∙ spans_behind s h root (list_length s h + 1) root.low_pc offset front []

pub joined_none : (front : List Span) (o : Option (List Span)) → joined front o ≡ None → o ≡ None
joined_none front None e = refl
joined_none front (Some xs) e = absurd cc

-- what a call that appends a list says of the ranges
pub list_told : (r : Result (Unit {0}) Fault) (front new : List Span) (o p : Option (List Span)) → o ≡ joined front p → MatchResult r (λ _. o ≡ Some new) (λ e. Fails e.kind (or_invalid o)) → MatchResult r (λ _. joined front p ≡ Some new) (λ e. Fails e.kind (or_invalid p))
list_told (Ok x) front new o p same h = sym same ∙ h
list_told (Err e) front new o p same h = marks_on e.kind o p h (λ none. joined_none front p (sym same ∙ none))

pub put_told : (r : Result (Unit {0}) Fault) (front new : List Span) (span : Option Span) → OnOk r (new ≡ front ++ option_to_list span) → IfErr r (λ e. e.kind ≡ OutOfMemory) → MatchResult r (λ _. joined front (Some (option_to_list span)) ≡ Some new) (λ e. Fails e.kind (or_invalid (Some (option_to_list span))))
put_told (Ok x) front new span h m = ap (λ (xs : List Span). Some xs) (sym h)
put_told (Err e) front new span h m = λ ne. absurd (ne m)
