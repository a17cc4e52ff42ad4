-- Ranges of a unit behind those of others.
use Rattle.std.proofs.Common.{◌≡◌, ◌≢◌, ℕ, suc, ◌+◌, ◌<◌, ◌≤◌, true, false, Bool, List, [], ◌∷◌, ◌++◌, length, length-append, get_or, drop, drop-cons, append_assoc, Option, Some, None, refl, sym, ap, ◌∙◌, arith}
use Rattle.std.proofs.Math.ListN.{drop_of_length-le}
use Rattle.std.proofs.lemmas.Bool.{lt-ltb, false≢true}
use Rattle.std.proofs.lemmas.List.{append-nil}
use Rattle.blz_error.specs.declared.kind.ErrorKind.{ErrorKind}
use Rattle.blz_error.specs.declared.kind.ErrorKind.TheVariants.{OutOfMemory}
use Rattle.blz_model.specs.Part.{Good, Fails}
use Rattle.blz_model.specs.Reads.{◌>>=◌}
use Rattle.blz_info.specs.Marks.{or_invalid}
use Rattle.blz_entry.specs.RangeLists.{appended}
use Rattle.blz_ranges.specs.declared.span.Span.{Span}
use Rattle.blz_info.proofs.Marked.{good_some, marks_on}
use Rattle.blz_line.specs.Lookups.{span_of, spans_of}
use Rattle.blz_line.specs.Sequences.{Sequence}
use Rattle.blz_line.specs.UnitLines.{LineTable}
use Rattle.blz_functions.specs.Leaves.{UnitParts, ranges_in}
use Rattle.blz_units.specs.UnitTables.{added, added_to, by_root, or_sequences, root_behind, root_spans, lines_in, sequences_of}

-- A fault that is no want of memory is the mark of a part that is not there.
pub not_there : {A : Type 0} (o : Option A) (kind : ErrorKind) → Fails kind (or_invalid o) → kind ≢ OutOfMemory → o ≡ None
not_there None kind fails other = refl
not_there (Some x) kind fails other = absurd (let k = fails other in cc)

pub no_more : (out : List Span) → out ≡ out ++ []
no_more out = sym (append-nil out)

pub lines_there : (o : Option (Option LineTable)) (t : LineTable) → or_invalid o ≡ Good (Some t) → sequences_of o ≡ spans_of t.sequences
lines_there o t e = ap (λ (k : Option (Option LineTable)). sequences_of k) (good_some o (Some t) e)

pub no_lines : (o : Option (Option LineTable)) → or_invalid o ≡ Good None → sequences_of o ≡ []
no_lines o e = ap (λ (k : Option (Option LineTable)). sequences_of k) (good_some o None e)

pub no_value : (o : Option (Option LineTable)) (kind : ErrorKind) → Fails kind (or_invalid o) → kind ≢ OutOfMemory → sequences_of o ≡ []
no_value o kind fails other = ap (λ (k : Option (Option LineTable)). sequences_of k) (not_there o kind fails other)

-- ---- the root of a unit

-- what is read of a root: its ranges behind others, and whether there is one
abbrev pub IsRead : UnitParts → List Span → List Span → Bool → Type 0
IsRead u old new some = (ranges_in u u.root.ranges >>= appended old) ≡ Some (new, some)

abbrev pub list_of : Option (List Span × Bool) → List Span
list_of None = []
list_of (Some r) = r.0

abbrev pub flag_of : Option (List Span × Bool) → Bool
flag_of None = false
flag_of (Some r) = r.1

root_some : (u : UnitParts) (o : Option (List Span)) (old new : List Span) → (o >>= appended old) ≡ Some (new, true) → (o >>= λ spans. Some (old ++ or_sequences u spans)) ≡ Some new
root_some u None old new e = absurd cc
root_some u (Some []) old new e = absurd (false≢true (ap flag_of e))
root_some u (Some (s ∷ spans)) old new e = ap (λ (l : List Span). Some l) (ap list_of e)

root_none : (u : UnitParts) (o : Option (List Span)) (old now : List Span) → (o >>= appended old) ≡ Some (now, false) → (o >>= λ spans. Some (old ++ or_sequences u spans)) ≡ Some (now ++ or_sequences u [])
root_none u None old now e = absurd cc
root_none u (Some []) old now e = ap (λ (l : List Span). Some (l ++ or_sequences u [])) (sym (append-nil old) ∙ ap list_of e)
root_none u (Some (s ∷ spans)) old now e = absurd (false≢true (sym (ap flag_of e) ∙ lt-ltb 0 (length (s ∷ spans)) (omega arith)))

regrouped : (u : UnitParts) (o : Option (List Span)) (old : List Span) → ((o >>= λ spans. Some (or_sequences u spans)) >>= λ spans. Some (old ++ spans)) ≡ (o >>= λ spans. Some (old ++ or_sequences u spans))
regrouped u None old = refl
regrouped u (Some spans) old = refl

pub root_read : (u : UnitParts) (old new : List Span) → IsRead u old new true → root_behind u old ≡ Some new
root_read u old new e = regrouped u (ranges_in u u.root.ranges) old ∙ root_some u (ranges_in u u.root.ranges) old new e

pub root_empty : (u : UnitParts) (old now new : List Span) → IsRead u old now false → new ≡ now ++ sequences_of (lines_in u) → root_behind u old ≡ Some new
root_empty u old now new e k = regrouped u (ranges_in u u.root.ranges) old ∙ root_none u (ranges_in u u.root.ranges) old now e ∙ ap (λ (l : List Span). Some l) (sym k)

nothing_behind : (u : UnitParts) (o : Option (List Span)) (old : List Span) → o ≡ None → ((o >>= λ spans. Some (or_sequences u spans)) >>= λ spans. Some (old ++ spans)) ≡ None
nothing_behind u None old e = refl
nothing_behind u (Some spans) old e = absurd cc

pub root_fails : (u : UnitParts) (old : List Span) (kind : ErrorKind) → Fails kind (or_invalid (ranges_in u u.root.ranges)) → Fails kind (or_invalid (root_behind u old))
root_fails u old kind fails = marks_on kind (ranges_in u u.root.ranges) (root_behind u old) fails (nothing_behind u (ranges_in u u.root.ranges) old)

-- ---- a unit that is built where it can be

abbrev pub built_behind : Option UnitParts → List Span → Option (List Span × Bool)
built_behind unit old = added_to old (by_root unit)

abbrev with_flag : List Span → Bool → Option (List Span × Bool)
with_flag l b = Some (l, b)

kept_root : (o : Option (List Span)) (old new : List Span) → (o >>= λ spans. Some (old ++ spans)) ≡ Some new → ((o >>= λ spans. Some (Some spans)) >>= λ k. Some (added old k)) ≡ Some (new, true)
kept_root None old new e = absurd cc
kept_root (Some spans) old new e = let k : old ++ spans ≡ new = cc in ap (λ (l : List Span). with_flag l true) k

pub built_kept : (unit : Option UnitParts) (u : UnitParts) (old new : List Span) → unit ≡ Some u → root_behind u old ≡ Some new → built_behind unit old ≡ Some (new, true)
built_kept unit u old new e k = ap (λ o. built_behind o old) e ∙ kept_root (root_spans u) old new k

pub built_left : (unit : Option UnitParts) (old : List Span) → unit ≡ None → built_behind unit old ≡ Some (old, false)
built_left unit old e = ap (λ o. built_behind o old) e

root_lost : (o : Option (List Span)) (old : List Span) → (o >>= λ spans. Some (old ++ spans)) ≡ None → ((o >>= λ spans. Some (Some spans)) >>= λ k. Some (added old k)) ≡ None
root_lost None old e = refl
root_lost (Some spans) old e = absurd cc

pub built_fails : (unit : Option UnitParts) (u : UnitParts) (old : List Span) (kind : ErrorKind) → unit ≡ Some u → Fails kind (or_invalid (root_behind u old)) → Fails kind (or_invalid (built_behind unit old))
built_fails unit u old kind e fails = marks_on kind (root_behind u old) (built_behind unit old) fails (λ none. ap (λ o. built_behind o old) e ∙ root_lost (root_spans u) old none)

-- ---- ranges that a set tells

pub none_named : (old new named : List Span) → new ≡ old ++ named → length new ≤ length old → (named ≡ []) × (new ≡ old)
none_named old new [] e le = (refl, e ∙ append-nil old)
none_named old new (s ∷ named) e le = absurd (let k = length-append old (s ∷ named) in let l = ap length e in omega arith)

-- ---- what sequences cover

pub spans_more : (sequences : List Sequence) (i : ℕ) (x : Sequence) (front : List Span) → i < length sequences → x ≡ get_or sequences i x → front ++ spans_of (drop i sequences) ≡ (front ++ span_of x ∷ []) ++ spans_of (drop (i + 1) sequences)
spans_more sequences i x front lt e =
    let k : i + 1 ≡ suc i = omega arith in
    let cut : drop i sequences ≡ x ∷ drop (suc i) sequences = drop-cons sequences i x lt ∙ ap (λ (y : Sequence). y ∷ drop (suc i) sequences) (sym e) in
    rw (k, cut) (sym (append_assoc front (span_of x ∷ []) (spans_of (drop (suc i) sequences))))

pub spans_over : (sequences : List Sequence) (i : ℕ) (front : List Span) → length sequences ≤ i → front ++ spans_of (drop i sequences) ≡ front
spans_over sequences i front le = let e = drop_of_length-le sequences {i = i} le in rw e (append-nil front)
