-- Counting in a table of lines.
use Rattle.std.proofs.Common.{◌≡◌, ◌≤◌, ◌<◌, ◌+◌, ◌^◌, ℕ, Bool, true, false, List, [], ◌∷◌, map, Some, refl, ap, ◌∙◌, cond, nat_eq, arith}
use Rattle.std.specs.Cmp.Lexicographic.{pointwise}
use Rattle.std.specs.Option.{unwrap_or}
use Rattle.std.specs.Map.{lookup}
use Rattle.std.specs.declared.vec.Vec.{Vec}
use Rattle.std.proofs.lemmas.List.Sums.{sum_by-cons}
use Rattle.indexmap.specs.IndexMap.{insert_entry}
use Rattle.blz_fold.specs.Counted.{Counted, total, count_in}
use Rattle.blz_fold.specs.Adding.{line_added}
use Rattle.blz_fold.specs.LineViews.{line_view}

module _ {Z : Type 0} where
  held_at_most : (test : Vec ℕ Z → Bool) (es : List (Vec ℕ Z × ℕ)) → unwrap_or (lookup test es) 0 ≤ total (map line_view es)
  held_at_most test [] = omega arith
  held_at_most test (e ∷ es) = by (test e.0) (held_at_most test es)
    where
      by : (b : Bool) → unwrap_or (lookup test es) 0 ≤ total (map line_view es) → unwrap_or (cond b (Some e.1) (lookup test es)) 0 ≤ total (line_view e ∷ map line_view es)
      by true h = omega (arith, sum_by-cons count_in (line_view e) (map line_view es))
      by false h = omega (arith, sum_by-cons count_in (line_view e) (map line_view es))

  abbrev equal : Vec ℕ Z → Vec ℕ Z → Bool
  equal x y = pointwise nat_eq x.items y.items

  abbrev held : List (Vec ℕ Z × ℕ) → Vec ℕ Z → ℕ
  held es k = unwrap_or (lookup (equal k) es) 0

  counted_in_table : (es : List (Vec ℕ Z × ℕ)) (k : Vec ℕ Z) (c : ℕ) → map line_view (insert_entry equal es k (held es k + c)) ≡ line_added nat_eq (map line_view es) k.items c
  counted_in_table [] k c = ap (λ n. record { names = k.items; count = n } ∷ []) (omega arith)
  counted_in_table (e ∷ es) k c = by (equal k e.0) (counted_in_table es k c)
    where
      by : (b : Bool) → map line_view (insert_entry equal es k (held es k + c)) ≡ line_added nat_eq (map line_view es) k.items c →
          map line_view (cond b ((e.0, unwrap_or (cond b (Some e.1) (lookup (equal k) es)) 0 + c) ∷ es) (e ∷ insert_entry equal es k (unwrap_or (cond b (Some e.1) (lookup (equal k) es)) 0 + c)))
          ≡ cond b (record { names = e.0.items; count = e.1 + c } ∷ map line_view es) (line_view e ∷ line_added nat_eq (map line_view es) k.items c)
      by true h = refl
      by false h = ap (λ z. line_view e ∷ z) h

  pub count_fits : (es : List (Vec ℕ Z × ℕ)) (k : Vec ℕ Z) (lines : List (Counted ℕ)) (before count : ℕ) → map line_view es ≡ lines → before ≡ held es k → total lines + count < 2 ^ 64 → before + count < 2 ^ 64
  count_fits es k lines before count are is fits = omega (arith, held_at_most (equal k) es, ap (λ l. total l) are, is, fits)

  pub table_counts : (es new : List (Vec ℕ Z × ℕ)) (k : Vec ℕ Z) (lines : List (Counted ℕ)) (names : List ℕ) (before count : ℕ) → map line_view es ≡ lines → k.items ≡ names → before ≡ held es k → new ≡ insert_entry equal es k (before + count) → map line_view new ≡ line_added nat_eq lines names count
  table_counts es new k lines names before count are named is added =
      ap (λ z. map line_view z) added ∙ ap (λ n. map line_view (insert_entry equal es k (n + count))) is ∙ counted_in_table es k count
      ∙ (λ i. line_added nat_eq (are i) (named i) count)
