-- The least line of rows that are passed one after another.
use Rattle.std.proofs.Common.{◌≡◌, ℕ, ◌+◌, ◌<◌, ◌≤◌, List, length, drop, get_or, Option, Some, None, refl, sym, ap, ◌∙◌, arith}
use Rattle.std.proofs.lemmas.List.{at_drop_more, at_drop_all}
use Rattle.blz_rows.specs.Asking.{least_line}
use Rattle.blz_rows.specs.LineAnswers.{lesser}
use Rattle.blz_rows.specs.declared.found.FoundRow.{FoundRow}

-- the lesser of two lines that may not be there
abbrev pub either : Option ℕ → Option ℕ → Option ℕ
either None rest = rest
either (Some line) rest = Some (lesser line rest)

either-lesser : (least rest : Option ℕ) (line : ℕ) → either (Some (lesser line least)) rest ≡ either least (Some (lesser line rest))
either-lesser None rest line = refl
either-lesser (Some a) None line = ap (λ (n : ℕ). Some n) (omega arith)
either-lesser (Some a) (Some b) line = ap (λ (n : ℕ). Some n) (omega arith)

pub least_step : (least : Option ℕ) (rows : List FoundRow) (i : ℕ) (d : FoundRow) → i < length rows
    → either (Some (lesser (get_or rows i d).line least)) (least_line (drop (i + 1) rows)) ≡ either least (least_line (drop i rows))
least_step least rows i d lt =
    either-lesser least (least_line (drop (i + 1) rows)) (get_or rows i d).line ∙ sym (ap (either least) (at_drop_more least_line rows i d lt))

either-none : (least : Option ℕ) → either least None ≡ least
either-none None = refl
either-none (Some line) = refl

pub least_over : (least : Option ℕ) (rows : List FoundRow) (i : ℕ) → length rows ≤ i → either least (least_line (drop i rows)) ≡ least
least_over least rows i le = ap (either least) (at_drop_all least_line rows i le) ∙ either-none least
