use Rattle.std.proofs.Common.{◌≡◌, ℕ, Some}
use Rattle.std.specs.List.{slice_get}
use Rattle.blz_rows.specs.declared.verdict.Verdict.{Verdict}
use Rattle.blz_rows.proofs.judged.no_verdicts.Given as goal

abbrev pub invariant-loop : goal.invariant-loop
invariant-loop l = (number : ℕ) (verdict : Verdict) → slice_get l.noted.items number ≡ Some (Some verdict) → ⊥
