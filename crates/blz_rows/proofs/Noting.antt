-- Verdicts that are noted.
use Rattle.std.proofs.Common.{◌≡◌, ◌⊎◌, ℕ, zero, suc, List, [], ◌∷◌, set, Option, Some, refl, ap, inl, inr}
use Rattle.std.specs.List.{slice_get}
use Rattle.blz_rows.specs.Judging.{verdict_of, AreNoted}
use Rattle.blz_rows.specs.declared.verdict.Verdict.{Verdict}

abbrev Noted : Type 0
Noted = Option Verdict

-- what stands in a list with one element put
put_or_kept : (noted : List Noted) (i k : ℕ) (put other : Noted) → slice_get (set noted i put) k ≡ Some other
    → ((k ≡ i) × (other ≡ put)) ⊎ (slice_get noted k ≡ Some other)
put_or_kept [] i k put other e = inr e
put_or_kept (x ∷ noted) zero zero put other e = inl (refl, cc)
put_or_kept (x ∷ noted) zero (suc k) put other e = inr e
put_or_kept (x ∷ noted) (suc i) zero put other e = inr e
put_or_kept (x ∷ noted) (suc i) (suc k) put other e = behind (put_or_kept noted i k put other e)
  where
    behind : ((k ≡ i) × (other ≡ put)) ⊎ (slice_get noted k ≡ Some other) → ((suc k ≡ suc i) × (other ≡ put)) ⊎ (slice_get noted k ≡ Some other)
    behind (inl at) = inl (ap suc at.0, at.1)
    behind (inr kept) = inr kept

pub noted_more : (files : List (List ℕ × List ℕ)) (name : List ℕ) (noted : List Noted) (i : ℕ) (verdict : Verdict)
    → AreNoted files name noted → verdict ≡ verdict_of name (slice_get files i) → AreNoted files name (set noted i (Some verdict))
noted_more files name noted i verdict old is number other e = from (put_or_kept noted i number (Some verdict) (Some other) e)
  where
    from : ((number ≡ i) × (Some other ≡ Some verdict)) ⊎ (slice_get noted number ≡ Some (Some other)) → other ≡ verdict_of name (slice_get files number)
    from (inl at) =
        let same : other ≡ verdict = let h : Some other ≡ Some verdict = at.1 in cc in
        let here : number ≡ i = at.0 in
        rw (here, same) is
    from (inr kept) = old number other kept
