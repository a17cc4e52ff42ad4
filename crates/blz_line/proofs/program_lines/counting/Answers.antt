use Rattle.std.proofs.Common.{◌≡◌, ℕ, zero, suc, ◌+◌, List, [], ◌∷◌, ◌++◌, ap, sym, ◌∙◌, arith}
use Rattle.std.specs.List.{range_with_len}
use Rattle.blz_line.proofs.program_lines.counting.Goals as goal

one_more : (a n j : ℕ) → a + n ≡ j → range_with_len a (suc n) ≡ range_with_len a n ++ j ∷ []
one_more a zero j e = let q : a ≡ j = omega arith in ap (λ (x : ℕ). x ∷ []) q
one_more a (suc n) j e = ap (λ (xs : List ℕ). a ∷ xs) (one_more (a + 1) n j (omega arith))

pub loop-place-preserved : goal.loop-place-preserved
loop-place-preserved c =
    let e : c.loop-place.place + 1 ≡ suc c.loop-place.place = omega arith in
    c.in_ok-push.ensures.items ∙ (ap (λ (xs : List ℕ). xs ++ c.loop-place.place ∷ []) c.loop-place.invariant ∙ (sym (one_more 0 c.loop-place.place c.loop-place.place (omega arith)) ∙ ap (range_with_len 0) (sym e)))
