use Rattle.std.proofs.Common.{◌≡◌, ◌-◌, ◌+◌, arith, drop, inl, inr, refl, length, length-drop, take}
use Rattle.std.proofs.lemmas.List.{take_all}
use Rattle.blz_program.proofs.Cuts.{cut_at, not_empty, pieces_of-end_at, pieces_of-no_end}
use Rattle.blz_program.proofs.lines.first_line.Goals as goal

pub returns-in-Some-clause-some : goal.returns-in-Some-clause-some
returns-in-Some-clause-some c =
    let text = c.args.text.now in
    let end = c.in-Some.end in
    let whole : take (length text - (end + 1)) (drop (end + 1) text) ≡ drop (end + 1) text = take_all _ _ (omega (arith, length-drop (end + 1) text)) in
    let found = c.in-Some.ensures in
    rw whole (pieces_of-end_at 10 text end found.0.high found.1 (λ k lt. found.0.before k (omega arith) lt))

pub returns-in-None-clause-some : goal.returns-in-None-clause-some
returns-in-None-clause-some c = pieces_of-no_end 10 c.args.text.now (not_empty _ _ c.is_empty.ensures c.if-is_empty.false) (λ k lt. c.in-None.ensures k (omega arith) lt)

pub returns-in-Some-clause-cut : goal.returns-in-Some-clause-cut
returns-in-Some-clause-cut c =
    let text = c.args.text.now in
    let end = c.in-Some.end in
    let whole : take (length text - (end + 1)) (drop (end + 1) text) ≡ drop (end + 1) text = take_all _ _ (omega (arith, length-drop (end + 1) text)) in
    let found = c.in-Some.ensures in
    rw whole (inl (cut_at 10 text end found.0.high found.1))

pub returns-in-None-clause-cut : goal.returns-in-None-clause-cut
returns-in-None-clause-cut c = inr (refl, refl)
