use Rattle.std.proofs.Common.{◌≡◌, ◌-◌, ◌+◌, ◌∙◌, ◌∷◌, ap, sym, arith, drop, length, length-drop, take}
use Rattle.std.proofs.lemmas.List.{take_all}
use Rattle.blz_fold.specs.StackLines.{split}
use Rattle.blz_fold.proofs.ParseSteps.{split_nowhere, split_there}
use Rattle.blz_fold.proofs.parsing.cut_at_semicolon.Goals as goal

pub returns-in-Some-clause-some : goal.returns-in-Some-clause-some
returns-in-Some-clause-some c =
    let text = c.args.text.now in
    let end = c.in-Some.end in
    let whole : take (length text - (end + 1)) (drop (end + 1) text) ≡ drop (end + 1) text = take_all _ _ (omega (arith, length-drop (end + 1) text)) in
    let found = c.in-Some.ensures in
    split_there text end found.0.high found.1 (λ k lt. found.0.before k (omega arith) lt) ∙ ap (λ z. take end text ∷ split z) (sym whole)

pub returns-in-None-clause-none : goal.returns-in-None-clause-none
returns-in-None-clause-none c = split_nowhere c.args.text.now (λ k lt. c.in-None.ensures k (omega arith) lt)
