use Rattle.std.proofs.Common.{◌≡◌, ◌-◌, ◌+◌, ◌∙◌, Some, ap, sym, arith, drop, length, length-drop, take}
use Rattle.std.proofs.lemmas.List.{take_all}
use Rattle.blz_fold.proofs.ParseSteps.{cut_nowhere, cut_there}
use Rattle.blz_fold.proofs.parsing.cut_at_blank.Goals as goal

pub returns-in-Some : goal.returns-in-Some
returns-in-Some c =
    let line = c.args.line.now in
    let blank = c.in-Some.blank in
    let whole : take (length line - (blank + 1)) (drop (blank + 1) line) ≡ drop (blank + 1) line = take_all _ _ (omega (arith, length-drop (blank + 1) line)) in
    let found = c.in-Some.ensures in
    ap (λ z. Some (take blank line, z)) whole ∙ sym (cut_there line blank found.0.high found.1 (λ k lt. found.0.before k (omega arith) lt))

pub returns-in-None : goal.returns-in-None
returns-in-None c = sym (cut_nowhere c.args.line.now (λ k lt. c.in-None.ensures k (omega arith) lt))
