use Rattle.std.proofs.Common.{◌≡◌, ◌∙◌, ◌++◌, ap, sym, map, take, get_or, length, arith, append_assoc}
use Rattle.std.proofs.lemmas.List.{length-map, length-take-le, map_more}
use Rattle.blz_fold.specs.FoldTexts.{names_text, separator}
use Rattle.blz_fold.specs.Numbered.{name_at}
use Rattle.blz_fold.proofs.PrintSteps.{names_further}
use Rattle.blz_fold.proofs.printing.push_names.Goals as goal

pub loop-i-preserved : goal.loop-i-preserved
loop-i-preserved c =
    let table = c.args.names.now in
    let numbers = c.args.numbers.now in
    let i = c.loop-i.i in
    let old = c.args.out.now.items in
    let names = map (name_at table) (take i numbers) in
    let name = name_at table (get_or numbers i 0) in
    let count : length names ≡ i = length-map (take i numbers) (name_at table) ∙ length-take-le i numbers (omega (arith, c.loop-i-test.true)) in
    let further = map_more (name_at table) numbers i 0 c.loop-i-test.true in
    c.in_ok-push_name.ensures ∙ ap (λ z. z ++ name) c.in_ok-push_separator.ensures ∙ ap (λ z. (z ++ separator i) ++ name) c.loop-i.invariant
    ∙ ap (λ z. z ++ name) (append_assoc old (names_text names) (separator i)) ∙ append_assoc old (names_text names ++ separator i) name
    ∙ ap (λ z. old ++ z) (ap (λ n. (names_text names ++ separator n) ++ name) (sym count) ∙ sym (names_further names name) ∙ ap (λ z. names_text z) (sym further))
