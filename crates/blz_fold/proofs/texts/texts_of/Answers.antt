use Rattle.std.proofs.Common.{◌∙◌, ◌++◌, ◌∷◌, [], sym, refl, get_or}
use Rattle.std.proofs.lemmas.List.{map_more}
use Rattle.blz_fold.specs.Numbered.{name_at}
use Rattle.blz_fold.proofs.MapSteps.{name_read}
use Rattle.blz_fold.proofs.texts.texts_of.Goals as goal

pub loop-number-preserved : goal.loop-number-preserved
loop-number-preserved c =
    let table = c.args.names.now in
    let i = c.loop-number.number-index in
    let name = c.owned.ensures ∙ c.in_ok-from_str.ensures.ok ∙ name_read table (get_or c.args.numbers.now i 0) c.get.result c.unwrap_or-name.result _ c.get.ensures c.unwrap_or-name.ensures refl in
    c.in_ok-push.ensures.items ∙ (λ j. c.loop-number.invariant j ++ name j ∷ []) ∙ sym (map_more (name_at table) c.args.numbers.now i 0 c.loop-number-test.true)
