use Rattle.std.proofs.Common.{◌∙◌, ap, arith}
use Rattle.std.specs.Option.{unwrap_or}
use Rattle.blz_fold.proofs.LineTable.{count_fits, table_counts}
use Rattle.blz_fold.proofs.lines.Lines.add.Goals as goal

pub overflow_add-before : goal.overflow_add-before
overflow_add-before c =
    let is = c.unwrap_or-before.ensures ∙ ap (λ o. unwrap_or o 0) (c.copied.ensures ∙ c.get.ensures.value) in
    let fits = count_fits c.self.inside.counts.entries c.in_ok-key.key c.args.self.now c.unwrap_or-before.result c.args.count c.self.view_is is c.requires in
    omega (arith, fits)

pub returns : goal.returns
returns c =
    let is = c.unwrap_or-before.ensures ∙ ap (λ o. unwrap_or o 0) (c.copied.ensures ∙ c.get.ensures.value) in
    let named = c.in_ok-key.ensures.items_if_clones_equal (λ x y e. e) in
    table_counts c.self.inside.counts.entries c.insert.new.self.entries c.in_ok-key.key c.args.self.now c.args.names.now c.unwrap_or-before.result c.args.count c.self.view_is named is c.in_ok-insert.ensures.entries
