use Rattle.std.proofs.Common.{◌+◌, ℕ, ap, sym, ◌∙◌, slice_get, arith}
use Rattle.blz_cover.specs.LineEntries.{recount}
use Rattle.blz_cover.specs.LineKeys.{entry_view}
use Rattle.blz_cover.proofs.Entries.{recount-set_value_at, recount-past, entry_at, none_at}
use Rattle.blz_cover.proofs.line_table.LineTable.add.Goals as goal

pub overflow_add-line : goal.overflow_add-line
overflow_add-line c =
    let entry = entry_at c.self.inside.entries.entries c.args.index c.in-Some.line.now (sym c.in-Some.ensures.value) in
    omega (arith, c.requires (entry_view (entry.0, c.in-Some.line.now)) (ap (λ es. slice_get es c.args.index) (sym c.self.view_is) ∙ entry.1))

pub returns : goal.returns
returns c =
    let f = λ (n : ℕ). n + c.args.count in
    recount-set_value_at f c.self.inside.entries.entries c.args.index c.in-Some.line.now (sym c.in-Some.ensures.value) ∙ ap (λ es. recount f es c.args.index) c.self.view_is

pub returns-in_default : goal.returns-in_default
returns-in_default c =
    let f = λ (n : ℕ). n + c.args.count in
    let past = none_at c.self.inside.entries.entries c.args.index (sym c.in_default.ensures.value) in
    sym (recount-past f _ c.args.index past) ∙ ap (λ es. recount f es c.args.index) c.self.view_is
