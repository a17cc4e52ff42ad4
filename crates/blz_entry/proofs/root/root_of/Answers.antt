use Rattle.std.proofs.Common.{◌≡◌, sym, ◌∙◌}
use Rattle.blz_entry.proofs.RootSteps.{root_none, root_unread, root_split, root_ranged}
use Rattle.blz_entry.proofs.root.root_of.Goals as goal

pub returns-in_err-first : goal.returns-in_err-first
returns-in_err-first c = c.from_residual.ensures ∙ sym (root_none _ _ _ (sym c.in_err-first.ensures))

pub returns-in_err-values : goal.returns-in_err-values
returns-in_err-values c =
    c.from_residual-in_err-values.ensures ∙ sym (root_unread _ _ _ c.in_ok-first.first (sym c.in_ok-first.ensures) (sym c.in_err-values.ensures))

pub returns-then-sections : goal.returns-then-sections
returns-then-sections c =
    rw (c.with_names-root.ensures, c.based.ensures) (sym (root_split _ _ _ c.in_ok-first.first c.in_ok-values.values (sym c.in_ok-first.ensures) (sym c.in_ok-values.ensures) c.if-sections.true))

pub returns : goal.returns
returns c =
    let both = c.in_ok-again.ensures ∙ sym c.in_ok-first.ensures in
    let same : c.in_ok-again.again ≡ c.in_ok-first.first = cc in
    c.ranged_over.ensures ∙ rw (same, c.with_names-root.ensures, c.based.ensures) (sym (root_ranged _ _ _ c.in_ok-first.first c.in_ok-values.values (sym c.in_ok-first.ensures) (sym c.in_ok-values.ensures) c.if-sections.false))
