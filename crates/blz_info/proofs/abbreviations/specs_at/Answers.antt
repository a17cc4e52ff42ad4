use Rattle.std.proofs.Common.{◌-◌, ◌+◌, length, arith, sym, ap, ◌∙◌}
use Rattle.blz_info.proofs.Marked.{marks}
use Rattle.blz_info.specs.Marks.{or_invalid}
use Rattle.blz_info.proofs.AbbreviationSteps.{specs_more, specs_last, specs_none, specs_end}
use Rattle.blz_info.proofs.abbreviations.specs_at.Goals as goal

pub returns-in_default : goal.returns-in_default
returns-in_default c =
    marks _ _ (sym c.loop.invariant ∙ specs_none _ (length c.args.bytes.now - (c.loop.counter + 1)) _ _ _ (omega arith) (sym c.in_default.ensures)) c.invalid.ensures

pub returns-then-is_last : goal.returns-then-is_last
returns-then-is_last c =
    ap or_invalid (sym c.loop.invariant ∙ specs_last _ (length c.args.bytes.now - (c.loop.counter + 1)) _ _ _ _ c.in-Some.spec (omega arith) (sym c.in-Some.ensures) (sym c.if-is_last.ensures))

pub loop-preserved : goal.loop-preserved
loop-preserved c =
    rw c.in_ok-push.ensures.items (sym (specs_more _ (length c.args.bytes.now - (c.loop.counter + 1)) _ _ _ _ c.in-Some.spec (omega arith) (sym c.in-Some.ensures) (sym c.if-is_last.ensures)) ∙ c.loop.invariant)

pub returns : goal.returns
returns c = marks _ _ (sym c.loop.invariant ∙ specs_end _ _ _ _ (omega arith)) c.invalid-2.ensures
