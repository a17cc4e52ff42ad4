use Rattle.std.proofs.Common.{sym, ap, ◌∙◌, arith}
use Rattle.std.proofs.lemmas.Result.{err_from_is_err_and}
use Rattle.blz_info.specs.Marks.{or_invalid}
use Rattle.blz_info.proofs.AttributeSteps.{values_more, values_none, values_end, drop_one_more}
use Rattle.blz_info.proofs.Marked.{marks}
use Rattle.blz_info.proofs.ValueSteps.{value_is, value_none}
use Rattle.blz_info.proofs.listing.read_attributes.Goals as goal

pub returns-in_err-value-clause-value : goal.returns-in_err-value-clause-value
returns-in_err-value-clause-value c =
    let p = err_from_is_err_and c.from_residual.result c.from_residual.ensures.1 in
    let none = value_none _ c.args.entries.now.source c.loop-spec.entries c.loop-spec.invariant.source c.in_err-value.ensures.value.0 in
    rw (p.1, p.2) (marks _ _ (sym c.loop-spec.invariant.rest ∙ values_none _ c.args.specs.now _ _ _ _ _ _ c.loop-spec-test.true none) c.in_err-value.ensures.value.1)

pub loop-spec-preserved : goal.loop-spec-preserved
loop-spec-preserved c =
    let is = value_is _ c.args.entries.now.source c.loop-spec.entries c.read_attribute.new.self c.in_ok-value.value c.loop-spec.invariant.source c.in_ok-value.ensures.value in
    record {
      left = c.in_ok-value.ensures.left ∙ rw c.loop-spec.invariant.left (drop_one_more c.args.specs.now c.loop-spec.spec-index);
      source = c.in_ok-value.ensures.source ∙ c.loop-spec.invariant.source;
      depth = c.in_ok-value.ensures.depth ∙ c.loop-spec.invariant.depth;
      ahead = omega (arith, c.in_ok-value.ensures.ahead, c.loop-spec.invariant.ahead);
      rest = rw c.in_ok-push.ensures.items (sym (values_more _ c.args.specs.now _ _ _ _ _ _ _ c.in_ok-value.value c.loop-spec-test.true is) ∙ c.loop-spec.invariant.rest);
    }

pub returns-clause-value : goal.returns-clause-value
returns-clause-value c = ap or_invalid (sym c.loop-spec.invariant.rest ∙ values_end _ c.args.specs.now _ _ _ _ _ c.loop-spec-test.false)
