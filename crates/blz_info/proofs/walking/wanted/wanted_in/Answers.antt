use Rattle.std.proofs.Common.{sym, ap, ◌∙◌, arith}
use Rattle.std.specs.Prelude.{option_map}
use Rattle.blz_info.specs.Wanted.{met_view}
use Rattle.blz_info.proofs.WantedSteps.{wanted_none, wanted_found, wanted_more, wanted_end}
use Rattle.blz_info.proofs.walking.wanted.wanted_in.Goals as goal

pub loop-index-preserved : goal.loop-index-preserved
loop-index-preserved c = record {
  ahead = omega (arith, c.in_ok-value.ensures.within);
  within = λ le. c.in_ok-value.ensures.within.1 (c.loop-index.invariant.within le);
  rest = sym (wanted_more c.args.specs.now c.loop-index.index _ _ _ _ _ _ _ c.loop-index-test.true (sym c.in_ok-value.ensures.value) (sym c.if-is_wanted.ensures)) ∙ c.loop-index.invariant.rest;
}

pub returns-in_err-value-clause-value : goal.returns-in_err-value-clause-value
returns-in_err-value-clause-value c =
    ap (option_map (met_view c.args.specs.now)) c.from_residual.ensures
    ∙ sym (wanted_none c.args.specs.now c.loop-index.index _ _ _ _ _ c.loop-index-test.true (sym c.in_err-value.ensures.value)) ∙ c.loop-index.invariant.rest

pub returns-then-is_wanted-clause-value : goal.returns-then-is_wanted-clause-value
returns-then-is_wanted-clause-value c =
    sym (wanted_found c.args.specs.now c.loop-index.index _ _ _ _ _ _ _ c.loop-index-test.true (sym c.in_ok-value.ensures.value) (sym c.if-is_wanted.ensures)) ∙ c.loop-index.invariant.rest

pub returns-clause-value : goal.returns-clause-value
returns-clause-value c = wanted_end c.args.specs.now c.loop-index.index _ _ _ _ c.loop-index-test.false ∙ c.loop-index.invariant.rest
