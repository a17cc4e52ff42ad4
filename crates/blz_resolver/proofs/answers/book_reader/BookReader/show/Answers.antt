use Rattle.std.proofs.Common.{ap, ◌∙◌, arith}
use Rattle.std.proofs.lemmas.List.{get_or_default}
use Rattle.blz_relocations.specs.Flows.{is_break}
use Rattle.blz_bundle.specs.BundleViews.{bundle_view}
use Rattle.blz_resolver.specs.FunctionNames.{function_info}
use Rattle.blz_resolver.proofs.ShownSteps.{one_shown, one_breaks, all_shown}
use Rattle.blz_resolver.proofs.answers.book_reader.BookReader.show.Goals as goal

pub returns-in-Break : goal.returns-in-Break
returns-in-Break g c =
    one_breaks (function_info c.args.self.now.dwarf.texts (bundle_view c.args.self.now.bundle) c.args.asked) c.args.functions.now c.loop-function.function-index _ c.loop-function-test.true (get_or_default c.args.functions.now c.loop-function.function-index _ _ c.loop-function-test.true) _ _ _ _ _ _ c.if-is_none.ensures c.in_ok-info.ensures c.visit.ensures.shown (c.visit.ensures.stopped ∙ ap is_break c.in-Break.is) c.loop-function.invariant.so_far

pub loop-function-preserved : goal.loop-function-preserved
loop-function-preserved g c = record {
  goes_on = c.visit.ensures.stopped ∙ ap is_break c.in_default.is;
  so_far = one_shown (function_info c.args.self.now.dwarf.texts (bundle_view c.args.self.now.bundle) c.args.asked) c.args.functions.now c.loop-function.function-index _ c.loop-function-test.true (get_or_default c.args.functions.now c.loop-function.function-index _ _ c.loop-function-test.true) _ _ _ _ _ c.if-is_none.ensures c.in_ok-info.ensures c.visit.ensures.shown c.loop-function.invariant.so_far;
}

pub returns : goal.returns
returns g c =
    all_shown (function_info c.args.self.now.dwarf.texts (bundle_view c.args.self.now.bundle) c.args.asked) c.args.functions.now c.loop-function.function-index _ _ _ _ (omega (arith, c.loop-function.auto.function-index-end, c.loop-function-test.false)) c.loop-function.invariant.goes_on c.loop-function.invariant.so_far
