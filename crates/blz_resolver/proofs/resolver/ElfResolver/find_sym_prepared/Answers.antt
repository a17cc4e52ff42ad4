use Rattle.std.proofs.Common.{true}
use Rattle.blz_elf.specs.AnswerView.{answer_view}
use Rattle.blz_bundle.specs.BundleViews.{bundle_view}
use Rattle.blz_resolver.proofs.DebugMarks.{marks_answer}
use Rattle.blz_resolver.proofs.FormatMarks.{exactly_kinds, marks_image_symbol}
use Rattle.blz_resolver.proofs.resolver.ElfResolver.find_sym_prepared.Goals as goal

pub returns-in-Some-clause-kinds : goal.returns-in-Some-clause-kinds
returns-in-Some-clause-kinds g c = exactly_kinds answer_view c.find_sym_prepared.result _ (marks_answer (bundle_view c.self.inside.bundle) true c.args.addr c.args.opts.now) c.find_sym_prepared.ensures.value

pub returns-in-None-clause-kinds : goal.returns-in-None-clause-kinds
returns-in-None-clause-kinds g c = exactly_kinds answer_view c.find_sym_prepared-in-None.result _ (marks_image_symbol _ _ _) c.find_sym_prepared-in-None.ensures
