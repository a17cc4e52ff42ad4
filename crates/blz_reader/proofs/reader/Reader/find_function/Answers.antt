use Rattle.std.proofs.Common.{ap, sym, ◌∙◌, ℕ, Option, None, Some}
use Rattle.blz_info.proofs.Marked.{good_some, marks_on}
use Rattle.blz_info.specs.Marks.{or_invalid}
use Rattle.blz_reader.specs.Readers.{reader_files, reader_table}
use Rattle.blz_units.specs.UnitAnswers.{function_at}
use Rattle.blz_reader.proofs.LeftOut.{function_again}
use Rattle.blz_reader.proofs.CacheSteps.{fills_same, fills_again}
use Rattle.blz_reader.proofs.UnitSteps.{function_over, function_on, function_fails}
use Rattle.blz_reader.proofs.reader.Reader.find_function.Goals as goal

pub returns-in-None-clause-value : goal.returns-in-None-clause-value
returns-in-None-clause-value g c =
    ap or_invalid (sym c.loop-number.invariant.rest ∙ function_over (reader_files c.args.self.now) (reader_table c.args.self.now) c.args.addr c.loop-number.units.left (sym c.in-None.ensures.unit))

pub returns-in-Ok-Some-clause-value : goal.returns-in-Ok-Some-clause-value
returns-in-Ok-Some-clause-value g c =
    let f = reader_files c.args.self.now in
    let t = reader_table c.args.self.now in
    ap or_invalid (sym c.loop-number.invariant.rest ∙ function_on f t c.args.addr c.in-Some.number c.loop-number.units.left (Some c.in-Ok-Some.function) (sym c.in-Some.ensures.unit) (good_some _ (Some c.in-Ok-Some.function) (rw c.in-Ok-Some.field-0-is at c.in-Ok-Some.ensures.value)))

pub returns-in-Err-clause-value : goal.returns-in-Err-clause-value
returns-in-Err-clause-value g c =
    let f = reader_files c.args.self.now in
    let t = reader_table c.args.self.now in
    marks_on _ _ _ c.in-Err.ensures.value (λ none. sym c.loop-number.invariant.rest ∙ function_fails f t c.args.addr c.in-Some.number c.loop-number.units.left (sym c.in-Some.ensures.unit) none)

pub loop-number-init : goal.loop-number-init
unfolding function_at
loop-number-init g c = record {
  fills = fills_same _ _ _ c.requires.fillable;
  rest = sym (function_again (reader_files c.args.self.now) (reader_table c.args.self.now) c.args.addr _ c.once-units.result.left c.once-units.ensures.without);
}

pub loop-number-preserved : goal.loop-number-preserved
loop-number-preserved g c =
    let f = reader_files c.args.self.now in
    let t = reader_table c.args.self.now in
    record {
      fills = fills_again _ _ _ _ _ c.loop-number.invariant.fills c.in-Ok-None.ensures.fills;
      rest = rw c.in-Some.ensures.left (sym (function_on f t c.args.addr c.in-Some.number c.loop-number.units.left None (sym c.in-Some.ensures.unit) (good_some {A = Option ℕ} _ None (rw c.in-Ok-None.field-0-is at c.in-Ok-None.ensures.value))) ∙ c.loop-number.invariant.rest);
    }

pub returns-in-Ok-Some-clause-fills : goal.returns-in-Ok-Some-clause-fills
returns-in-Ok-Some-clause-fills g c = fills_again _ _ _ _ _ c.loop-number.invariant.fills c.in-Ok-Some.ensures.fills

pub returns-in-Err-clause-fills : goal.returns-in-Err-clause-fills
returns-in-Err-clause-fills g c = fills_again _ _ _ _ _ c.loop-number.invariant.fills c.in-Err.ensures.fills
