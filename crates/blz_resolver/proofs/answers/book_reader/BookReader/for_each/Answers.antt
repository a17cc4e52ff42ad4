use Rattle.std.proofs.Common.{◌<◌, ◌≤◌, length, inl, inr, ap, arith}
use Rattle.std.proofs.lemmas.Result.{err_from_is_err_and}
use Rattle.blz_units.specs.UnitTables.{UnitTable}
use Rattle.blz_index.specs.UnitsWarm.{units_table}
use Rattle.blz_resolver.specs.Reading.{book_of}
use Rattle.blz_resolver.proofs.ReaderSteps.{keeps_same, keeps_on}
use Rattle.blz_resolver.proofs.UnitsShown.{no_unit_yet, unit_shown, unit_breaks, unit_refused, units_shown}
use Rattle.blz_resolver.proofs.answers.book_reader.BookReader.for_each.Goals as goal

pub loop-unit-init : goal.loop-unit-init
loop-unit-init g c = record {
  goes_on = c.requires.goes_on;
  ends = c.len-unit-end.ensures;
  keeps = keeps_same c.args.self.now c.args.units.now c.requires.reads;
  so_far = no_unit_yet c.args.self.now.dwarf.texts (book_of c.args.self.now c.args.units.now) c.args.asked _;
}

pub show_unit-requires-clause-reads : goal.show_unit-requires-clause-reads
show_unit-requires-clause-reads g c = c.loop-unit.invariant.keeps.reads

pub show_unit-requires-clause-there : goal.show_unit-requires-clause-there
show_unit-requires-clause-there g c = omega (arith, c.loop-unit-test.true, c.loop-unit.invariant.ends, ap (λ (table : UnitTable). length table.kept) c.loop-unit.invariant.keeps.stay.table)

pub show_unit-requires-clause-goes_on : goal.show_unit-requires-clause-goes_on
show_unit-requires-clause-goes_on g c = c.loop-unit.invariant.goes_on

pub returns-in_err-show_unit-clause-shows : goal.returns-in_err-show_unit-clause-shows
returns-in_err-show_unit-clause-shows g c =
    let k = c.loop-unit.invariant in
    let within : c.loop-unit.unit < length (units_table c.args.units.now).kept = omega (arith, c.loop-unit-test.true, k.ends) in
    let p = err_from_is_err_and c.from_residual.result c.from_residual.ensures.1 in
    rw (p.1, p.2) (unit_refused c.args.self.now c.args.units.now c.loop-unit.units c.args.asked c.loop-unit.unit _ _ _ _ k.keeps.stay.table within k.so_far _ c.in_err-show_unit.ensures.shows)

pub returns-in_err-show_unit-clause-keeps : goal.returns-in_err-show_unit-clause-keeps
returns-in_err-show_unit-clause-keeps g c = keeps_on c.args.self.now _ _ _ c.loop-unit.invariant.keeps c.in_err-show_unit.ensures.keeps

pub returns-in-Break-clause-shows : goal.returns-in-Break-clause-shows
returns-in-Break-clause-shows g c =
    let k = c.loop-unit.invariant in
    let within : c.loop-unit.unit < length (units_table c.args.units.now).kept = omega (arith, c.loop-unit-test.true, k.ends) in
    let h = c.in_ok-show_unit.ensures.shows in
    let b = rw c.in-Break.is at h in
    inr (unit_breaks c.args.self.now c.args.units.now c.loop-unit.units c.args.asked c.loop-unit.unit _ _ _ _ k.keeps.stay.table within k.so_far b)

pub returns-in-Break-clause-keeps : goal.returns-in-Break-clause-keeps
returns-in-Break-clause-keeps g c = keeps_on c.args.self.now _ _ _ c.loop-unit.invariant.keeps c.in_ok-show_unit.ensures.keeps

pub loop-unit-preserved : goal.loop-unit-preserved
loop-unit-preserved g c =
    let k = c.loop-unit.invariant in
    let within : c.loop-unit.unit < length (units_table c.args.units.now).kept = omega (arith, c.loop-unit-test.true, k.ends) in
    let h = c.in_ok-show_unit.ensures.shows in
    let s = rw c.in_default.is at h in
    record {
      goes_on = s.goes_on;
      ends = k.ends;
      keeps = keeps_on c.args.self.now _ _ _ k.keeps c.in_ok-show_unit.ensures.keeps;
      so_far = unit_shown c.args.self.now c.args.units.now c.loop-unit.units c.args.asked c.loop-unit.unit _ _ _ _ k.keeps.stay.table within k.so_far s;
    }

pub returns-clause-shows : goal.returns-clause-shows
returns-clause-shows g c =
    let k = c.loop-unit.invariant in
    let past : length (units_table c.args.units.now).kept ≤ c.loop-unit.unit = omega (arith, c.loop-unit-test.false, k.ends) in
    inl (units_shown c.args.self.now c.args.units.now c.args.asked c.loop-unit.unit _ _ _ past k.goes_on k.so_far)

pub returns-clause-keeps : goal.returns-clause-keeps
returns-clause-keeps g c = c.loop-unit.invariant.keeps
