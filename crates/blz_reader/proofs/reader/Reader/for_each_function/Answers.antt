use Rattle.std.proofs.Common.{◌<◌, ◌≤◌, length, inl, inr, arith}
use Rattle.blz_reader.specs.Readers.{reader_files, reader_table}
use Rattle.blz_reader.proofs.CacheSteps.{fills_same, fills_again}
use Rattle.blz_reader.proofs.ListingSteps.{shown_start, shown_on, shown_break, shown_mark, shown_whole}
use Rattle.blz_reader.proofs.reader.Reader.for_each_function.Goals as goal

pub loop-number-init : goal.loop-number-init
loop-number-init g c = record {
  fills = fills_same _ _ _ c.requires.fillable;
  goes_on = c.requires.goes_on;
  so_far = shown_start (reader_files c.args.self.now) (reader_table c.args.self.now) (g.W.VisitFunction.shown c.args.visit.now);
}

pub returns-in-Ok-Break-clause-shows : goal.returns-in-Ok-Break-clause-shows
returns-in-Ok-Break-clause-shows g c =
    let f = reader_files c.args.self.now in
    let t = reader_table c.args.self.now in
    let unit = c.in-Ok-Break.ensures.shows in
    let lt : c.loop-number.number < length t.kept = omega (arith, c.loop-number-test.true, c.len-number-end.ensures) in
    inr (shown_break f t (length t.kept) c.loop-number.number _ _ _ c.loop-number.invariant.so_far unit.list _ lt unit.is (rw c.in-Ok-Break.field-0-is at unit.shows))

pub returns-in-Err-clause-shows : goal.returns-in-Err-clause-shows
returns-in-Err-clause-shows g c =
    let f = reader_files c.args.self.now in
    let t = reader_table c.args.self.now in
    let lt : c.loop-number.number < length t.kept = omega (arith, c.loop-number-test.true, c.len-number-end.ensures) in
    shown_mark f t (length t.kept) c.loop-number.number _ _ _ c.loop-number.invariant.so_far _ c.in-Err.fault lt c.in-Err.ensures.shows

pub loop-number-preserved : goal.loop-number-preserved
loop-number-preserved g c =
    let f = reader_files c.args.self.now in
    let t = reader_table c.args.self.now in
    let unit = c.in-Ok-Continue.ensures.shows in
    let all = rw c.in-Ok-Continue.field-0-is at unit.shows in
    let lt : c.loop-number.number < length t.kept = omega (arith, c.loop-number-test.true, c.len-number-end.ensures) in
    record {
      fills = fills_again _ _ _ _ _ c.loop-number.invariant.fills c.show_unit.ensures.fills;
      goes_on = all.goes_on;
      so_far = shown_on f t (length t.kept) c.loop-number.number _ _ _ c.loop-number.invariant.so_far unit.list _ lt unit.is all;
    }

pub returns-clause-shows : goal.returns-clause-shows
returns-clause-shows g c =
    let f = reader_files c.args.self.now in
    let t = reader_table c.args.self.now in
    let le : length t.kept ≤ c.loop-number.number = omega (arith, c.loop-number-test.false, c.len-number-end.ensures) in
    inl (shown_whole f t (length t.kept) c.loop-number.number _ _ _ le c.loop-number.invariant.goes_on c.loop-number.invariant.so_far)

pub returns-in-Ok-Break-clause-fills : goal.returns-in-Ok-Break-clause-fills
returns-in-Ok-Break-clause-fills g c = fills_again _ _ _ _ _ c.loop-number.invariant.fills c.show_unit.ensures.fills

pub returns-in-Err-clause-fills : goal.returns-in-Err-clause-fills
returns-in-Err-clause-fills g c = fills_again _ _ _ _ _ c.loop-number.invariant.fills c.show_unit.ensures.fills
