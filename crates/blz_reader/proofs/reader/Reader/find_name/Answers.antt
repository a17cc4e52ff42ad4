use Rattle.std.proofs.Common.{◌<◌, ◌≤◌, length, ap, arith}
use Rattle.blz_info.specs.Marks.{or_invalid}
use Rattle.blz_info.proofs.Marked.{good_some, marks_on}
use Rattle.blz_reader.specs.Readers.{reader_files, reader_table}
use Rattle.blz_reader.proofs.CacheSteps.{fills_same, fills_again}
use Rattle.blz_reader.proofs.ListingSteps.{none_there, there_more, found_none, found_more, found_mark, found_all}
use Rattle.blz_reader.proofs.reader.Reader.find_name.Goals as goal

pub loop-number-init : goal.loop-number-init
loop-number-init g c = record {
  fills = fills_same _ _ _ c.requires.fillable;
  there = rw c.new-found.ensures.items (none_there c.args.caches.now.units.items);
  so_far = rw c.new-found.ensures.items (found_none c.args.self.now.dwarf.now.texts (reader_files c.args.self.now) (reader_table c.args.self.now) c.args.name.now);
}

pub returns-in-Err-clause-value : goal.returns-in-Err-clause-value
returns-in-Err-clause-value g c =
    let f = reader_files c.args.self.now in
    let t = reader_table c.args.self.now in
    let lt : c.loop-number.number < length t.kept = omega (arith, c.loop-number-test.true, c.len-number-end.ensures) in
    marks_on _ _ _ c.in-Err.ensures.value (λ none. found_mark c.args.self.now.dwarf.now.texts f t c.args.name.now (length t.kept) c.loop-number.number c.loop-number.found.items lt c.loop-number.invariant.so_far none)

pub loop-number-preserved : goal.loop-number-preserved
loop-number-preserved g c =
    let f = reader_files c.args.self.now in
    let t = reader_table c.args.self.now in
    let told = g.O.Orders.pair_places in
    let old = c.loop-number.caches.units.items in
    let new = c.named_in.new.caches.units.items in
    let grows = c.named_in.ensures.fills.grows in
    let lt : c.loop-number.number < length t.kept = omega (arith, c.loop-number-test.true, c.len-number-end.ensures) in
    rw c.in_ok-put_called.ensures (record {
      fills = fills_again _ _ _ _ _ c.loop-number.invariant.fills c.named_in.ensures.fills;
      there = there_more told old new c.loop-number.found.items c.loop-number.number c.in-Ok.function grows c.loop-number.invariant.there c.in-Ok.ensures.there;
      so_far = found_more c.args.self.now.dwarf.now.texts f t c.args.name.now (length t.kept) c.loop-number.number c.loop-number.found.items c.in-Ok.function lt (good_some _ c.in-Ok.function c.in-Ok.ensures.value) c.loop-number.invariant.so_far;
    })

pub returns-clause-value : goal.returns-clause-value
returns-clause-value g c =
    let f = reader_files c.args.self.now in
    let t = reader_table c.args.self.now in
    let le : length t.kept ≤ c.loop-number.number = omega (arith, c.loop-number-test.false, c.len-number-end.ensures) in
    ap or_invalid (found_all c.args.self.now.dwarf.now.texts f t c.args.name.now (length t.kept) c.loop-number.number c.loop-number.found.items le c.loop-number.invariant.so_far)

pub returns-in-Err-clause-fills : goal.returns-in-Err-clause-fills
returns-in-Err-clause-fills g c = fills_again _ _ _ _ _ c.loop-number.invariant.fills c.in-Err.ensures.fills

pub returns-in_err-put_called-clause-fills : goal.returns-in_err-put_called-clause-fills
returns-in_err-put_called-clause-fills g c = fills_again _ _ _ _ _ c.loop-number.invariant.fills c.named_in.ensures.fills
