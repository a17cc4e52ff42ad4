use Rattle.std.proofs.Common.{sym, ◌∙◌, None, Some}
use Rattle.blz_line.specs.Lookups.{location_view}
use Rattle.blz_reader.specs.Readers.{reader_files, reader_table}
use Rattle.blz_units.specs.UnitSites.{location_at}
use Rattle.blz_reader.proofs.LeftOut.{line_again}
use Rattle.blz_reader.proofs.CacheSteps.{fills_same, fills_again}
use Rattle.blz_reader.proofs.UnitSteps.{line_over, line_on, line_fails}
use Rattle.blz_reader.proofs.reader.Reader.find_location.Goals as goal

pub returns-in-None-clause-value : goal.returns-in-None-clause-value
returns-in-None-clause-value g c =
    sym c.loop-number.invariant.rest ∙ line_over c.args.self.now.dwarf.now.texts (reader_files c.args.self.now) (reader_table c.args.self.now) c.args.addr c.loop-number.units.left (sym c.in-None.ensures.unit)

pub returns-in-Ok-Some-clause-value : goal.returns-in-Ok-Some-clause-value
returns-in-Ok-Some-clause-value g c =
    let f = reader_files c.args.self.now in
    let t = reader_table c.args.self.now in
    sym c.loop-number.invariant.rest ∙ line_on c.args.self.now.dwarf.now.texts f t c.args.addr c.in-Some.number c.loop-number.units.left (Some (location_view c.in-Ok-Some.location)) (sym c.in-Some.ensures.unit) (rw c.in-Ok-Some.field-0-is at c.in-Ok-Some.ensures.value)

pub returns-in-Err-clause-value : goal.returns-in-Err-clause-value
returns-in-Err-clause-value g c =
    let f = reader_files c.args.self.now in
    let t = reader_table c.args.self.now in
    λ ne. sym c.loop-number.invariant.rest ∙ line_fails c.args.self.now.dwarf.now.texts f t c.args.addr c.in-Some.number c.loop-number.units.left _ (sym c.in-Some.ensures.unit) (c.in-Err.ensures.value ne)

pub loop-number-init : goal.loop-number-init
unfolding location_at
loop-number-init g c = record {
  fills = fills_same _ _ _ c.requires.fillable;
  rest = sym (line_again c.args.self.now.dwarf.now.texts (reader_files c.args.self.now) (reader_table c.args.self.now) c.args.addr _ c.once-units.result.left c.once-units.ensures.without);
}

pub loop-number-preserved : goal.loop-number-preserved
loop-number-preserved g c =
    let f = reader_files c.args.self.now in
    let t = reader_table c.args.self.now in
    record {
      fills = fills_again _ _ _ _ _ c.loop-number.invariant.fills c.in-Ok-None.ensures.fills;
      rest = rw c.in-Some.ensures.left (sym (line_on c.args.self.now.dwarf.now.texts f t c.args.addr c.in-Some.number c.loop-number.units.left None (sym c.in-Some.ensures.unit) (rw c.in-Ok-None.field-0-is at c.in-Ok-None.ensures.value)) ∙ c.loop-number.invariant.rest);
    }

pub returns-in-Ok-Some-clause-fills : goal.returns-in-Ok-Some-clause-fills
returns-in-Ok-Some-clause-fills g c = fills_again _ _ _ _ _ c.loop-number.invariant.fills c.in-Ok-Some.ensures.fills

pub returns-in-Err-clause-fills : goal.returns-in-Err-clause-fills
returns-in-Err-clause-fills g c = fills_again _ _ _ _ _ c.loop-number.invariant.fills c.in-Err.ensures.fills
