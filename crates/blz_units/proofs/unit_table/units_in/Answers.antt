use Rattle.std.proofs.Common.{sym, ap, ◌∙◌, ◌++◌, ◌∷◌, [], arith}
use Rattle.std.proofs.lemmas.Result.{err_from_is_err_and}
use Rattle.blz_info.specs.Contents.{section_view}
use Rattle.blz_info.specs.Marks.{or_invalid}
use Rattle.blz_units.specs.UnitLists.{IsInPlace}
use Rattle.blz_units.specs.UnitTables.{no_types}
use Rattle.blz_units.proofs.HeaderSteps.{bad_header, good_header, no_header_left, headers_more, headers_over, place_behind, section_behind, with_units, units_more, units_over}
use Rattle.blz_units.proofs.UnitsInPlace.{end_typed}
use Rattle.blz_units.proofs.unit_table.units_in.Goals as goal

pub returns-in_err-header : goal.returns-in_err-header
returns-in_err-header c =
    let p = err_from_is_err_and c.from_residual.result c.from_residual.ensures.1 in
    rw (p.1, p.2) (bad_header _ _ (with_units c.loop-units.units) (section_view c.args.info) c.loop-units.headers c.loop-units.invariant.section c.in_err-header.ensures.value.0 c.loop-units.invariant.rest)

pub loop-units-preserved : goal.loop-units-preserved
loop-units-preserved c =
    let s = section_view c.args.info in
    let is = good_header _ _ c.in_ok-header.ensures.value c.in-Some.is in
    let within = rw c.in-Some.is at c.in_ok-header.ensures.within in
    let start = within.0 in
    let place : IsInPlace c.in-Some.header = record { behind = within.1; ordered = within.2 } in
    let end = end_typed c.loop-units.units c.in-Some.header c.loop-units.headers.place c.loop-units.invariant.behind (omega arith) place in
    record {
      section = section_behind c.loop-units.headers c.next_header.new.self c.in-Some.header is c.in_ok-header.ensures.moves ∙ c.loop-units.invariant.section;
      behind = rw (c.in_ok-push_but_types.ensures, place_behind c.loop-units.headers c.next_header.new.self c.in-Some.header is c.in_ok-header.ensures.moves) end;
      rest = rw c.in_ok-push_but_types.ensures (sym (headers_more (with_units c.loop-units.units) (with_units (c.loop-units.units ++ no_types (c.in-Some.header ∷ []))) s c.loop-units.headers c.next_header.new.self c.in-Some.header c.loop-units.invariant.section is c.in_ok-header.ensures.moves (units_more c.loop-units.units c.in-Some.header)) ∙ c.loop-units.invariant.rest);
    }

pub returns : goal.returns
returns c = ap or_invalid (sym c.loop-units.invariant.rest ∙ headers_over (with_units c.loop-units.units) (section_view c.args.info) c.loop-units.headers c.loop-units.invariant.section (no_header_left _ _ c.in_ok-header.ensures.value c.in_default.is) ∙ units_over c.loop-units.units)
