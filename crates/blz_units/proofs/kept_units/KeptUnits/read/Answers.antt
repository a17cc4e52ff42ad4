use Rattle.std.proofs.Common.{◌≡◌, sym, ap, refl, subst, ◌∙◌, ℕ, []}
use Rattle.std.proofs.lemmas.Result.{err_from_is_err_and}
use Rattle.blz_info.specs.Contents.{section_view}
use Rattle.blz_entry.specs.Folds.{fold_maybe}
use Rattle.blz_info.specs.Marks.{or_invalid}
use Rattle.blz_info.proofs.Marked.{marks_on, good_some}
use Rattle.blz_units.specs.BuiltUnits.{files_view}
use Rattle.blz_units.specs.UnitLists.{EndBefore}
use Rattle.blz_units.specs.UnitTables.{KeptUnits, with_unit}
use Rattle.blz_units.proofs.BuiltSteps.{none_built}
use Rattle.blz_units.proofs.HeaderSteps.{headers_more, headers_fail, headers_over, place_behind, section_behind, step_on, step_fails, bad_header, good_header, no_header_left}
use Rattle.blz_units.proofs.kept_units.KeptUnits.read.Goals as goal

pub loop-built-init : goal.loop-built-init
loop-built-init c =
    let none : c.new-units.result.kept ≡ [] = ap (λ (k : KeptUnits). k.kept) c.new-units.ensures in
    record {
      section = rw c.new-headers.ensures refl;
      behind = λ i h is. absurd (let e = rw none at is in cc);
      built = none_built (files_view c.args.dwarf.now) _ c.new-built.result none c.new-built.ensures.units c.new-built.ensures.shared c.new-built.ensures.rows;
      rest = rw (c.new-headers.ensures, c.new-units.ensures) refl;
    }

pub returns-in_err-header-clause-value : goal.returns-in_err-header-clause-value
returns-in_err-header-clause-value c =
    let p = err_from_is_err_and c.from_residual.result c.from_residual.ensures.1 in
    let f = fold_maybe (with_unit (files_view c.args.dwarf.now).main c.args.sets.now) c.loop-built.units in
    rw (p.1, p.2) (bad_header _ _ f (section_view c.args.dwarf.now.main.info) c.loop-built.headers c.loop-built.invariant.section c.in_err-header.ensures.value.0 c.loop-built.invariant.rest)

pub returns-in_err-units-clause-value : goal.returns-in_err-units-clause-value
returns-in_err-units-clause-value c =
    let p = err_from_is_err_and c.from_residual-in_err-units.result c.from_residual-in_err-units.ensures.1 in
    let step = with_unit (files_view c.args.dwarf.now).main c.args.sets.now in
    let is = good_header _ _ c.in_ok-header.ensures.value c.in-Some.is in
    rw (p.1, p.2) (marks_on _ _ _ c.in_err-units.ensures.value (λ none. sym c.loop-built.invariant.rest ∙ headers_fail (fold_maybe step c.loop-built.units) (section_view c.args.dwarf.now.main.info) c.loop-built.headers c.in-Some.header c.loop-built.invariant.section is (step_fails step c.loop-built.units c.in-Some.header none)))

pub loop-built-preserved : goal.loop-built-preserved
loop-built-preserved c =
    let step = with_unit (files_view c.args.dwarf.now).main c.args.sets.now in
    let is = good_header _ _ c.in_ok-header.ensures.value c.in-Some.is in
    let made = good_some _ _ c.in_ok-units.ensures.value in
    record {
      section = section_behind c.loop-built.headers c.next_header.new.self c.in-Some.header is c.in_ok-header.ensures.moves ∙ c.loop-built.invariant.section;
      behind = subst (λ (n : ℕ). EndBefore c.in_ok-units.units.kept n) (sym (place_behind c.loop-built.headers c.next_header.new.self c.in-Some.header is c.in_ok-header.ensures.moves)) c.in_ok-units.ensures.behind;
      built = c.in_ok-units.ensures.fits;
      rest = sym (headers_more (fold_maybe step c.loop-built.units) (fold_maybe step c.in_ok-units.units) (section_view c.args.dwarf.now.main.info) c.loop-built.headers c.next_header.new.self c.in-Some.header c.loop-built.invariant.section is c.in_ok-header.ensures.moves (step_on step c.loop-built.units c.in_ok-units.units c.in-Some.header made)) ∙ c.loop-built.invariant.rest;
    }

pub returns-clause-value : goal.returns-clause-value
returns-clause-value c =
    let step = with_unit (files_view c.args.dwarf.now).main c.args.sets.now in
    ap or_invalid (sym c.loop-built.invariant.rest ∙ headers_over (fold_maybe step c.loop-built.units) (section_view c.args.dwarf.now.main.info) c.loop-built.headers c.loop-built.invariant.section (no_header_left _ _ c.in_ok-header.ensures.value c.in_default.is))
