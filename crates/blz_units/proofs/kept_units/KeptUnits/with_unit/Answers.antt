use Rattle.std.proofs.Common.{List, refl, ap, sym, subst, arith}
use Rattle.std.proofs.lemmas.Result.{err_from_is_err_and}
use Rattle.blz_info.specs.Marks.{or_invalid}
use Rattle.blz_info.specs.declared.units.UnitHeader.{UnitHeader}
use Rattle.blz_info.proofs.Marked.{good_some}
use Rattle.blz_units.specs.UnitLists.{EndBefore}
use Rattle.blz_units.specs.UnitTables.{KeptUnits, with_unit}
use Rattle.blz_units.specs.BuiltUnits.{files_view}
use Rattle.blz_units.specs.KeptParts.{SideFits}
use Rattle.blz_units.specs.declared.built_units.Side.TheVariants.{File}
use Rattle.blz_units.proofs.BuiltSteps.{side_more, side_same}
use Rattle.blz_units.proofs.KeepSteps.{kept_fails, kept_more, kept_still}
use Rattle.blz_units.proofs.UnitsInPlace.{end_more, end_later}
use Rattle.blz_units.proofs.kept_units.KeptUnits.with_unit.Goals as goal

pub returns-in_err-part-clause-value : goal.returns-in_err-part-clause-value
unfolding with_unit
returns-in_err-part-clause-value c =
    let p = err_from_is_err_and c.from_residual-in_err-part.result c.from_residual-in_err-part.ensures.1 in
    rw (p.1, p.2) (kept_fails c.args.self c.args.header _ _ _ c.in_err-part.ensures.value)

pub keep-requires-clause-behind : goal.keep-requires-clause-behind
keep-requires-clause-behind c = subst (λ (units : List UnitHeader). EndBefore units c.args.header.start) (sym (ap (λ (v : KeptUnits). v.kept) c.self.view_is)) c.requires.behind

pub returns-in_ok-push-in-Some-clause-value : goal.returns-in_ok-push-in-Some-clause-value
unfolding with_unit
returns-in_ok-push-in-Some-clause-value c =
    let is = good_some _ _ (rw c.in-Some.is at c.in_ok-part.ensures.value) in
    rw (← c.self.view_is, c.in_ok-units-in-Some.ensures) (ap or_invalid (kept_more _ c.args.header _ c.self.inside.spans.items _ c.self.inside.owners.items refl c.self.invariant is))

pub returns-in_ok-push-in-Some-clause-behind : goal.returns-in_ok-push-in-Some-clause-behind
returns-in_ok-push-in-Some-clause-behind c =
    let behind = subst (λ (units : List UnitHeader). EndBefore units c.args.header.start) (sym (ap (λ (v : KeptUnits). v.kept) c.self.view_is)) c.requires.behind in
    subst (λ (units : List UnitHeader). EndBefore units c.args.header.end) (sym (ap (λ (v : KeptUnits). v.kept) c.in_ok-units-in-Some.ensures)) (end_more c.self.inside.kept c.args.header c.args.header.start behind (omega arith) c.requires.in_place)

pub returns-in-None-clause-value : goal.returns-in-None-clause-value
unfolding with_unit
returns-in-None-clause-value c =
    let is = good_some _ _ (rw c.in-None.is at c.in_ok-part.ensures.value) in
    rw (← c.self.view_is) (kept_still c.self.inside.kept c.args.header _ c.self.inside.spans.items c.append_announced.new.out.items c.self.inside.owners.items is)

pub returns-in-None-clause-behind : goal.returns-in-None-clause-behind
returns-in-None-clause-behind c =
    let behind = subst (λ (units : List UnitHeader). EndBefore units c.args.header.start) (sym (ap (λ (v : KeptUnits). v.kept) c.self.view_is)) c.requires.behind in
    end_later c.self.inside.kept c.args.header.start c.args.header.end behind (omega arith)

pub returns-in_ok-push-in-Some-clause-fits : goal.returns-in_ok-push-in-Some-clause-fits
returns-in_ok-push-in-Some-clause-fits c =
    let f = files_view c.args.dwarf.now in
    let before = subst (λ (units : List UnitHeader). SideFits f File units c.args.built.now) (sym (ap (λ (v : KeptUnits). v.kept) c.self.view_is)) c.requires.fits in
    side_more f c.self.inside.kept _ c.args.built.now _ c.args.header c.in-Some.unit (ap (λ (v : KeptUnits). v.kept) c.in_ok-units-in-Some.ensures) c.in_ok-push-in-Some.ensures.items refl (rw c.in-Some.is at c.in_ok-part.ensures.part) c.append_announced.ensures.shared before

pub returns-in-None-clause-fits : goal.returns-in-None-clause-fits
returns-in-None-clause-fits c =
    let f = files_view c.args.dwarf.now in
    let before = subst (λ (units : List UnitHeader). SideFits f File units c.args.built.now) (sym (ap (λ (v : KeptUnits). v.kept) c.self.view_is)) c.requires.fits in
    side_same f c.self.inside.kept c.args.built.now _ refl refl c.append_announced.ensures.shared before
