use Rattle.std.proofs.Common.{◌≡◌, List, Option, Some, None, refl, ap}
use Rattle.std.proofs.lemmas.Result.{err_from_is_err_and}
use Rattle.blz_model.specs.Reads.{◌>>=◌}
use Rattle.blz_info.specs.Marks.{or_invalid}
use Rattle.blz_entry.specs.declared.aranges.ArangeSet.{ArangeSet}
use Rattle.blz_info.specs.declared.units.UnitHeader.{UnitHeader}
use Rattle.blz_info.proofs.Marked.{good_some, marks_on}
use Rattle.blz_ranges.proofs.OwnedItems.{items_owned}
use Rattle.blz_units.specs.BuiltUnits.{Files, files_view}
use Rattle.blz_units.specs.Sets.{sets_from}
use Rattle.blz_units.specs.UnitTables.{KeptUnits, sup_units, units_kept, units_of}
use Rattle.blz_units.proofs.unit_table.UnitTable.read.Goals as goal

-- three values one after the other, the third by the second
three : {A B C D : Type 0} (a : Option A) (b : Option B) (f : B → Option C) (made : A → C → D) (x : A) (y : B) (z : C) → a ≡ Some x → b ≡ Some y → f y ≡ Some z → (a >>= λ x. b >>= λ y. f y >>= λ z. Some (made x z)) ≡ Some (made x z)
three a b f made x y z p q r = rw (p, q, r) refl

table_is : (f : Files) (sups : List UnitHeader) (sets : List ArangeSet) (units : KeptUnits) → sup_units f.sup ≡ Some sups → sets_from f.main.aranges 0 ≡ Some sets → units_kept f.main sets ≡ Some units → units_of f ≡ Some (record { kept = units.kept; announced = units.announced; sups = sups })
unfolding units_of
table_is f sups sets units p q r =
    three (sup_units f.sup) (sets_from f.main.aranges 0) (units_kept f.main) (λ (sups : List UnitHeader) (units : KeptUnits). record { kept = units.kept; announced = units.announced; sups = sups }) sups sets units p q r

-- the third of them has none
no_third : {A B C D : Type 0} (a : Option A) (b : Option B) (f : B → Option C) (made : A → C → D) (x : A) (y : B) → a ≡ Some x → b ≡ Some y → f y ≡ None → (a >>= λ x. b >>= λ y. f y >>= λ z. Some (made x z)) ≡ None
no_third a b f made x y p q r = rw (p, q, r) refl

no_table : (f : Files) (sups : List UnitHeader) (sets : List ArangeSet) → sup_units f.sup ≡ Some sups → sets_from f.main.aranges 0 ≡ Some sets → units_kept f.main sets ≡ None → units_of f ≡ None
unfolding units_of
no_table f sups sets p q r =
    no_third (sup_units f.sup) (sets_from f.main.aranges 0) (units_kept f.main) (λ (sups : List UnitHeader) (units : KeptUnits). record { kept = units.kept; announced = units.announced; sups = sups }) sups sets p q r

pub returns-in_err-units-clause-table : goal.returns-in_err-units-clause-table
returns-in_err-units-clause-table g c =
    let p = err_from_is_err_and c.from_residual-in_err-units.result c.from_residual-in_err-units.ensures.1 in
    rw (p.1, p.2) (marks_on _ _ _ c.in_err-units.ensures.value (λ none. no_table (files_view c.args.dwarf.now) c.in_ok-sups.sups c.in_ok-sets.sets (good_some _ _ c.in_ok-sups.ensures) (good_some _ _ c.in_ok-sets.ensures) none))

pub returns-clause-table : goal.returns-clause-table
returns-clause-table g c =
    let is = table_is (files_view c.args.dwarf.now) c.in_ok-sups.sups c.in_ok-sets.sets c.in_ok-units.units (good_some _ _ c.in_ok-sups.ensures) (good_some _ _ c.in_ok-sets.ensures) (good_some _ _ c.in_ok-units.ensures.value) in
    rw (c.into_parts-kept.ensures.kept, c.in_ok-announced.ensures.ranges, c.into_parts-kept.ensures.announced) (ap or_invalid is)

pub returns-clause-fits : goal.returns-clause-fits
returns-clause-fits g c = rw c.into_parts-kept.ensures.kept c.in_ok-units.ensures.fits

pub returns-clause-accepted : goal.returns-clause-accepted
returns-clause-accepted g c = rw (c.in_ok-announced.ensures.ranges, items_owned c.into_parts-kept.result.1.items c.into_parts-kept.result.2.items c.into_parts-kept.ensures.same) c.in_ok-announced.ensures.accepted
