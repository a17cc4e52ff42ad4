-- Units that a call has asked fit the same file.
use Rattle.std.proofs.Common.{◌≡◌, Some, refl, sym, ap, ◌∙◌}
use Rattle.blz_index.specs.declared.units.Units.{Units}
use Rattle.blz_units.specs.BuiltUnits.{Files, files_view}
use Rattle.blz_units.specs.declared.caches.Caches.{Caches}
use Rattle.blz_units.specs.declared.dwarf.Dwarf.{Dwarf}
use Rattle.blz_reader.specs.Filling.{Fills}
use Rattle.blz_reader.specs.Growing.{Told, UnitsGrowTo}
use Rattle.blz_reader.specs.declared.reader.Reader.{Reader}
use Rattle.blz_units.specs.KeptParts.{AllFit}
use Rattle.blz_index.specs.UnitsWarm.{units_table, CanBeAsked, Leaves, UnitsFit}
use Rattle.blz_reader.proofs.UnitsFits.{full_stays}

-- The table stays, and what is kept grew and fits: so the units fit.
pub fit_on : (f : Files) (told : Told) (old new : Units) → UnitsFit f old → new.table ≡ old.table → new.prepared ≡ old.prepared → AllFit f (units_table old) new.caches → UnitsGrowTo told old.caches.units.items new.caches.units.items → UnitsFit f new
fit_on f told old new fits table prepared kept grows =
    let same : units_table new ≡ units_table old = rw table refl in
    record {
      table = fits.table ∙ ap Some (sym same);
      caches = rw same kept;
      full = λ e k. full_stays told old.caches.units.items new.caches.units.items k (fits.caches.units.same ∙ sym kept.units.same) grows (fits.full (rw prepared at e) k);
    }

-- So a question that a reader of the same units filled the caches for leaves the units as it has to.
pub leaves_more : (told : Told) (d : Dwarf) (u : Units) (r : Reader) (more : Caches) → CanBeAsked d u → Fills told r u.caches more → r.dwarf.now ≡ d → r.table.now ≡ u.table → Leaves told d u (record u { caches = more })
leaves_more told d u r more asked fills same_dwarf same_table =
    let kept : AllFit (files_view d) (units_table u) more = (rw (same_dwarf, same_table) at fills.fillable.fits) in
    record {
      asked = record {
        readable = asked.readable;
        fits = fit_on (files_view d) told u (record u { caches = more }) asked.fits refl refl kept fills.grows;
      };
      prepared = refl;
      grows = record { table = refl; announced = refl; units = fills.grows };
    }
