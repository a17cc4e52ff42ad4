-- What a resolver keeps over a call that leaves its parser as it was.
use Rattle.std.proofs.Common.{◌≡◌, ◌<◌, ℕ, Bool, true, Option, Some, None, Result, Ok, Err, is_some, refl, sym, ◌∙◌, subst, arith}
use Rattle.blz_elf.specs.Sources.{Source}
use Rattle.std.specs.Result.{IfOk}
use Rattle.blz_reader.specs.Growing.{Told}
use Rattle.blz_index.specs.UnitsWarm.{lines_kept, units_prepared}
use Rattle.blz_bundle.specs.Images.{ImageSet}
use Rattle.blz_resolver.specs.Resolver.{Fits, HasBook, HasBookIf, ArePrepared, UnitsStayIf, UnitsGrowIf, lines_in, units_in}
use Rattle.blz_resolver.specs.Sources.{IsOf, asked_file}
use Rattle.blz_resolver.specs.declared.debug.debug_info.DebugInfo.{DebugInfo}
use Rattle.blz_resolver.specs.UnitRowsRead.{unit_count_of}
use Rattle.blz_resolver.proofs.ReadBooks.{counted}
use Rattle.blz_resolver.proofs.UnitsKept.{lines_grow, lines_prepared}

-- there is debug information afterwards where there was before
pub same_debug : (old new : Option DebugInfo) → UnitsStayIf (units_in old) (units_in new) → is_some new ≡ is_some old
same_debug None None stay = refl
same_debug None (Some n) stay = absurd stay
same_debug (Some o) None stay = absurd stay
same_debug (Some o) (Some n) stay = refl

-- the lines that were read stay
pub lines_on : (old new : Option DebugInfo) → UnitsStayIf (units_in old) (units_in new) → (unit : ℕ) → lines_in (units_in old) unit ≡ true → lines_in (units_in new) unit ≡ true
lines_on None None stay unit is = is
lines_on None (Some n) stay unit is = absurd stay
lines_on (Some o) None stay unit is = absurd stay
lines_on (Some o) (Some n) stay unit is = stay.lines unit is

pub lines_after : (told : Told) (old new : Option DebugInfo) → UnitsGrowIf told (units_in old) (units_in new) → (unit : ℕ) → lines_in (units_in old) unit ≡ true → lines_in (units_in new) unit ≡ true
lines_after told None None grows unit is = is
lines_after told None (Some n) grows unit is = absurd grows
lines_after told (Some o) None grows unit is = absurd grows
lines_after told (Some o) (Some n) grows unit is = lines_grow told o.units n.units grows unit is

prepared_on : (old new : Option DebugInfo) → UnitsStayIf (units_in old) (units_in new) → ArePrepared old → ArePrepared new
prepared_on None None stay are = tt
prepared_on None (Some n) stay are = absurd stay
prepared_on (Some o) None stay are = absurd stay
prepared_on (Some o) (Some n) stay are = stay.is_prepared ∙ are

pub fits_on : (images : ImageSet) (parser : Source) (old new : Option DebugInfo) (prepared : Bool) → Fits images parser old prepared → HasBookIf images new → UnitsStayIf (units_in old) (units_in new) → Fits images parser new prepared
fits_on images parser old new prepared fits has stay = record {
  file = let P : Bool → Type 0 = λ b. IsOf (asked_file images b) parser in subst P (sym (same_debug old new stay)) fits.file;
  book = has;
  full = λ e. record { symbols = (fits.full e).symbols; units = prepared_on old new stay (fits.full e).units };
}

-- all lines were read of units that are prepared
pub lines_all : (images : ImageSet) (debug : Option DebugInfo) → HasBookIf images debug → ArePrepared debug → (unit : ℕ) → unit < unit_count_of images (is_some debug) → lines_in (units_in debug) unit ≡ true
lines_all images None has are unit there = absurd (omega arith)
lines_all images (Some d) has are unit there = lines_prepared _ d.units unit has.units are (counted images (Some d) d unit refl has there)

pub rows_if_prepared : {T E : Type 0} (images : ImageSet) (d : DebugInfo) (r : Result T E) → HasBook images d → IfOk r (λ _. units_prepared d.units ≡ true) → IfOk r (λ _. (unit : ℕ) → unit < unit_count_of images true → lines_kept d.units unit ≡ true)
rows_if_prepared images d (Ok x) has are = lines_all images (Some d) has are
rows_if_prepared images d (Err e) has are = tt
