-- The book that is read of a bundle by its units, and what stays of them over a call.
use Rattle.std.specs.Prelude.{◌≡◌, ℕ, true}
use Rattle.blz_info.specs.declared.text.Texts.{Texts}
use Rattle.blz_units.specs.BuiltUnits.{files_view}
use Rattle.blz_index.specs.UnitsWarm.{units_table, announced_ordered, units_prepared, functions_kept, functions_ordered, lines_kept, CanBeAsked}
use Rattle.blz_index.specs.declared.units.Units.{Units}
use Rattle.blz_resolver.specs.Books.{Book}
use Rattle.blz_bundle.specs.BundleViews.{bundle_view}
use Rattle.blz_resolver.specs.declared.answers.book_reader.BookReader.{BookReader}

abbrev pub book_of : BookReader → Units → Book
book_of r u = record { images = bundle_view r.bundle; files = files_view r.dwarf; table = units_table u }

-- what is said of texts and a book, of those of a reader and its units
abbrev pub as_read : {A : Type 0} → BookReader → Units → (Texts → Book → A) → A
as_read r u said = said r.dwarf.texts (book_of r u)

-- The units are those of the files.
abbrev pub Reads : BookReader → Units → Type 0
Reads r u = CanBeAsked r.dwarf u

-- a unit's functions that are kept stay, with the fact whether their order was accepted
pub record FunctionsStay (k : ℕ) (old new : Units) : Type 0 where
  pub kept : functions_kept new k ≡ true
  pub ordered : functions_ordered new k ≡ functions_ordered old k

-- The table stays, and so do the accepted orders; only what was not kept yet may have been read.
pub record UnitsStay (old new : Units) : Type 0 where
  pub table : units_table new ≡ units_table old
  pub announced : announced_ordered new ≡ announced_ordered old
  pub is_prepared : units_prepared new ≡ units_prepared old
  pub functions : (k : ℕ) → functions_kept old k ≡ true → FunctionsStay k old new
  pub lines : (k : ℕ) → lines_kept old k ≡ true → lines_kept new k ≡ true

pub record Keeps (r : BookReader) (old new : Units) : Type 0 where
  pub reads : Reads r new
  pub stay : UnitsStay old new
