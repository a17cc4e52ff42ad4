-- One turn of the loops over an abbreviation table.
use Rattle.std.proofs.Common.{◌≡◌, ℕ, zero, suc, ◌≤◌, true, false, List, [], ◌∷◌, ◌++◌, length, Some, None, refl, eqb}
use Rattle.std.proofs.lemmas.Option.{slice_get_past}
use Rattle.blz_model.specs.LebNumbers.{uleb, leb_in}
use Rattle.blz_info.specs.Abbrevs.{Abbrev}
use Rattle.blz_info.specs.AbbreviationTables.{spec_at, specs_in, is_last, has_code, abbreviation_at, table_in}
use Rattle.blz_info.specs.declared.abbreviations.AttrSpec.{AttrSpec}

pub specs_more : (m n : ℕ) (so_far : List AttrSpec) (bytes : List ℕ) (at next : ℕ) (s : AttrSpec) → m ≡ suc n → spec_at bytes at ≡ Some (s, next) → is_last s ≡ false → specs_in m so_far bytes at ≡ specs_in n (so_far ++ s ∷ []) bytes next
unfolding specs_in
specs_more m n so_far bytes at next s em h e = rw (em, h, e) refl

pub specs_last : (m n : ℕ) (so_far : List AttrSpec) (bytes : List ℕ) (at next : ℕ) (s : AttrSpec) → m ≡ suc n → spec_at bytes at ≡ Some (s, next) → is_last s ≡ true → specs_in m so_far bytes at ≡ Some (so_far, next)
unfolding specs_in
specs_last m n so_far bytes at next s em h e = rw (em, h, e) refl

pub specs_none : (m n : ℕ) (so_far : List AttrSpec) (bytes : List ℕ) (at : ℕ) → m ≡ suc n → spec_at bytes at ≡ None → specs_in m so_far bytes at ≡ None
unfolding specs_in
specs_none m n so_far bytes at em h = rw (em, h) refl

pub specs_end : (m : ℕ) (so_far : List AttrSpec) (bytes : List ℕ) (at : ℕ) → m ≡ 0 → specs_in m so_far bytes at ≡ None
unfolding specs_in
specs_end m so_far bytes at em = rw em refl

pub table_more : (m n : ℕ) (so_far : List Abbrev) (bytes : List ℕ) (at code next after : ℕ) (a : Abbrev) → m ≡ suc n → uleb bytes at ≡ Some (code, next) → eqb code 0 ≡ false → has_code code so_far ≡ false → abbreviation_at code bytes next ≡ Some (a, after) → table_in m so_far bytes at ≡ table_in n (so_far ++ a ∷ []) bytes after
unfolding table_in
table_more m n so_far bytes at code next after a em h e f g = rw (em, h, e, f, g) refl

pub table_last : (m n : ℕ) (so_far : List Abbrev) (bytes : List ℕ) (at code next : ℕ) → m ≡ suc n → uleb bytes at ≡ Some (code, next) → eqb code 0 ≡ true → table_in m so_far bytes at ≡ Some so_far
unfolding table_in
table_last m n so_far bytes at code next em h e = rw (em, h, e) refl

pub table_none : (m n : ℕ) (so_far : List Abbrev) (bytes : List ℕ) (at : ℕ) → m ≡ suc n → uleb bytes at ≡ None → table_in m so_far bytes at ≡ None
unfolding table_in
table_none m n so_far bytes at em h = rw (em, h) refl

pub table_again : (m n : ℕ) (so_far : List Abbrev) (bytes : List ℕ) (at code next : ℕ) → m ≡ suc n → uleb bytes at ≡ Some (code, next) → eqb code 0 ≡ false → has_code code so_far ≡ true → table_in m so_far bytes at ≡ None
unfolding table_in
table_again m n so_far bytes at code next em h e f = rw (em, h, e, f) refl

pub table_stops : (m n : ℕ) (so_far : List Abbrev) (bytes : List ℕ) (at code next : ℕ) → m ≡ suc n → uleb bytes at ≡ Some (code, next) → eqb code 0 ≡ false → has_code code so_far ≡ false → abbreviation_at code bytes next ≡ None → table_in m so_far bytes at ≡ None
unfolding table_in
table_stops m n so_far bytes at code next em h e f g = rw (em, h, e, f, g) refl

pub table_end : (m : ℕ) (so_far : List Abbrev) (bytes : List ℕ) (at : ℕ) → m ≡ 0 → table_in m so_far bytes at ≡ None
unfolding table_in
table_end m so_far bytes at em = rw em refl

pub past_the_end : (m : ℕ) (so_far : List Abbrev) (bytes : List ℕ) (at : ℕ) → length bytes ≤ at → table_in m so_far bytes at ≡ None
unfolding table_in uleb leb_in
past_the_end zero so_far bytes at le = refl
past_the_end (suc m) so_far bytes at le = rw (slice_get_past bytes at le) refl
