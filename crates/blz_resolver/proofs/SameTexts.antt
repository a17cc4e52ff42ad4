-- Texts that lie elsewhere in memory say the same, and so do all answers that name them.
use Rattle.std.proofs.Common.{◌≡◌, ℕ, ◌+◌, List, [], ◌∷◌, map, Option, Some, None, option_map, slice_range, refl, ap, ◌∙◌}
use Rattle.std.specs.List.{slice_get}
use Rattle.std.specs.Str.{is_utf8}
use Rattle.blz_error.specs.declared.kind.ErrorKind.TheVariants.{InvalidDwarf}
use Rattle.blz_model.specs.Answers.{Site, Inlined}
use Rattle.blz_model.specs.Part.{Part, Good, Broken, ◌>>=◌, check, all_good}
use Rattle.blz_bytes.specs.Joined.{joined}
use Rattle.blz_info.specs.Marks.{or_invalid}
use Rattle.blz_info.specs.TextParts.{part_of, text_of}
use Rattle.blz_info.specs.declared.text.StrPart.{StrPart}
use Rattle.blz_info.specs.declared.text.StrPart.TheVariants.{Info, Line, Strings, LineStr, SupStrings, PackInfo, PackStrings, SupInfo, SupLineStr}
use Rattle.blz_info.specs.declared.text.StrPlace.{StrPlace}
use Rattle.blz_info.specs.declared.text.Texts.{Texts}
use Rattle.blz_line.specs.FileNames.{maybe_text, directory_text, file_text}
use Rattle.blz_line.specs.Lookups.{row_site, row_in, site_of}
use Rattle.blz_line.specs.UnitLines.{LineTable}
use Rattle.blz_line.specs.declared.files.FilePlaces.{FilePlaces}
use Rattle.blz_line.specs.declared.row.LineRow.{LineRow}
use Rattle.blz_units.specs.BuiltUnits.{Files}
use Rattle.blz_units.specs.UnitAnswers.{unit_lines, covering_calls}
use Rattle.blz_units.specs.UnitSites as sites
use Rattle.blz_units.specs.UnitTables.{UnitTable, announcing}
use Rattle.blz_functions.specs.declared.inlined_functions.InlinedFunction.{InlinedFunction}

pub record SameTexts (t u : Texts) : Type 0 where
  pub info : t.info.now ≡ u.info.now
  pub line : t.line.now ≡ u.line.now
  pub strings : t.strings.now ≡ u.strings.now
  pub line_str : t.line_str.now ≡ u.line_str.now
  pub sup_strings : t.sup_strings.now ≡ u.sup_strings.now
  pub pack_info : t.pack_info.now ≡ u.pack_info.now
  pub pack_strings : t.pack_strings.now ≡ u.pack_strings.now
  pub sup_info : t.sup_info.now ≡ u.sup_info.now
  pub sup_line_str : t.sup_line_str.now ≡ u.sup_line_str.now

pub good_is : {A : Type 0} (x y : A) (p : Part A) → p ≡ Good x → p ≡ Good y → x ≡ y
good_is x y p one two = cc

-- two ways to the same part
pub same_bind : {A B : Type 0} (p : Part A) (f g : A → Part B) → ((x : A) → f x ≡ g x) → (p >>= f) ≡ (p >>= g)
same_bind (Good x) f g same = same x
same_bind (Broken k) f g same = refl

pub same_map : {A B : Type 0} (f g : A → B) (xs : List A) → ((x : A) → f x ≡ g x) → map f xs ≡ map g xs
same_map f g [] same = refl
same_map {B = B} f g (x ∷ xs) same = ap (λ (y : B). y ∷ map f xs) (same x) ∙ ap (λ (ys : List B). g x ∷ ys) (same_map f g xs same)

pub same_option_map : {A B : Type 0} (f g : A → B) (o : Option A) → ((x : A) → f x ≡ g x) → option_map f o ≡ option_map g o
same_option_map f g None same = refl
same_option_map f g (Some x) same = ap Some (same x)

module _ (t u : Texts) (s : SameTexts t u) where
  same_part : (p : StrPart) → part_of t p ≡ part_of u p
  same_part Info = s.info
  same_part Line = s.line
  same_part Strings = s.strings
  same_part LineStr = s.line_str
  same_part SupStrings = s.sup_strings
  same_part PackInfo = s.pack_info
  same_part PackStrings = s.pack_strings
  same_part SupInfo = s.sup_info
  same_part SupLineStr = s.sup_line_str

  pub same_text : (p : StrPlace) → text_of t p ≡ text_of u p
  same_text p = ap (λ (bytes : List ℕ). slice_range bytes p.start (p.start + p.len)) (same_part p.part)

  same_maybe : (o : Option StrPlace) → maybe_text t o ≡ maybe_text u o
  same_maybe None = refl
  same_maybe (Some p) = same_text p

  same_directory : (d : List ℕ) (o : Option StrPlace) → directory_text t d o ≡ directory_text u d o
  same_directory d None = refl
  same_directory d (Some p) = ap (λ (text : List ℕ). joined d text) (same_text p)

  pub same_file : (f : FilePlaces) → file_text t f ≡ file_text u f
  same_file f =
      ap (λ (d : List ℕ). (directory_text t d f.directory, maybe_text t f.name)) (same_maybe f.comp_dir)
      ∙ ap (λ (d : List ℕ). (d, maybe_text t f.name)) (same_directory (maybe_text u f.comp_dir) f.directory)
      ∙ ap (λ (n : List ℕ). (directory_text u (maybe_text u f.comp_dir) f.directory, n)) (same_maybe f.name)

  -- ---- lines

  same_row_site : (table : LineTable) (o : Option LineRow) → row_site t table o ≡ row_site u table o
  unfolding row_site
  same_row_site table None = refl
  same_row_site table (Some row) = same_bind _ _ _ (λ file. ap (λ (text : List ℕ × List ℕ). Good (Some (site_of text row))) (same_file file))

  same_line : (a : ℕ) (o : Option LineTable) → sites.line_of t a o ≡ sites.line_of u a o
  same_line a None = refl
  same_line a (Some table) = same_row_site table (row_in table.sequences a)

  same_line_in : (f : Files) (table : UnitTable) (a k : ℕ) → sites.line_in t f table a k ≡ sites.line_in u f table a k
  unfolding sites.line_in
  same_line_in f table a k = same_bind (or_invalid (unit_lines f table k)) _ _ (same_line a)

  same_first_line : (f : Files) (table : UnitTable) (a : ℕ) (units : List ℕ) → sites.first_line t f table a units ≡ sites.first_line u f table a units
  unfolding sites.first_line
  same_first_line f table a [] = refl
  same_first_line f table a (k ∷ units) =
      ap (λ (p : Part (Option Site)). p >>= λ site. sites.site_or site (sites.first_line t f table a units)) (same_line_in f table a k)
      ∙ ap (λ (rest : Part (Option Site)). sites.line_in u f table a k >>= λ site. sites.site_or site rest) (same_first_line f table a units)

  pub same_location : (f : Files) (table : UnitTable) (a : ℕ) → sites.location_at t f table a ≡ sites.location_at u f table a
  unfolding sites.location_at
  same_location f table a = same_first_line f table a (announcing table a)

  -- ---- calls

  pub same_name : (o : Option StrPlace) → sites.call_name t o ≡ sites.call_name u o
  same_name None = refl
  same_name (Some p) = ap (λ (text : List ℕ). check (is_utf8 text) InvalidDwarf >>= λ utf8. Good text) (same_text p)

  same_site_of : (call : InlinedFunction) (file : ℕ) (o : Option LineTable) → sites.site_of t call file o ≡ sites.site_of u call file o
  same_site_of call file None = refl
  same_site_of call file (Some table) = same_option_map _ _ (slice_get table.files file) (λ place. ap (λ (text : List ℕ × List ℕ). sites.site_in call text) (same_file place))

  same_call_site : (lines : Option (Option LineTable)) (call : InlinedFunction) (o : Option ℕ) → sites.call_site t lines call o ≡ sites.call_site u lines call o
  same_call_site lines call None = refl
  same_call_site lines call (Some file) = same_bind (or_invalid lines) _ _ (λ table. ap (λ (site : Option Site). Good site) (same_site_of call file table))

  same_inlined : (lines : Option (Option LineTable)) (call : InlinedFunction) → sites.inlined_by t lines call ≡ sites.inlined_by u lines call
  unfolding sites.inlined_by
  same_inlined lines call =
      ap (λ (p : Part (List ℕ)). p >>= λ name. sites.call_site t lines call call.call_file >>= λ site. Good (record { name = name; site = site })) (same_name call.name)
      ∙ ap (λ (p : Part (Option Site)). sites.call_name u call.name >>= λ name. p >>= λ site. Good (record { name = name; site = site })) (same_call_site lines call call.call_file)

  pub same_inlined_at : (f : Files) (table : UnitTable) (a k n : ℕ) → sites.inlined_at t f table a k n ≡ sites.inlined_at u f table a k n
  unfolding sites.inlined_at
  same_inlined_at f table a k n = same_bind (or_invalid (covering_calls f table a k n)) _ _ (λ calls.
      ap (λ (ps : List (Part Inlined)). all_good ps) (same_map (sites.inlined_by t (unit_lines f table k)) (sites.inlined_by u (unit_lines f table k)) calls (same_inlined (unit_lines f table k))))
