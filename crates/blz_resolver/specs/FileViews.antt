-- What the debug information of a bundle in the code stands for.
use Rattle.std.specs.Prelude.{◌≡◌, ℕ, List, [], true, Option, Some, None, option_map}
use Rattle.blz_info.specs.declared.section.Sections.{Sections}
use Rattle.blz_split.specs.PackageParts.{package_view}
use Rattle.blz_split.specs.declared.package.Package.{Package}
use Rattle.blz_resolver.specs.declared.debug.debug_files.DebugFiles.{DebugFiles}
use Rattle.blz_resolver.specs.Books.{DebugImages}
use Rattle.blz_resolver.specs.DebugViews.{debug_view, IsWholeFile}

abbrev pub images_view : DebugFiles → DebugImages
images_view f = record { main = debug_view f.main; sup = option_map debug_view f.sup; package_parts = option_map package_view f.«package» }

-- sections of a supplementary file
pub record IsSup (s : Sections) : Type 0 where
  pub whole : IsWholeFile s
  pub is_sup : s.sup ≡ true

-- the texts of a package and of a supplementary file, empty without one
abbrev pub package_info : Option Package → List ℕ
package_info None = []
package_info (Some p) = (package_view p).info

abbrev pub package_strings : Option Package → List ℕ
package_strings None = []
package_strings (Some p) = (package_view p).strings

abbrev pub sup_info : Option Sections → List ℕ
sup_info None = []
sup_info (Some s) = s.info.bytes.now

abbrev pub sup_line_str : Option Sections → List ℕ
sup_line_str None = []
sup_line_str (Some s) = s.line_str.bytes.now
