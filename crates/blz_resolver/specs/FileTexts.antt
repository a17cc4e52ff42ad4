-- The texts of the files of a book.
use Rattle.std.specs.Prelude.{ℕ, List, [], Option, Some, None}
use Rattle.std.specs.Borrow.{Bor}
use Rattle.blz_info.specs.Contents.{Contents}
use Rattle.blz_info.specs.declared.text.Texts.{Texts}
use Rattle.blz_info.specs.FileSections.{FileSections}
use Rattle.blz_split.specs.PackageParts.{PackageParts}
use Rattle.blz_units.specs.BuiltUnits.{Files}

-- bytes that lie anywhere
abbrev pub resting : List ℕ → Bor (List ℕ)
resting bytes = record { ref_ptr = (0, 0); now = bytes }

-- bytes of something that may not be there
abbrev pub bytes_if : {A : Type 0} → (A → List ℕ) → Option A → List ℕ
bytes_if f None = []
bytes_if f (Some x) = f x

-- the sections that have texts, in the main file, the supplementary file and the package
abbrev pub texts_of : Files → Texts
texts_of f = record {
  info = resting f.main.info.bytes;
  line = resting f.main.line.bytes;
  strings = resting f.main.strings.bytes;
  line_str = resting f.main.line_str.bytes;
  sup_strings = resting (bytes_if (λ (s : Contents). s.bytes) f.main.sup_strings);
  pack_info = resting (bytes_if (λ (p : PackageParts). p.info) f.«package»);
  pack_strings = resting (bytes_if (λ (p : PackageParts). p.strings) f.«package»);
  sup_info = resting (bytes_if (λ (s : FileSections). s.info.bytes) f.sup);
  sup_line_str = resting (bytes_if (λ (s : FileSections). s.line_str.bytes) f.sup);
}
