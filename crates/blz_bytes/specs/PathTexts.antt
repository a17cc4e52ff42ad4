-- A path as text.
use Rattle.std.specs.Prelude.{ℕ, List}
use Rattle.std.specs.Str.{is_utf8}
use Rattle.blz_error.specs.declared.kind.ErrorKind.TheVariants.{InvalidData}
use Rattle.blz_model.specs.Part.{Part, Good, ◌>>=◌, check}

-- the bytes, which have to be UTF-8
unfoldable pub path_text : List ℕ → Part (List ℕ)
path_text bytes = do
  utf8 ← check (is_utf8 bytes) InvalidData
  Good bytes
