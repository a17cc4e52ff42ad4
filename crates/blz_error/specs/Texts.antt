-- A text as its bytes.
use Rattle.std.specs.Prelude.{ℕ, List}
use Rattle.std.specs.String.{string_bytes}
use Rattle.blz_error.specs.declared.text.Text.{Text}
use Rattle.blz_error.specs.declared.text.Text.TheVariants.{Fixed, Owned}

-- the bytes of a text, a path or an image, each as its number
abbrev pub Bytes : Type 0
Bytes = List ℕ

abbrev pub text_bytes : Text → Bytes
text_bytes (Fixed s) = s.now
text_bytes (Owned s) = string_bytes s
