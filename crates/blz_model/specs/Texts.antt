-- Texts and names in bytes.
use Rattle.std.specs.Prelude.{ℕ, List, [], ◌∷◌, drop, ◌==◌, Option, Some, None, if◌then◌else◌}
use Rattle.std.specs.Option.{option_map}
use Rattle.std.specs.Str.{is_utf8}
use Rattle.blz_error.specs.declared.kind.ErrorKind.TheVariants.{InvalidData, InvalidInput}
use Rattle.blz_model.specs.Part.{Part, Good, ◌>>=◌, or_mark, check}

-- the bytes before the first zero
abbrev pub c_string : List ℕ → Option (List ℕ)
c_string [] = None
c_string (b ∷ bytes) = if b == 0 then Some [] else option_map (λ (text : List ℕ). b ∷ text) (c_string bytes)

-- the text at a place of a table: none past the end or where no zero follows
abbrev pub text_at : List ℕ → ℕ → Option (List ℕ)
text_at table at = c_string (drop at table)

-- the bytes of a name that has to be there
unfoldable pub name_bytes : List ℕ → ℕ → Part (List ℕ)
name_bytes table at = or_mark (text_at table at) InvalidInput

-- a name that has to be there, and to be UTF-8
unfoldable pub name_at : List ℕ → ℕ → Part (List ℕ)
name_at table at = do
  text ← or_mark (text_at table at) InvalidInput
  utf8 ← check (is_utf8 text) InvalidData
  Good text
