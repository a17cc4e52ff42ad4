-- Names, and those of the sections, where each can be read.
use Rattle.std.specs.Prelude.{ℕ, Bool, false, List, [], drop, map, Option, Some, None}
use Rattle.std.specs.Str.{bytes_eq, is_utf8}
use Rattle.blz_error.specs.declared.kind.ErrorKind.TheVariants.{InvalidData}
use Rattle.blz_model.specs.Part.{Part, Good, Broken, ◌>>=◌, check}
use Rattle.blz_model.specs.Texts.{name_at}
use Rattle.blz_image.specs.declared.section.Section.{Section}

abbrev pub value_or : {A : Type 0} → A → Part A → A
value_or d (Good x) = x
value_or d (Broken k) = d

abbrev pub name_in : List ℕ → Section → List ℕ
name_in texts s = value_or [] (name_at texts s.name_offset)

abbrev pub names_in : List ℕ → List Section → List (List ℕ)
names_in texts sections = map (name_in texts) (drop 1 sections)

-- whether a text is there, and is a name
abbrev pub is_text : Option (List ℕ) → List ℕ → Bool
is_text None name = false
is_text (Some text) name = bytes_eq text name

-- a name that is shown has to be UTF-8
unfoldable pub text_of : List ℕ → Part (List ℕ)
text_of name = do
  utf8 ← check (is_utf8 name) InvalidData
  Good name
