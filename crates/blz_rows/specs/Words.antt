-- What the words ask for: a line of a file, at the path of an image.
use Rattle.std.specs.Prelude.{ℕ, ◌==◌, List, [], ◌∷◌, codes, Option, Some, None, if◌then◌else◌}
use Rattle.std.specs.Option.{option_map}
use Rattle.std.specs.Str.{bytes_eq}
use Rattle.blz_error.specs.Texts.{Bytes}
use Rattle.blz_program.specs.Words.{number_up_to}
use Rattle.blz_rows.specs.declared.words.Wanted.{Wanted}
use Rattle.blz_rows.specs.declared.words.Wanted.TheVariants.{Addresses, NextLine}

-- ---- a line of a file

pub record FileLine : Type 0 where
  pub file : Bytes
  pub line : ℕ

-- a byte in front of what is before the last colon
abbrev pub with_front : ℕ → Bytes → Option (Bytes × Bytes) → Option (Bytes × Bytes)
with_front b bs None = if b == 58 then Some ([], bs) else None
with_front b bs (Some parts) = Some (b ∷ parts.0, parts.1)

-- what stands before the last colon, and behind it
abbrev pub divided : Bytes → Option (Bytes × Bytes)
divided [] = None
divided (b ∷ bs) = with_front b bs (divided bs)

-- the greatest number of a line
abbrev pub last_line : ℕ
last_line = 4294967295

-- a file has a name
abbrev pub named : Bytes → Option ℕ → Option FileLine
named [] number = None
named (b ∷ bs) None = None
named (b ∷ bs) (Some number) = Some (record { file = b ∷ bs; line = number })

abbrev pub numbered : Option (Bytes × Bytes) → Option FileLine
numbered None = None
numbered (Some parts) = named parts.0 (number_up_to last_line parts.1)

-- FILE:LINE, where the last colon divides, and the line is a decimal number from 1 on without leading zeros
abbrev pub file_line : Bytes → Option FileLine
file_line word = numbered (divided word)

-- ---- the question

-- what is asked of a line of a file, and the path of the image
pub record Question : Type 0 where
  pub wanted : Wanted
  pub path : Bytes
  pub at : FileLine

abbrev pub question_of : Wanted → Bytes → Option FileLine → Option Question
question_of wanted path at = option_map (λ at. record { wanted = wanted; path = path; at = at }) at

-- Two words are a path and a place, whatever they begin with; three words begin with the option. Other words are not of
-- the form.
abbrev pub asked : List Bytes → Option Question
asked [] = None
asked (path ∷ []) = None
asked (path ∷ place ∷ []) = question_of Addresses path (file_line place)
asked (option ∷ path ∷ place ∷ []) = if bytes_eq option (codes "--next") then question_of NextLine path (file_line place) else None
asked (option ∷ path ∷ place ∷ more ∷ rest) = None
