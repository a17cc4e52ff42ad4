-- Words that name no option.
use Rattle.std.specs.Prelude.{◌==◌, not, Bool, true, [], ◌∷◌}
use Rattle.blz_error.specs.Texts.{Bytes}

-- the word does not begin with a hyphen (45)
abbrev pub is_plain : Bytes → Bool
is_plain [] = true
is_plain (b ∷ bs) = not (b == 45)
