-- How many answers have a symbol, and the sum of their lines.
use Rattle.std.specs.Prelude.{ℕ, ◌+◌, List, [], ◌∷◌, Option, Some, None}
use Rattle.blz_model.specs.Answers.{Answer, Known, Site, Unknown}
use Rattle.blz_tool.specs.declared.tally.Tally.{Tally}

-- one for a symbol
abbrev pub symbols_in : Answer → ℕ
symbols_in (Known symbol) = 1
symbols_in (Unknown reason) = 0

-- a line, 0 where there is none
abbrev pub number_or_0 : Option ℕ → ℕ
number_or_0 None = 0
number_or_0 (Some n) = n

-- the line of a place, 0 where it has none
abbrev pub line_at : Option Site → ℕ
line_at None = 0
line_at (Some site) = number_or_0 site.line

-- the line of a symbol, 0 where there is none
abbrev pub line_in : Answer → ℕ
line_in (Known symbol) = line_at symbol.site
line_in (Unknown reason) = 0

-- these answers and one more
abbrev pub with_answer : Tally → Answer → Tally
with_answer so_far answer = record { found = so_far.found + symbols_in answer; lines = so_far.lines + line_in answer }

-- the same with further answers
abbrev pub tally_from : Tally → List Answer → Tally
tally_from so_far [] = so_far
tally_from so_far (answer ∷ answers) = tally_from (with_answer so_far answer) answers

-- how many of some answers have a symbol, and the sum of their lines
abbrev pub tally_of : List Answer → Tally
tally_of answers = tally_from (record { found = 0; lines = 0 }) answers
