-- The printed bytes of answers.
use Rattle.std.specs.Prelude.{ℕ, List, [], ◌∷◌, ◌++◌, codes, decimal, Option, Some, None}
use Rattle.blz_error.specs.Texts.{Bytes}
use Rattle.blz_model.specs.Answers.{Site, Inlined, Answer, Known, Unknown}
use Rattle.blz_model.specs.declared.reason.Reason.{Reason}
use Rattle.blz_model.specs.declared.reason.Reason.TheVariants.{MissingSyms, UnknownAddr}
use Rattle.blz_bytes.specs.Joined.{joined}
use Rattle.blz_program.specs.PrintedText.{hex_digits, line_feed}

-- `??` where there is no name
abbrev pub shown_name : Bytes → Bytes
shown_name [] = codes "??"
shown_name (b ∷ bs) = b ∷ bs

-- a colon and a number, where there is one
abbrev pub numbered : Option ℕ → Bytes
numbered None = []
numbered (Some n) = codes ":" ++ decimal n

-- the directory of a place, nothing where it has none
abbrev pub dir_bytes : Option Bytes → Bytes
dir_bytes None = []
dir_bytes (Some dir) = dir

-- where it stands in a source, where that is known
abbrev pub place_text : Option Site → Bytes
place_text None = []
place_text (Some site) = codes " at " ++ joined (dir_bytes site.dir) site.file ++ numbered site.line ++ numbered site.column

-- an inlined call, on a line of its own
abbrev pub call_text : Inlined → Bytes
call_text call = codes "    " ++ shown_name call.name ++ place_text call.site ++ line_feed

-- the lines of the inlined calls, in their order
abbrev pub calls_text : List Inlined → Bytes
calls_text [] = []
calls_text (call ∷ calls) = call_text call ++ calls_text calls

-- what is printed in place of a name, with the reason
abbrev pub reason_text : Reason → Bytes
reason_text MissingSyms = codes "?? (missing symbols)"
reason_text UnknownAddr = codes "?? (unknown address)"

-- a symbol with its place, and its inlined calls on the lines below it; or why there is none
abbrev pub answer_text : Answer → Bytes
answer_text (Known symbol) = shown_name symbol.name ++ place_text symbol.site ++ line_feed ++ calls_text symbol.inlined
answer_text (Unknown reason) = reason_text reason ++ line_feed

-- the address with sixteen digits, a blank and its answer
abbrev pub line_of : ℕ → Answer → Bytes
line_of addr answer = hex_digits addr ++ codes " " ++ answer_text answer

-- the line of each address with its answer, in their order
abbrev pub text_of : List ℕ → List Answer → Bytes
text_of [] answers = []
text_of (addr ∷ addrs) [] = []
text_of (addr ∷ addrs) (answer ∷ answers) = line_of addr answer ++ text_of addrs answers
