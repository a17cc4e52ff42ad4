-- What the code's forms and requests stand for.
use Rattle.std.specs.Prelude.{⊤, ◌≤◌, List, [], Option, Some, None, map, option_map, unwrap_or, string_bytes}
use Rattle.std.specs.Borrow.{Bor}
use Rattle.blz_error.specs.Texts.{Bytes}
use Rattle.blz_tool.specs.CommandLine.{Asked, Malformed, most_functions}
use Rattle.blz_tool.specs.CommandLine as asked
use Rattle.blz_tool.specs.declared.command_line.WordForm.{WordForm}
use Rattle.blz_tool.specs.declared.command_line.WordForm.TheVariants as form
use Rattle.blz_tool.specs.declared.request.Question.{Question}
use Rattle.blz_tool.specs.declared.request.Request.{Request}
use Rattle.blz_tool.specs.declared.request.Request.TheVariants.{Resolve, Demo}

abbrev pub words_in : Option (Bor (List (Bor Bytes))) → List Bytes
words_in words = unwrap_or (option_map (λ t. map (λ w. w.now) t.now) words) []

abbrev pub form_view : WordForm → asked.Form
form_view (form.Lookup opts dirs path addrs) = asked.Lookup opts (option_map (λ t. t.now) dirs) path.now (words_in addrs)
form_view (form.Sample number) = asked.Sample number.now
form_view form.NoForm = asked.NoForm

abbrev pub question_view : Question → asked.Question
question_view q = record { opts = q.opts; dirs = option_map (λ dirs. map string_bytes dirs.items) q.dirs; path = q.path.now; addrs = q.addrs.items }

abbrev pub request_view : Option Request → Asked
request_view None = Malformed
request_view (Some (Resolve question)) = asked.Resolve (question_view question)
request_view (Some (Demo n)) = asked.Demo n

-- the demo has from 1 to 100000 functions
abbrev pub IsFew : Option Request → Type 0
IsFew None = ⊤
IsFew (Some (Resolve question)) = ⊤
IsFew (Some (Demo n)) = (1 ≤ n) × (n ≤ most_functions)
