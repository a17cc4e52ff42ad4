-- The text of stacks: a line for each, with its count, a blank, and its addresses joined by `;`, the outermost first.
use Rattle.std.specs.Prelude.{◌≡◌, ℕ, ◌+◌, ◌-◌, ◌^◌, ◌==◌, nat_lt, ⊤, List, [], ◌∷◌, Option, Some, None, Result, Ok, Err, if◌then◌else◌}
use Rattle.blz_error.specs.Texts.{Bytes}
use Rattle.blz_program.specs.TextLines.{lines_of, with_first}
use Rattle.blz_program.specs.Words.{each_address, number_up_to}
use Rattle.blz_program.specs.declared.outcome.LineFault.{LineFault}
use Rattle.blz_program.specs.declared.outcome.LineFault.TheVariants.{BadForm, TooLarge}
use Rattle.blz_fold.specs.declared.stack_list.Stack.{Stack}
use Rattle.blz_fold.specs.declared.stack_fault.StackFault.{StackFault}
use Rattle.blz_fold.specs.declared.stack_fault.StackFault.TheVariants as fault

-- what stands before the first blank, and what behind it
abbrev pub with_front : ℕ → Option (Bytes × Bytes) → Option (Bytes × Bytes)
with_front b None = None
with_front b (Some parts) = Some (b ∷ parts.0, parts.1)

abbrev pub cut_at_blank : Bytes → Option (Bytes × Bytes)
cut_at_blank [] = None
cut_at_blank (b ∷ bs) = if b == 32 then Some ([], bs) else with_front b (cut_at_blank bs)

-- What stands between the semicolons: one piece more than there are semicolons.
abbrev pub split : Bytes → List Bytes
split [] = [] ∷ []
split (b ∷ bs) = if b == 59 then [] ∷ split bs else with_first b (split bs)

abbrev pub stack_with : Option ℕ → Option (List ℕ) → Option Stack
stack_with None addresses = None
stack_with (Some count) None = None
stack_with (Some count) (Some addresses) = Some (record { count = count; addresses = addresses })

abbrev pub stack_in : Option (Bytes × Bytes) → Option Stack
stack_in None = None
stack_in (Some parts) = stack_with (number_up_to (2 ^ 64 - 1) parts.0) (each_address (split parts.1))

-- The stack of a line: a count from 1 to 2^64 - 1 in decimal without leading zeros, a blank, and at least one address.
abbrev pub stack_of : Bytes → Option Stack
stack_of line = stack_in (cut_at_blank line)

-- the stacks of a text, or the number of the first line that is refused, and why
abbrev pub Parsed : Type 0
Parsed = Result (List Stack) (ℕ × LineFault)

abbrev pub with_stack : Stack → Parsed → Parsed
with_stack s (Ok stacks) = Ok (s ∷ stacks)
with_stack s (Err refused) = Err refused

abbrev pub counted_in : ℕ → ℕ → Option Stack → (ℕ → Parsed) → Parsed
counted_in number total None rest = Err (number, BadForm)
counted_in number total (Some s) rest = if nat_lt (total + s.count) (2 ^ 64) then with_stack s (rest (total + s.count)) else Err (number, TooLarge)

-- Line by line, with the number of the line and the sum of the counts before it. A line that is not of its form is
-- refused, and so is the one with which the sum passes 2^64 - 1.
abbrev pub parsed_from : ℕ → ℕ → List Bytes → Parsed
parsed_from number total [] = Ok []
parsed_from number total (line ∷ lines) = counted_in number total (stack_of line) (λ sum. parsed_from (number + 1) sum lines)

abbrev pub parsed : Bytes → Parsed
parsed text = parsed_from 1 0 (lines_of text)

-- the fault is why the text is refused; want of memory has no cause
abbrev pub IsFault : StackFault → Parsed → Type 0
IsFault (fault.Line number) p = p ≡ Err (number, BadForm)
IsFault (fault.Total number) p = p ≡ Err (number, TooLarge)
IsFault fault.Memory p = ⊤
