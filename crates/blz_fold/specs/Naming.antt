-- Stacks of addresses become stacks of names.
use Rattle.std.specs.Prelude.{ℕ, true, List, [], ◌∷◌, codes, map}
use Rattle.std.specs.List.{flat_map}
use Rattle.std.specs.Str.{bytes_eq}
use Rattle.blz_error.specs.Texts.{Bytes}
use Rattle.blz_model.specs.Answers.{Answer, Known, Unknown}
use Rattle.blz_model.specs.Part.{Part, Good, Broken, ◌>>=◌}
use Rattle.blz_elf.specs.declared.opts.FindSymOpts.TheVariants.{CodeInfoAndInlined}
use Rattle.blz_resolver.specs.Images.{ImageSet}
use Rattle.blz_resolver.specs.Scan.{answers_of, scan_of}
use Rattle.blz_fold.specs.declared.stack_list.Stack.{Stack}
use Rattle.blz_fold.specs.AddressStacks.{addresses_in}
use Rattle.blz_fold.specs.Counted.{Counted, Node, lines_of, nodes_of}

-- `??` where there is no name
abbrev pub shown : Bytes → Bytes
shown [] = codes "??"
shown (b ∷ bs) = b ∷ bs

-- The names of an answer, the outermost first: that of the symbol, and those of the calls inlined there.
abbrev pub names_of : Answer → List Bytes
names_of (Known symbol) = shown symbol.name ∷ map (λ call. shown call.name) symbol.inlined
names_of (Unknown reason) = codes "??" ∷ []

-- An address whose answer is a mark has no names. No stack is named that has one.
abbrev pub names_from : Part Answer → List Bytes
names_from (Good answer) = names_of answer
names_from (Broken k) = []

abbrev pub answer_at : ImageSet → ℕ → Part Answer
answer_at images addr = answers_of images true CodeInfoAndInlined addr

-- the names of a stack: those of its addresses' answers, in order
abbrev pub named : ImageSet → Stack → Counted Bytes
named images stack = record { names = flat_map (λ addr. names_from (answer_at images addr)) stack.addresses; count = stack.count }

-- the stacks of names, where the scan over all addresses meets no mark
unfoldable pub named_stacks : ImageSet → List Stack → Part (List (Counted Bytes))
named_stacks images stacks = do
  answers ← scan_of images (addresses_in stacks) CodeInfoAndInlined
  Good (map (named images) stacks)

-- the distinct ones with the sums of their counts
abbrev pub named_lines : ImageSet → List Stack → Part (List (Counted Bytes))
named_lines images stacks = named_stacks images stacks >>= λ names. Good (lines_of bytes_eq names)

-- what is folded from stacks of names
pub record FoldedNames : Type 0 where
  pub lines : List (Counted Bytes)
  pub nodes : List (Node Bytes)

abbrev pub folded_names : List (Counted Bytes) → FoldedNames
folded_names stacks = record { lines = lines_of bytes_eq stacks; nodes = nodes_of bytes_eq stacks }

-- what is folded from stacks of addresses, or the first mark
abbrev pub fold_of : ImageSet → List Stack → Part FoldedNames
fold_of images stacks = named_stacks images stacks >>= λ names. Good (folded_names names)
