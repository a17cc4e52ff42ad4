use Rattle.std.proofs.Common.{◌≡◌, ◌∷◌, codes, map, string_bytes, take}
use Rattle.blz_tool.proofs.program.named_words.Given as goal

abbrev pub invariant-loop-word : goal.invariant-loop-word
invariant-loop-word l = map (λ w. w.now) l.given.items ≡ codes "blz_tool" ∷ map string_bytes (take l.word-index l.words)
