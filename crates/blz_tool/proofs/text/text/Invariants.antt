use Rattle.std.proofs.Common.{◌≡◌, ◌++◌, drop, map}
use Rattle.blz_elf.specs.AnswerView.{answer_view}
use Rattle.blz_tool.specs.PrintedText.{text_of}
use Rattle.blz_tool.proofs.text.text.Given as goal

abbrev pub invariant-loop-i : goal.invariant-loop-i
invariant-loop-i l = l.out.items ++ text_of (drop l.i l.addrs) (map answer_view (drop l.i l.answers)) ≡ text_of l.addrs (map answer_view l.answers)
