use Rattle.std.proofs.Common.{◌≡◌, ◌++◌, drop, map}
use Rattle.blz_elf.specs.CallViews.{inlined_view}
use Rattle.blz_tool.specs.PrintedText.{calls_text}
use Rattle.blz_tool.proofs.text.push_calls.Given as goal

abbrev pub invariant-loop-call : goal.invariant-loop-call
invariant-loop-call l = l.out.items ++ calls_text (map inlined_view (drop l.call-index l.calls)) ≡ l.initial.out.items ++ calls_text (map inlined_view l.calls)
