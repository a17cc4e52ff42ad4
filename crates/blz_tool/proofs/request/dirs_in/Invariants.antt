use Rattle.std.proofs.Common.{◌≡◌, ◌++◌, length, map, string_bytes}
use denote.Shadow.{shadow}
use denote.Text.{Utf8}
use Rattle.blz_program.specs.TextLines.{pieces_of}
use Rattle.blz_tool.specs.CommandLine.{dirs_in, nonempty}
use Rattle.blz_tool.proofs.request.dirs_in.Given as goal

abbrev pub invariant-loop-dir : goal.invariant-loop-dir
invariant-loop-dir l = record {
  text : shadow (Utf8 l.rest);
  same : map string_bytes l.dirs.items ++ nonempty (pieces_of 58 l.rest) ≡ dirs_in l.list;
}

abbrev pub decreases-loop-dir : goal.decreases-loop-dir
decreases-loop-dir l = length l.rest
