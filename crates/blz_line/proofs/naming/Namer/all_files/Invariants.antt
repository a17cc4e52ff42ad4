use Rattle.std.proofs.Common.{◌≡◌, drop}
use Rattle.blz_line.specs.FileNames.{all_files}
use Rattle.blz_line.specs.NamingView.{naming_view}
use Rattle.blz_line.proofs.AllFiles.{with_files}
use Rattle.blz_line.proofs.naming.Namer.all_files.Given as goal

abbrev pub invariant-loop-entry : goal.invariant-loop-entry
invariant-loop-entry l = with_files l.files (all_files (naming_view l.self) (drop l.entry-index l.listed)) ≡ all_files (naming_view l.self) l.entries
