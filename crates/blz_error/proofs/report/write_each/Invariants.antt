-- What was written, then what the causes still to come make, is the whole output.
use Rattle.std.proofs.Common.{◌≡◌, ◌++◌, length}
use Rattle.std.specs.Fmt.{IsPlainFormatter, HasWritten}
use Rattle.blz_error.specs.Reports.{each_after, texts_in}
use Rattle.blz_error.specs.Texts.{Bytes}
use Rattle.blz_error.proofs.report.write_each.Given as goal

abbrev pub invariant-loop-rest : goal.invariant-loop-rest
invariant-loop-rest g l = IsPlainFormatter l.fn.f → (done : Bytes) × HasWritten g.W.Write.write_str_gives l.fn.f done l.f
    × (done ++ each_after l.separator (texts_in l.rest) ≡ each_after l.fn.separator (texts_in l.fn.causes))

abbrev pub decreases-loop-rest : goal.decreases-loop-rest
decreases-loop-rest g l = length (texts_in l.rest)
