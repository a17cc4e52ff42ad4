use Rattle.std.proofs.Common.{◌≡◌, drop}
use Rattle.blz_image.specs.Segments.{file_place, first_given}
use Rattle.blz_image.proofs.segments.file_place.Given as goal

abbrev pub invariant-loop-i : goal.invariant-loop-i
invariant-loop-i l = first_given (file_place l.addr l.size) (drop l.i l.segments) ≡ first_given (file_place l.addr l.size) l.segments
