use Rattle.std.proofs.Common.{◌≡◌, drop}
use Rattle.blz_image.specs.Segments.{address_of, first_given}
use Rattle.blz_image.proofs.segments.address_of.Given as goal

abbrev pub invariant-loop-i : goal.invariant-loop-i
invariant-loop-i l = first_given (address_of l.offset) (drop l.i l.segments) ≡ first_given (address_of l.offset) l.segments
