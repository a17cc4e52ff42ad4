use Rattle.std.proofs.Common.{arith}
use Rattle.blz_bytes.proofs.NumberLoop.{bound_more}
use Rattle.blz_bytes.proofs.places.number_at.Goals as goal

pub overflow_mul-value : goal.overflow_mul-value
overflow_mul-value c = omega (arith, bound_more c.loop-i.value 0 c.loop-i.i c.loop-i.invariant.small (omega arith) (omega arith))

pub overflow_add-value : goal.overflow_add-value
overflow_add-value c = omega (arith, bound_more c.loop-i.value c.from.result c.loop-i.i c.loop-i.invariant.small (omega arith) (omega arith))
