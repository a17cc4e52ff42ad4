use Rattle.std.proofs.Common.{◌-◌, ◌+◌, sym, ◌∙◌, arith}
use Rattle.blz_links.proofs.ChecksumLemmas.{bit_steps-none, bit_steps-suc}
use Rattle.blz_links.proofs.checksum_tables.byte_steps.Goals as goal

pub loop-preserved : goal.loop-preserved
loop-preserved c = rw c.bit_step-register.ensures (sym (bit_steps-suc (8 - c.loop.counter) (8 - (c.loop.counter + 1)) c.loop.register (omega arith)) ∙ c.loop.invariant)

pub returns : goal.returns
returns c = sym (bit_steps-none (8 - c.loop.counter) c.loop.register (omega arith)) ∙ c.loop.invariant
