use Rattle.std.proofs.Common.{◌≡◌, ◌++◌}
use Rattle.blz_elf.proofs.record_slice.ElfNSlice.to_owned.Given as goal

abbrev pub invariant-loop-record : goal.invariant-loop-record
invariant-loop-record g l = l.items.items ++ l.record-iterator ≡ l.self
