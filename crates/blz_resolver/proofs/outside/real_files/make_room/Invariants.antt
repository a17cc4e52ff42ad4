use Rattle.std.proofs.Common.{◌≤◌, vec_len}
use Rattle.blz_resolver.proofs.outside.real_files.make_room.Given as goal

abbrev pub invariant-loop : goal.invariant-loop
invariant-loop l = vec_len l.fn.bytes ≤ vec_len l.bytes
