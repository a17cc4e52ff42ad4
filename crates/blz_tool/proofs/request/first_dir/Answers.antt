use Rattle.std.proofs.Common.{arith}
use Rattle.blz_program.proofs.Cuts.{not_empty}
use Rattle.blz_tool.proofs.Dirs.{colon_boundary, first_piece, one_piece}
use Rattle.blz_tool.proofs.request.first_dir.Goals as goal

pub range_from-requires : goal.range_from-requires
range_from-requires c =
    let found = c.in-Some.ensures in
    λ _. colon_boundary c.args.list.now _ _ c.as_bytes.ensures.value c.utf8.list found.0.high found.1

pub returns-in-Some-clause-some : goal.returns-in-Some-clause-some
returns-in-Some-clause-some c =
    let found = c.in-Some.ensures in
    first_piece c.args.list.now _ _ _ _ c.as_bytes.ensures.value found.0.high found.1 (λ k lt. found.0.before k (omega arith) lt)
    c.range.ensures.value c.range_from.ensures.value

pub returns-in-None-clause-some : goal.returns-in-None-clause-some
returns-in-None-clause-some c =
    one_piece c.args.list.now _ c.as_bytes.ensures.value (not_empty _ _ c.is_empty.ensures c.if-is_empty.false) (λ k lt. c.in-None.ensures k (omega arith) lt)
