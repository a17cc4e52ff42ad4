use Rattle.std.proofs.Common.{arith}
use Rattle.std.proofs.lemmas.Option.{slice_get_within}
use Rattle.blz_reader.proofs.CallPuts.{puts_in, same_item}
use Rattle.blz_reader.proofs.filling.puts.put_calls.Goals as goal

pub returns-then-number-len : goal.returns-then-number-len
returns-then-number-len c = λ unit is. absurd (let k = slice_get_within c.args.units.now.items c.args.number unit is in omega (arith, k))

pub returns : goal.returns
returns c = λ unit is. puts_in c.put_in.result c.args.units.now.items c.args.number c.args.function _ unit c.put_in.new.unit c.args.calls (same_item c.args.units.now.items c.args.number c.index_mut.result.now unit is c.index_mut.ensures.value) c.put_in.ensures
