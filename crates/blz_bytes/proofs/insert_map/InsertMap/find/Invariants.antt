use Rattle.std.proofs.Common.{◌≡◌, ◌++◌, take, drop}
use Rattle.std.specs.Map.{lookup, remove_entry}
use Rattle.blz_bytes.proofs.insert_map.InsertMap.find.Given as goal

abbrev pub invariant-loop-i : goal.invariant-loop-i
invariant-loop-i g l =
    let pairs = l.self-inside.pairs.items in
    let test = g.K.PartialEq.eq l.key in
    record {
      rest : lookup test (drop l.i pairs) ≡ lookup test pairs;
      front : take l.i pairs ++ remove_entry test (drop l.i pairs) ≡ remove_entry test pairs;
    }
