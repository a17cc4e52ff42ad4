use Rattle.std.proofs.Common.{◌-◌, length}
use Rattle.std.specs.List.{IsDistinct}
use Rattle.std.specs.Map.{keys_of}
use Rattle.blz_bytes.specs.Inserted.{Says}
use Rattle.blz_bytes.proofs.Retaining.{SettledTo}
use Rattle.blz_bytes.proofs.insert_map.InsertMap.retain.Given as goal

abbrev pub invariant-loop-i : goal.invariant-loop-i
invariant-loop-i g l = record {
  differ : IsDistinct g.K.PartialEq.eq (keys_of l.self-inside.pairs.items);
  settled : SettledTo (Says (λ f key value answer. g.G.Fn.post f (key, (value, tt)) answer) l.f) l.fn.self l.self-inside.pairs.items l.i;
}

abbrev pub decreases-loop-i : goal.decreases-loop-i
decreases-loop-i g l = length l.self-inside.pairs.items - l.i
