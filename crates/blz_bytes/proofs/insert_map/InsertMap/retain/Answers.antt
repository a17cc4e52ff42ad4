use Rattle.std.proofs.Common.{arith, ap}
use Rattle.blz_bytes.specs.Inserted.{Says}
use Rattle.blz_bytes.proofs.Retaining.{kept, taken_out, settled, distinct_removed}
use Rattle.blz_bytes.proofs.insert_map.InsertMap.retain.Goals as goal

pub loop-i-init : goal.loop-i-init
loop-i-init g c = record { differ = c.self.invariant; settled = λ rest h. rw (← c.self.view_is) h }

pub invariant_of-self : goal.invariant_of-self
invariant_of-self g c = c.loop-i.invariant.differ

pub loop-i-preserved-then-f : goal.loop-i-preserved-then-f
loop-i-preserved-then-f g c =
    let here = c.index.ensures in
    let answers = rw c.if-f.true at c.f.ensures in
    record {
      differ = c.loop-i.invariant.differ;
      settled = kept (Says (λ f key value answer. g.G.Fn.post f (key, (value, tt)) answer) c.args.f) c.args.self.now c.loop-i.self-inside.pairs.items c.loop-i.i c.index.result.now (omega arith) (record { shown_key = _; shown_value = _; shows = (ap (λ p. p.0) here, ap (λ p. p.1) here); answers = answers }) c.loop-i.invariant.settled;
    }

pub loop-i-preserved : goal.loop-i-preserved
loop-i-preserved g c =
    let here = c.index.ensures in
    let answers = rw c.if-f.false at c.f.ensures in
    let pairs = c.loop-i.self-inside.pairs.items in
    let out = taken_out (Says (λ f key value answer. g.G.Fn.post f (key, (value, tt)) answer) c.args.f) c.args.self.now pairs c.loop-i.i c.index.result.now (omega arith) (record { shown_key = _; shown_value = _; shows = (ap (λ p. p.0) here, ap (λ p. p.1) here); answers = answers }) c.loop-i.invariant.settled in
    rw c.remove.ensures.items (record {
      differ = distinct_removed g.K.PartialEq.eq pairs c.loop-i.i c.loop-i.invariant.differ;
      settled = out;
    })

pub returns : goal.returns
returns g c = settled (Says (λ f key value answer. g.G.Fn.post f (key, (value, tt)) answer) c.args.f) c.args.self.now c.loop-i.self-inside.pairs.items c.loop-i.i (omega arith) c.loop-i.invariant.settled
