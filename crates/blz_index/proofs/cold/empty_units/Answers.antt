use Rattle.std.proofs.Common.{◌∙◌, arith}
use Rattle.std.proofs.lemmas.List.{length_push}
use Rattle.blz_model.specs.declared.cache.Cache.TheVariants.{Empty}
use Rattle.blz_units.proofs.PutItems.{push_empty}
use Rattle.blz_index.proofs.cold.empty_units.Goals as goal

pub loop-preserved : goal.loop-preserved
loop-preserved c = rw c.in_ok-push.ensures.items (record {
  within = omega arith;
  count = let n = length_push c.loop.units.items Empty in omega arith;
  empty = λ k. push_empty c.loop.units.items k ∙ c.loop.invariant.empty k;
})
