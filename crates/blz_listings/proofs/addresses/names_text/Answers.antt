use Rattle.std.proofs.Common.{refl, ◌∙◌, arith}
use Rattle.std.proofs.lemmas.Result.{err_from_is_err_and}
use Rattle.blz_listings.proofs.NameSteps.{behind_none, name_break, name_on, names_ended}
use Rattle.blz_listings.proofs.addresses.names_text.Goals as goal

pub loop-name-init : goal.loop-name-init
loop-name-init g c = record {
  so_far = rw c.new-out.ensures.items (behind_none _);
  images = refl;
  has_debug = c.requires;
}

pub loop-name-preserved : goal.loop-name-preserved
loop-name-preserved g c = record {
  so_far = name_on c.args.opts.now _ c.args.names.now c.loop-name.name-index c.name-item.result _ _ c.in_ok-infos.infos c.loop-name.out.items _ _ (omega arith) c.name-item.is c.loop-name.invariant.images c.loop-name.invariant.has_debug (rw c.as_str.ensures.value at c.in_ok-infos.ensures.value) (rw (c.as_str-in-loop-name.ensures.value, c.as_slice.ensures) at c.in_ok-push_name.ensures) c.loop-name.invariant.so_far;
  images = c.in_ok-infos.ensures.stays.images ∙ c.loop-name.invariant.images;
  has_debug = c.in_ok-infos.ensures.stays.has_debug ∙ c.loop-name.invariant.has_debug;
}

pub returns-in_err-infos : goal.returns-in_err-infos
returns-in_err-infos g c =
    let p = err_from_is_err_and c.from_residual.result c.from_residual.ensures.1 in
    rw (p.1, p.2) (name_break c.args.opts.now _ c.args.names.now _ c.loop-name.name-index c.name-item.result _ _ c.loop-name.out.items _ (omega arith) c.name-item.is c.loop-name.invariant.images c.loop-name.invariant.has_debug (rw c.as_str.ensures.value at c.in_err-infos.ensures.value) c.loop-name.invariant.so_far)

pub returns : goal.returns
returns g c = names_ended c.args.opts.now _ c.args.names.now c.loop-name.name-index c.loop-name.out.items _ (omega arith) c.loop-name.invariant.so_far
