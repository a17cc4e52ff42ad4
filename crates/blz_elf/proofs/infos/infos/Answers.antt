use Rattle.std.proofs.Common.{map, sym, arith}
use Rattle.std.specs.Option.{option_map}
use Rattle.std.proofs.lemmas.List.{get_or-map, length-map, map-append}
use Rattle.std.proofs.lemmas.Result.{err_from_is_err_and}
use Rattle.blz_model.proofs.PartLemmas.{all_on, all_break}
use Rattle.blz_elf.specs.Infos.{info_view, info_of}
use Rattle.blz_symbols.specs.NameSteps.{named_view}
use Rattle.blz_elf.proofs.infos.infos.Goals as goal

pub loop-named-preserved : goal.loop-named-preserved
loop-named-preserved c =
    let listed = c.args.listed.now in
    rw (c.in_ok-push.ensures.items, map-append info_view c.loop-named.items.items _)
    (all_on (info_of c.args.image.now (option_map (λ m. m.now) c.args.module_name) c.args.with_place) (map named_view listed) c.loop-named.named-index (map info_view c.loop-named.items.items) _ _ (omega (arith, length-map listed named_view, c.loop-named-test.true)) (sym (get_or-map named_view listed c.loop-named.named-index _ _ (omega (arith, c.loop-named-test.true)))) c.in_ok-info_of.ensures c.loop-named.invariant)

pub returns-in_err-info_of : goal.returns-in_err-info_of
returns-in_err-info_of c =
    let listed = c.args.listed.now in
    let p = err_from_is_err_and c.from_residual.result c.from_residual.ensures.1 in
    rw (p.1, p.2) (λ ne. all_break (info_of c.args.image.now (option_map (λ m. m.now) c.args.module_name) c.args.with_place) (map named_view listed) c.loop-named.named-index (map info_view c.loop-named.items.items) _ _ (omega (arith, length-map listed named_view, c.loop-named-test.true)) (sym (get_or-map named_view listed c.loop-named.named-index _ _ (omega (arith, c.loop-named-test.true)))) c.in_err-info_of.ensures.0 c.loop-named.invariant)
