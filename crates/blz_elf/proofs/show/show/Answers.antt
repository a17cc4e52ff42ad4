use Rattle.std.proofs.Common.{None, map, ap, ◌∙◌, arith}
use Rattle.std.proofs.lemmas.List.{get_or-map, length-map}
use Rattle.std.proofs.lemmas.Result.{err_from_is_err_and}
use Rattle.blz_elf.specs.Infos.{info_of}
use Rattle.blz_symbols.specs.NameSteps.{named_view}
use Rattle.blz_relocations.specs.Flows.{is_break}
use Rattle.blz_elf.proofs.ListingSteps.{shown_on, shown_break, shown_refused, shown_end}
use Rattle.blz_elf.proofs.show.show.Goals as goal

pub returns-in_err-info : goal.returns-in_err-info
returns-in_err-info g c =
    let p = err_from_is_err_and c.from_residual.result c.from_residual.ensures.1 in
    rw (p.1, p.2) (shown_refused (info_of c.args.image.now None c.args.with_place) (map named_view c.args.listed.now) c.loop-named.named-index _ _ _ _ _ _ (omega (arith, length-map c.args.listed.now named_view, c.loop-named-test.true)) (get_or-map named_view c.args.listed.now c.loop-named.named-index _ _ (omega (arith, c.loop-named-test.true))) c.in_err-info.ensures.0 c.loop-named.invariant.goes_on c.loop-named.invariant.so_far)

pub returns-in-Break : goal.returns-in-Break
returns-in-Break g c =
    shown_break (info_of c.args.image.now None c.args.with_place) (map named_view c.args.listed.now) c.loop-named.named-index _ _ _ _ _ _ _ (omega (arith, length-map c.args.listed.now named_view, c.loop-named-test.true)) (get_or-map named_view c.args.listed.now c.loop-named.named-index _ _ (omega (arith, c.loop-named-test.true))) c.in_ok-info.ensures c.visit.ensures.shown (c.visit.ensures.stopped ∙ ap is_break c.in-Break.is) c.loop-named.invariant.so_far

pub loop-named-preserved : goal.loop-named-preserved
loop-named-preserved g c = record {
  goes_on = c.visit.ensures.stopped ∙ ap is_break c.in_default.is;
  so_far = shown_on (info_of c.args.image.now None c.args.with_place) (map named_view c.args.listed.now) c.loop-named.named-index _ _ _ _ _ _ (omega (arith, length-map c.args.listed.now named_view, c.loop-named-test.true)) (get_or-map named_view c.args.listed.now c.loop-named.named-index _ _ (omega (arith, c.loop-named-test.true))) c.in_ok-info.ensures c.visit.ensures.shown c.loop-named.invariant.so_far;
}

pub returns : goal.returns
returns g c = shown_end (info_of c.args.image.now None c.args.with_place) (map named_view c.args.listed.now) c.loop-named.named-index _ _ _ _ (omega (arith, length-map c.args.listed.now named_view, c.loop-named.auto.named-index-end, c.loop-named-test.false)) c.loop-named.invariant.goes_on c.loop-named.invariant.so_far
