use Rattle.std.proofs.Common.{◌++◌, refl}
use Rattle.std.proofs.lemmas.Grind.{put_two}
use Rattle.blz_error.proofs.ReportLemmas.{each_after-step}
use Rattle.blz_error.proofs.report.write_each.Goals as goal

pub loop-rest-preserved : goal.loop-rest-preserved
loop-rest-preserved g c = λ plain.
    let so_far = c.loop-rest.invariant plain in
    let separator = c.in_ok-write_str.ensures.writes so_far.1.plain refl in
    let text = c.in_ok-write_str-2.ensures.writes separator.plain refl in
    let behind = put_two _ _ _ _ _ _ _ separator text refl in (
      so_far.0 ++ (c.args.separator.now ++ c.text.result.now),
      put_two _ _ _ _ _ _ _ so_far.1 behind refl,
      rw c.source-rest.ensures
          (each_after-step so_far.0 c.args.separator.now c.text.result.now c.in-Some.cause _ c.text.ensures (rw c.in-Some.is at so_far.2)),
    )
