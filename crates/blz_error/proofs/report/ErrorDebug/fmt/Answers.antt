use Rattle.std.proofs.Common.{refl, sym}
use Rattle.std.proofs.lemmas.Grind.{put_two}
use Rattle.blz_error.proofs.ReportLemmas.{cause_lines-some}
use Rattle.blz_error.proofs.report.ErrorDebug.fmt.Goals as goal

pub returns : goal.returns
returns g c = record {
  writes = λ plain ok.
      let error = c.in_ok-write_str.ensures.writes plain refl in
      let first = c.in_ok-write_str-2.ensures.writes error.plain refl in
      let caused = c.in_ok-write_str-3.ensures.writes first.plain refl in
      let lines = put_two _ _ _ _ _ _ _ caused (c.write_each.ensures caused.plain ok) (sym (cause_lines-some _ _ c.in-Some.ensures.causes)) in
      let texts = put_two _ _ _ _ _ _ _ first lines (rw c.outermost.ensures refl) in
      put_two _ _ _ _ _ _ _ error texts refl;
}
