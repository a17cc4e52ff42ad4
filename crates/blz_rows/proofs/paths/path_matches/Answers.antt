use Rattle.std.proofs.Common.{◌≡◌, length, sym, ◌∙◌, ap, arith}
use Rattle.blz_bytes.specs.Joined.{joined}
use Rattle.blz_rows.proofs.Reaching.{goes_on, differs, ends, is_end, same_option, other_option}
use Rattle.blz_rows.proofs.paths.path_matches.Goals as goal

pub returns-then-ne : goal.returns-then-ne
returns-then-ne c =
    differs (joined c.args.dir.now c.args.file.now) c.args.name.now c.loop-index.index (omega arith)
    (other_option _ _ _ c.byte_before_end.ensures (sym c.ne.ensures ∙ c.if-ne.true)) c.loop-index.invariant

pub loop-index-preserved : goal.loop-index-preserved
loop-index-preserved c =
    goes_on (joined c.args.dir.now c.args.file.now) c.args.name.now c.loop-index.index (omega arith)
    (same_option _ _ _ c.byte_before_end.ensures (sym c.ne.ensures ∙ c.if-ne.false)) c.loop-index.invariant

pub returns-in-Some : goal.returns-in-Some
returns-in-Some c =
    let at : c.loop-index.index ≡ length c.args.name.now = omega arith in
    ap is_end c.in-Some.ensures ∙ ends (joined c.args.dir.now c.args.file.now) c.args.name.now at c.loop-index.invariant

pub returns-in-None : goal.returns-in-None
returns-in-None c =
    let at : c.loop-index.index ≡ length c.args.name.now = omega arith in
    ap is_end c.in-None.ensures ∙ ends (joined c.args.dir.now c.args.file.now) c.args.name.now at c.loop-index.invariant
