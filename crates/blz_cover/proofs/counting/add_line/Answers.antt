use Rattle.std.proofs.Common.{◌+◌, ◌++◌, ◌∷◌, []}
use Rattle.blz_cover.specs.Counting.{counted_from}
use Rattle.blz_cover.specs.declared.change.Change.{Change}
use Rattle.blz_cover.proofs.Counted.{found_at-mark}
use Rattle.blz_cover.proofs.counting.add_line.Goals as goal

pub returns-in-Err-Mark-clause-err : goal.returns-in-Err-Mark-clause-err
returns-in-Err-Mark-clause-err g c = λ lines.
    let old = c.args.cover.now in
    let fault = rw c.in-Err-Mark.field-0-is at c.in-Err-Mark.ensures.fault in
    rw (← c.in-Some.ensures.value) (found_at-mark old _ c.args.number c.in-Err-Mark.kind (λ (change : Change). counted_from old.images (old.changes ++ change ∷ []) (c.args.number + 1) lines) fault)
