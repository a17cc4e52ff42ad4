use Rattle.std.proofs.Common.{◌≡◌, true, false, sym, ◌∙◌}
use Rattle.blz_rows.specs.Asking.{asks}
use Rattle.blz_rows.proofs.RowSteps.{absent_row, other_row, meant_row, passed_row}
use Rattle.blz_rows.proofs.gather.push_row.Goals as goal
use Rattle.blz_rows.proofs.gather.push_row.Goals.{in-Other, in-Meant+then-has+in_ok-take-in-Meant+in_ok-push-in-Meant, in-Meant+else-has}

pub returns-in-Absent-clause-value : goal.returns-in-Absent-clause-value
returns-in-Absent-clause-value c memory =
    rw c.no_file.ensures (absent_row c.args.found.now.items c.args.files.now.name c.args.lines c.args.files.now.files c.args.row c.args.end c.in-Absent.ensures.verdict)

pub returns-clause-value : goal.returns-clause-value
returns-clause-value c =
    elim c.match-verdict.branch [
      | in-Other w ↦ rw w.found-is (other_row c.args.found.now.items c.args.files.now.name c.args.lines c.args.files.now.files c.args.row c.args.end w.in-Other.ensures.verdict)
      | in-Meant+then-has+in_ok-take-in-Meant+in_ok-push-in-Meant w ↦
          let asked : asks c.args.lines c.args.row.line ≡ true = sym w.has.ensures ∙ w.if-has.true in
          let row = meant_row c.args.found.now.items c.args.files.now.name c.args.lines c.args.files.now.files c.args.row c.args.end w.in-Meant.ensures.verdict asked in
          rw (w.found-is, w.in_ok-push-in-Meant.ensures.items, w.found_row.ensures) row
      | in-Meant+else-has w ↦
          let passed : asks c.args.lines c.args.row.line ≡ false = sym w.has.ensures ∙ w.if-has.false in
          rw w.found-is (passed_row c.args.found.now.items c.args.files.now.name c.args.lines c.args.files.now.files c.args.row c.args.end w.in-Meant.ensures.verdict passed)
    ]
