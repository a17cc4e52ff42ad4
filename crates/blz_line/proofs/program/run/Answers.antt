use Rattle.std.proofs.Common.{◌-◌, ◌+◌, length, refl, sym, ◌∙◌, arith}
use Rattle.std.proofs.lemmas.Result.{err_from_is_err_and}
use Rattle.blz_info.specs.Contents.{section_view}
use Rattle.blz_line.specs.Program.{run_from}
use Rattle.blz_line.proofs.ProgramSteps.{run_none, run_done, run_stuck, fails_none, step_given, step_none}
use Rattle.blz_line.proofs.UsualSteps.{leaves_on, leaves_less}
use Rattle.blz_line.proofs.program.run.Goals as goal

pub loop-given-init : goal.loop-given-init
unfolding run_from
loop-given-init c = record {
  within = c.requires.within;
  leaves = record {
    within = c.requires.within;
    steps = length c.args.section.now.bytes.now + 1;
    enough = omega arith;
    rest = rw (c.first-registers.ensures, c.new-given.ensures) refl;
  };
}

pub returns-then-offset-section : goal.returns-then-offset-section
returns-then-offset-section c =
    let left = leaves_on c.args.rules c.args.counts.now (section_view c.args.section.now) _ _ _ _ _ c.in_ok-offset.ensures c.loop-given.invariant.leaves in
    let enough = left.enough in
    record {
      registers = c.run_usual.new.registers;
      is = sym left.rest ∙ run_done _ _ _ left.steps (left.steps - 1) _ _ (omega (arith, enough)) (omega arith);
    }

pub loop-given-preserved : goal.loop-given-preserved
loop-given-preserved c =
    let left = leaves_on c.args.rules c.args.counts.now (section_view c.args.section.now) _ _ _ _ _ c.in_ok-offset.ensures c.loop-given.invariant.leaves in
    let stepped = step_given c.args.rules c.run_usual.new.registers c.in-Some-moved_by.moved c.in_ok-registers.registers c.run_usual.new.given c.noted.new.self c.in-Some.op (sym c.in-Some-moved_by.ensures.value) c.in_ok-registers.ensures in
    record {
      within = c.in-Some.ensures.within.1;
      leaves = leaves_less _ _ _ _ _ _ _ _ c.in-Some.op (omega arith) (sym c.in-Some.ensures.value) stepped c.in-Some.ensures.within.0 c.in-Some.ensures.within.1 left;
    }

pub returns-in_default : goal.returns-in_default
returns-in_default c =
    let left = leaves_on c.args.rules c.args.counts.now (section_view c.args.section.now) _ _ _ _ _ c.in_ok-offset.ensures c.loop-given.invariant.leaves in
    let enough = left.enough in
    fails_none _ _ c.broken.ensures (sym left.rest ∙ run_none _ _ _ left.steps (left.steps - 1) _ _ (omega (arith, enough)) (omega arith) (sym c.in_default.ensures.value))

pub returns-in_default-moved_by : goal.returns-in_default-moved_by
returns-in_default-moved_by c =
    let left = leaves_on c.args.rules c.args.counts.now (section_view c.args.section.now) _ _ _ _ _ c.in_ok-offset.ensures c.loop-given.invariant.leaves in
    let enough = left.enough in
    let stuck = step_none c.args.rules c.run_usual.new.registers c.run_usual.new.given c.in-Some.op (sym c.in_default-moved_by.ensures.value) in
    fails_none _ _ c.broken-in_default-moved_by.ensures (sym left.rest ∙ run_stuck _ _ _ left.steps (left.steps - 1) _ _ c.in-Some.op _ (omega (arith, enough)) (omega arith) (sym c.in-Some.ensures.value) stuck)

pub returns-in_err-registers : goal.returns-in_err-registers
returns-in_err-registers c =
    let p = err_from_is_err_and c.from_residual-in_err-registers.result c.from_residual-in_err-registers.ensures.1 in
    rw (p.1, p.2) (λ known. absurd (known c.in_err-registers.ensures))
