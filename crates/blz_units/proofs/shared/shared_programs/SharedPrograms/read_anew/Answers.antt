use Rattle.blz_info.specs.FileSections.{sections_view}
use Rattle.blz_units.proofs.SharedPrograms.{broken_program, good_program}
use Rattle.blz_units.proofs.shared.shared_programs.SharedPrograms.read_anew.Goals as goal

pub returns-in_err-keep-in-Ok-clause-kept : goal.returns-in_err-keep-in-Ok-clause-kept
returns-in_err-keep-in-Ok-clause-kept g c =
    let s = sections_view c.args.sections.now in
    c.keep.ensures s (rw (c.in_ok-kept-in-Ok.ensures, c.program_key-key.ensures) (good_program c.args.sections.now c.args.header.now c.args.root.now c.args.at c.in-Ok.program c.in-Ok.ensures.value)) c.requires

pub returns-in_ok-keep-in-Ok-clause-kept : goal.returns-in_ok-keep-in-Ok-clause-kept
returns-in_ok-keep-in-Ok-clause-kept g c =
    let s = sections_view c.args.sections.now in
    c.keep.ensures s (rw (c.in_ok-kept-in-Ok.ensures, c.program_key-key.ensures) (good_program c.args.sections.now c.args.header.now c.args.root.now c.args.at c.in-Ok.program c.in-Ok.ensures.value)) c.requires

pub returns-in_err-keep_fault-in-Err-clause-kept : goal.returns-in_err-keep_fault-in-Err-clause-kept
returns-in_err-keep_fault-in-Err-clause-kept g c =
    let s = sections_view c.args.sections.now in
    c.keep_fault.ensures s (λ ne. rw c.program_key-key.ensures (broken_program c.args.sections.now c.args.header.now c.args.root.now c.args.at _ ne c.in-Err.ensures.value)) c.requires

pub returns-in_ok-keep_fault-in-Err-clause-kept : goal.returns-in_ok-keep_fault-in-Err-clause-kept
returns-in_ok-keep_fault-in-Err-clause-kept g c =
    let s = sections_view c.args.sections.now in
    c.keep_fault.ensures s (λ ne. rw c.program_key-key.ensures (broken_program c.args.sections.now c.args.header.now c.args.root.now c.args.at _ ne c.in-Err.ensures.value)) c.requires
