use Rattle.std.proofs.Common.{◌+◌, ◌-◌, length, sym, ap, ◌∙◌, arith}
use Rattle.std.specs.Option.{option_map}
use Rattle.blz_links.specs.NoteViews.{note_view}
use Rattle.blz_links.proofs.NoteLemmas.{build_id_among-found, build_id_among-later, build_id_among-no_note, build_id_among-none}
use Rattle.blz_links.proofs.recorded.notes.noted_build_id.Goals as goal

pub returns-in_err-note : goal.returns-in_err-note
returns-in_err-note c =
    let left = length c.args.bytes.now - c.loop.counter in
    let none = build_id_among-no_note left (left - 1) c.args.order c.args.bytes.now c.loop.at (omega arith) (sym c.in_err-note.ensures.value) in
    ap (option_map (λ id. id.now)) c.from_residual.ensures ∙ sym none ∙ c.loop.invariant

pub returns-then-is_build_id : goal.returns-then-is_build_id
returns-then-is_build_id c =
    let left = length c.args.bytes.now - c.loop.counter in
    sym (build_id_among-found left (left - 1) c.args.order c.args.bytes.now c.loop.at (note_view c.in_ok-note.note) c.in_ok-note.next (omega arith) (sym c.in_ok-note.ensures.value) (sym c.if-is_build_id.ensures))
    ∙ c.loop.invariant

pub loop-preserved : goal.loop-preserved
loop-preserved c =
    let left = length c.args.bytes.now - c.loop.counter in
    sym (build_id_among-later left (length c.args.bytes.now - (c.loop.counter + 1)) c.args.order c.args.bytes.now c.loop.at (note_view c.in_ok-note.note) c.in_ok-note.next (omega arith) (sym c.in_ok-note.ensures.value) (sym c.if-is_build_id.ensures))
    ∙ c.loop.invariant

pub returns : goal.returns
returns c = sym (build_id_among-none (length c.args.bytes.now - c.loop.counter) c.args.order c.args.bytes.now c.loop.at (omega arith)) ∙ c.loop.invariant
